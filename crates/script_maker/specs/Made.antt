-- The script of a number: a header, and so many lines of rounds without end. Each round has a line at least, so that no
-- more rounds than lines are looked at.
use Rattle.std.specs.Prelude.{ℕ, List, take}
use Rattle.match_script.specs.declared.types.BodyLine.{BodyLine}
use Rattle.match_script.specs.declared.types.Script.{Script}
use Rattle.script_maker.specs.Draws.{Drawn, just, ◌>>=◌, generator, each_below}
use Rattle.script_maker.specs.Header.{objects, head_with}
use Rattle.script_maker.specs.Lines.{round}

-- the first lines of the rounds
unfoldable pub first_lines : ℕ → ℕ → Drawn (List BodyLine)
first_lines clients steps = do
  rounds ← each_below steps (round clients)
  just (take steps rounds)

unfoldable pub script_drawn : ℕ → ℕ → ℕ → Drawn Script
script_drawn seed clients steps = do
  spawns ← objects clients
  lines ← first_lines clients steps
  just (record { head = head_with seed clients spawns; body = lines })

abbrev pub made : ℕ → ℕ → ℕ → Script
made seed clients steps = (script_drawn seed clients steps (generator seed 0)).0
