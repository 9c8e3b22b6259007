-- The moves of ticks that take none.
use Rattle.std.specs.Prelude.{ℕ, List, replicate, Option, None}
use Rattle.tn_types.specs.declared.moves.MoveBits.{MoveBits}
use Rattle.match_script.specs.declared.types.Script.{Script}
use Rattle.legal_race.specs.race_course.Messages.{Ticks, ticks_in}

-- no move of any client
abbrev pub idle_row : ℕ → List (Option MoveBits)
idle_row clients = replicate clients None

abbrev pub idle : ℕ → ℕ → Ticks
idle ticks clients = replicate ticks (idle_row clients)

-- those of all ticks of a script
abbrev pub idle_in : Script → Ticks
idle_in script = idle (ticks_in script.body) script.head.clients
