-- What the telling of a line adds to a sink.
use Rattle.std.specs.Prelude.{◌≡◌, ℕ, List, Option, Some, slice_get, reverse, take}
use Rattle.match_script.specs.declared.types.BodyLine.{BodyLine}
use Rattle.match_laws.specs.Report.{line_text}
use Rattle.match_engine.specs.Match.{MatchState}

-- the text that the report has of the match's next line was added, or a front of it
abbrev pub Tells :
    (Option (List ℕ) → Option (List ℕ) → List ℕ → Type 0) → MatchState → Option (List ℕ) → Option (List ℕ) → Type 0
Tells adds m written written' = (line : BodyLine) → slice_get m.script.body m.place ≡ Some line
    → adds written written' (line_text m.script.head (reverse (take m.place m.script.body)) line)
