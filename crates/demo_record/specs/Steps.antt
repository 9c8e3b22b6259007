-- What a line of a match adds to a demo that is being written.
use Rattle.std.specs.Prelude.{◌≡◌, ℕ, ◌∷◌, List, Option, Some, slice_get, reverse, take}
use Rattle.std.specs.List.{AllByRecursion}
use Rattle.match_script.specs.declared.types.BodyLine.{BodyLine}
use Rattle.match_engine.specs.Match.{MatchState, StandsFor}
use Rattle.demo_format.specs.Records.{spell_records, IsRecord}
use Rattle.demo_record.specs.Recording.{taken_by}

-- how a sink may go on: by these bytes, or by a front of them
abbrev pub Adding : Type 1
Adding = Option (List ℕ) → Option (List ℕ) → List ℕ → Type 0

-- what the last line of the match recorded was added, or a front of it
abbrev pub Notes : Adding → MatchState → ℕ → Option (List ℕ) → Option (List ℕ) → Type 0
Notes adds m c written written' = (line : BodyLine) (past : List BodyLine) → StandsFor m (line ∷ past)
    → adds written written' (spell_records (taken_by m.script.head past c line))

-- and what its next line records
abbrev pub Records : Adding → MatchState → ℕ → Option (List ℕ) → Option (List ℕ) → Type 0
Records adds m c written written' = (line : BodyLine) → slice_get m.script.body m.place ≡ Some line
    → adds written written' (spell_records (taken_by m.script.head (reverse (take m.place m.script.body)) c line))

-- it is short enough for a record, and so is what the next line records
abbrev pub NotesRecords : MatchState → ℕ → Type 0
NotesRecords m c = (line : BodyLine) (past : List BodyLine) → StandsFor m (line ∷ past)
    → AllByRecursion IsRecord (taken_by m.script.head past c line)

abbrev pub IsRecorded : MatchState → ℕ → Type 0
IsRecorded m c = (line : BodyLine) → slice_get m.script.body m.place ≡ Some line
    → AllByRecursion IsRecord (taken_by m.script.head (reverse (take m.place m.script.body)) c line)
