-- The lines that a report goes over are those of the text, in the text's order: of the lines behind `go`, parted into those of the match and
-- those of the relay, the lines before one are all that stand before it.
use Rattle.std.specs.Prelude.{◌≡◌, List, length, reverse}
use Rattle.relay_script.specs.declared.entries.Entry.{Entry}
use Rattle.relay_script.specs.Whole.{match_lines, relay_lines}
use Rattle.relay_report.specs.Met.{past_of}

abbrev pub StandAsInTheText : Type 0
StandAsInTheText = (entries : List Entry) → past_of (match_lines entries) (length (match_lines entries)) (reverse (relay_lines 0 entries)) ≡ reverse entries
