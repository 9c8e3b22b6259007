-- The report of a relay script: a line for each line of the relay, and none for those of the match. What a line tells is what the server
-- that serves the spectator alone tells of it, by what the spectator met before.
use Rattle.std.specs.Prelude.{ℕ, List, [], ◌∷◌, ◌++◌, reverse, codes}
use Rattle.std.specs.Fmt.{decimal}
use Rattle.match_script.specs.declared.types.Head.{Head}
use Rattle.match_report.specs.Text.{report_line}
use Rattle.match_report.specs.Replays.{shown_line}
use Rattle.match_report.specs.declared.told.Told.{Told}
use Rattle.match_report.specs.declared.told.Told.TheVariants as told_as
use Rattle.own_lists.specs.pair_core.stream_manager.Limits.{Terms}
use Rattle.own_lists.specs.Kept.{kept, undrained}
use Rattle.relay_script.specs.declared.entries.Entry.{Entry}
use Rattle.relay_script.specs.declared.types.PlacedLine.{PlacedLine}
use Rattle.relay_script.specs.declared.types.RelayLine.{RelayLine}
use Rattle.relay_script.specs.declared.types.RelayLine.TheVariants.{Scan, Pack, ClientPack, Down, Up, Show}
use Rattle.relay_script.specs.declared.types.RelayScript.{RelayScript}
use Rattle.relay_model.specs.Watching.{WatchEvent, watched, copy_at}
use Rattle.relay_model.specs.Items.{shown_of, items_of}
use Rattle.match_engine.specs.client_seat.Told.{scan_told, pack_told, client_pack_told, brought_down_told, brought_up_told, show_told}
use Rattle.relay_report.specs.Met.{past_of, spectator_terms, met}

-- ---- what is told

-- the spectator that a line names
abbrev pub named : RelayLine → ℕ
named (Scan s) = s
named (Pack s) = s
named (ClientPack s) = s
named (Down s k) = s
named (Up s k) = s
named (Show s) = s

-- what a line tells of the spectator that it names, by what this met before
abbrev pub told_of : Terms → List WatchEvent → RelayLine → Told
told_of t events (Scan s) = scan_told s [] [] (shown_of t.kinds (copy_at events) (watched events))
told_of t events (Pack s) = pack_told t (kept t (items_of t events)) s
told_of t events (ClientPack s) = client_pack_told s t (kept t (items_of t events)).course.steps
told_of t events (Down s k) = brought_down_told s k t (kept t (items_of t events)).course.steps
told_of t events (Up s k) = brought_up_told s k t (kept t (items_of t events)).course
told_of t events (Show s) = show_told t (kept t (items_of t events)).course s (undrained (kept t (items_of t events)))

-- ---- the text

abbrev pub scan_words : ℕ → ℕ → List ℕ
scan_words s shows = codes "r scan " ++ decimal s ++ codes " show " ++ decimal shows ++ codes "\n"

abbrev pub show_words : ℕ → List ℕ
show_words s = codes "r show " ++ decimal s

-- a line as a match's report has it, behind `r `; of a scan and of what a spectator has less is said
abbrev pub relay_text : Told → List ℕ
relay_text (told_as.Scan s hides nears shows) = scan_words s shows
relay_text (told_as.Show s events sampled accepted taken control copies) = shown_line (show_words s) events copies
relay_text told = codes "r " ++ report_line told

-- what a line of the relay prints after these lines, where client c is the relay
abbrev pub line_text : Head → ℕ → List Entry → RelayLine → List ℕ
line_text head c past line = relay_text (told_of (spectator_terms head (named line)) (met head c (named line) past) line)

-- what these lines of the relay print, the newest first
abbrev pub report_so_far : RelayScript → List PlacedLine → List ℕ
report_so_far r [] = []
report_so_far r (placed ∷ earlier) =
    report_so_far r earlier ++ line_text r.script.head r.client (past_of r.script.body placed.behind earlier) placed.line

-- the whole report
unfoldable pub relay_report : RelayScript → List ℕ
relay_report r = report_so_far r (reverse r.lines)
