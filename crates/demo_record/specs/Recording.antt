-- The demo of a client of a match: each datagram that the client took, in order. Of a script's line `down`, where it names the
-- client and isn't refused, that is the datagram of its place; no other line has one.
use Rattle.std.specs.Prelude.{ℕ, ◌==◌, nat_lt, List, [], ◌∷◌, ◌++◌, reverse, slice_get, if◌then◌else◌, Option, Some, None}
use Rattle.std.specs.List.{AllByRecursion}
use Rattle.match_report.specs.declared.told.Way.TheVariants as way
use Rattle.match_report.specs.declared.told.EventTold.{EventTold}
use Rattle.match_report.specs.declared.told.Told.{Told}
use Rattle.match_report.specs.declared.told.Told.TheVariants as told_as
use Rattle.match_script.specs.declared.types.BodyLine.{BodyLine}
use Rattle.match_script.specs.declared.types.BodyLine.TheVariants as script
use Rattle.match_script.specs.declared.types.Head.{Head}
use Rattle.match_script.specs.declared.types.Script.{Script}
use Rattle.demo_taken.specs.demo_view.stream_manager.Limits.{Terms}
use Rattle.demo_taken.specs.demo_view.stream_manager.Server.{server_datagrams}
use Rattle.demo_taken.specs.pair_core.History.{PairStep, history}
use Rattle.own_lists.specs.Past.{client_terms}
use Rattle.match_engine.specs.match_laws.Report.{told_after}
use Rattle.match_engine.specs.match_laws.Values.{steps_of}
use Rattle.demo_format.specs.declared.head.DemoHead.{DemoHead}
use Rattle.demo_format.specs.Records.{spell_records, spell_demo, IsRecord}
use Rattle.demo_taken.specs.Taken.{taken_of}

-- what delivery k brings behind these steps
abbrev pub taken_at : Terms → List PairStep → ℕ → List (List ℕ)
taken_at t steps k = taken_of t (history t steps) (slice_get (server_datagrams t (history t steps).server) k)

-- what a line records for client c
abbrev pub taken_by : Head → List BodyLine → ℕ → BodyLine → List (List ℕ)
taken_by head past c (script.Down d k) = if d == c then taken_at (client_terms head c) (steps_of head past c) k else []
taken_by head past c line = []

-- what all lines do, the newest line first
abbrev pub taken_lines : Head → ℕ → List BodyLine → List (List ℕ)
taken_lines head c [] = []
taken_lines head c (line ∷ past) = taken_lines head c past ++ taken_by head past c line

-- the place of the datagram that a client took, if that is what a line tells
abbrev pub place_taken : ℕ → Told → Option ℕ
place_taken c (told_as.Came way.Down d k moves events) = if d == c then Some k else None
place_taken c other = None

-- the events that a line hands out to client c, if it brings a datagram that the client takes
abbrev pub events_by : ℕ → Told → List (List EventTold)
events_by c (told_as.Came way.Down d k moves events) = if d == c then events ∷ [] else []
events_by c other = []

-- those of all lines, the oldest first, by the lines that were done, the newest first
abbrev pub events_down : Head → ℕ → List BodyLine → List (List EventTold)
events_down head c [] = []
events_down head c (line ∷ past) = events_down head c past ++ events_by c (told_after head past line)

abbrev pub demo_head : Head → ℕ → DemoHead
demo_head head c = record { client = c; version = head.version; life = head.life; size = head.size }

-- the records of all lines
abbrev pub records_text : Script → ℕ → List ℕ
records_text s c = spell_records (taken_lines s.head c (reverse s.body))

-- each of them has 1 to 1,200 bytes
abbrev pub AreRecorded : Script → ℕ → Type 0
AreRecorded s c = AllByRecursion IsRecord (taken_lines s.head c (reverse s.body))

-- the demo; none where the match has no such client
unfoldable pub demo_text : Script → ℕ → List ℕ
demo_text s c = if nat_lt c s.head.clients then spell_demo (demo_head s.head c) (taken_lines s.head c (reverse s.body)) else []
