-- The counts of a report. Each is a sum over the lines of the report, as values: what one line adds follows from what it
-- tells alone.
use Rattle.std.specs.Prelude.{◌≡◌, ℕ, Bool, true, false, ◌+◌, List, [], ◌∷◌, ◌++◌, length, reverse, sum_by, count_by}
use Rattle.std.specs.List.{flat_map}
use Rattle.tn_types.specs.declared.choices.Class.{Class}
use Rattle.tn_types.specs.declared.choices.Class.TheVariants.{Guaranteed, Loose}
use Rattle.tn_types.specs.declared.choices.PacketKind.TheVariants.{Ping, Body}
use Rattle.match_script.specs.declared.types.BodyLine.{BodyLine}
use Rattle.match_script.specs.declared.types.Head.{Head}
use Rattle.match_script.specs.declared.types.Script.{Script}
use Rattle.stream_manager.specs.declared.fault.ArriveFault.TheVariants as server
use Rattle.stream_manager.specs.declared.fault.ClientFault.TheVariants as client
use Rattle.match_report.specs.declared.told.Told.{Told}
use Rattle.match_report.specs.declared.told.Told.TheVariants.{Packed, Came, ServerRefused, ClientRefused}
use Rattle.tn_types.specs.declared.choices.End.TheVariants.{Server}
use Rattle.match_report.specs.declared.told.Way.TheVariants.{Down, Up}
use Rattle.match_report.specs.Text.{report_line}
use Rattle.match_engine.specs.match_laws.Report.{told_after, report}
use Rattle.match_count.specs.declared.counts.Counts.{Counts}

-- ---- what a script tells

-- what each line told, the oldest first, by the lines that were done
abbrev pub tellings_so_far : Head → List BodyLine → List Told
tellings_so_far head [] = []
tellings_so_far head (line ∷ past) = tellings_so_far head past ++ told_after head past line ∷ []

-- what each line of a script tells
unfoldable pub tellings : Script → List Told
tellings s = tellings_so_far s.head (reverse s.body)

-- written as lines, this is the report
abbrev pub TellingsAreReport : Type 0
TellingsAreReport = (s : Script) → flat_map report_line (tellings s) ≡ report s

-- ---- what a line adds to each count

abbrev pub is_guaranteed : Class → Bool
is_guaranteed Guaranteed = true
is_guaranteed Loose = false

-- `pack` lines that print `data`
abbrev pub data_in : Told → ℕ
data_in (Packed Server c place Body bytes) = 1
data_in other = 0

-- `pack` lines that print `ping`
abbrev pub pings_in : Told → ℕ
pings_in (Packed Server c place Ping bytes) = 1
pings_in other = 0

-- `down` lines that print `ok`
abbrev pub down_in : Told → ℕ
down_in (Came Down c k moves events) = 1
down_in other = 0

-- `down` and `up` lines that print `old`
abbrev pub old_in : Told → ℕ
old_in (ServerRefused Up c k (server.Old seq horizon)) = 1
old_in (ClientRefused c k (client.Old seq horizon)) = 1
old_in other = 0

-- words of guaranteed events on `down` lines
abbrev pub events_in : Told → ℕ
events_in (Came Down c k moves events) = count_by (λ e. is_guaranteed e.class) events
events_in other = 0

-- the moves that `up` lines print behind `ok`
abbrev pub moves_in : Told → ℕ
moves_in (Came Up c k moves events) = moves
moves_in other = 0

-- bytes of the datagrams that `pack` lines print
abbrev pub bytes_in : Told → ℕ
bytes_in (Packed Server c place kind bytes) = length bytes
bytes_in other = 0

-- ---- the counts

-- the counts of what these lines tell
unfoldable pub counts_of : List Told → Counts
counts_of told = record {
  data_packets = sum_by data_in told;
  pings = sum_by pings_in told;
  down = sum_by down_in told;
  old_packets = sum_by old_in told;
  events = sum_by events_in told;
  moves = sum_by moves_in told;
  bytes = sum_by bytes_in told;
}

-- one line more
abbrev pub with_line : Counts → Told → Counts
with_line n told = record {
  data_packets = n.data_packets + data_in told;
  pings = n.pings + pings_in told;
  down = n.down + down_in told;
  old_packets = n.old_packets + old_in told;
  events = n.events + events_in told;
  moves = n.moves + moves_in told;
  bytes = n.bytes + bytes_in told;
}
