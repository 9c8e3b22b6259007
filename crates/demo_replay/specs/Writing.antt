-- What a line of a replay adds to a sink.
use Rattle.std.specs.Prelude.{ℕ, List, Option}
use Rattle.demo_view.specs.wire_format.declared.server.ServerPacket.{ServerPacket}
use Rattle.demo_view.specs.Stands.{ViewerState, StandsFor, terms_of}
use Rattle.demo_replay.specs.Replaying.{record_told, replayed_line, shown_behind}

-- how a sink may go on: by these bytes, or by a front of them
abbrev pub Adding : Type 1
Adding = Option (List ℕ) → Option (List ℕ) → List ℕ → Type 0

-- the line of record k was added, or a front of it
abbrev pub TellsRecord : Adding → ViewerState → ℕ → List ℕ → Option (List ℕ) → Option (List ℕ) → Type 0
TellsRecord adds v k bytes written written' = (packets : List ServerPacket) → StandsFor v packets
    → adds written written' (replayed_line (record_told (terms_of v) k bytes packets))

-- the line of what is shown was added, or a front of it
abbrev pub TellsShown : Adding → ViewerState → List ℕ → Option (List ℕ) → Option (List ℕ) → Type 0
TellsShown adds v word written written' = (packets : List ServerPacket) → StandsFor v packets
    → adds written written' (shown_behind word v.copies.kinds packets)
