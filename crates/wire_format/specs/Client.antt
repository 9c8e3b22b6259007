-- A packet of a client under a version and, in version 3, a width of moves: how it is spelled, and how it is read. A ping is a header alone.
use Rattle.std.specs.Prelude.{ℕ, ◌+◌, ◌*◌, ◌<◌, ◌^◌, ◌==◌, if◌then◌else◌, sum_by, length, List, [], ◌∷◌, ◌++◌, Bool, Result, Ok}
use Rattle.std.specs.List.{AllByRecursion}
use Rattle.bit_stream.specs.Bits.{number}
use Rattle.bit_stream.specs.Reading.{Unread}
use Rattle.tn_types.specs.declared.limits.TheConstants.{MAX_PACKET_MOVES, MAX_PACKET_EVENTS}
use Rattle.wire_format.specs.declared.widths.TheConstants.{KIND_WIDTH, DATA, PING, NUMBER_WIDTH, MOVE_COUNT_WIDTH, EVENT_COUNT_WIDTH, HEADER_BITS, CLIENT_FIXED_BITS}
use Rattle.wire_format.specs.declared.fault.BitsFault.{BitsFault}
use Rattle.wire_format.specs.declared.fault.BitsCause.TheVariants.{KindBits}
use Rattle.wire_format.specs.declared.header.Header.{Header}
use Rattle.tn_types.specs.declared.choices.PacketKind.{PacketKind}
use Rattle.tn_types.specs.declared.choices.PacketKind.TheVariants as packet_kinds
use Rattle.wire_format.specs.declared.client.ClientBody.{ClientBody}
use Rattle.wire_format.specs.declared.client.ClientPacket.{ClientPacket}
use Rattle.wire_format.specs.declared.client.ClientPacket.TheVariants.{Ping, Body}
use Rattle.wire_format.specs.Reading.{◌>>=◌, parts_in_order, part_at, within_at, listed_at, AreListed, whole_of}
use Rattle.wire_format.specs.Header.{spell_header, header_at, IsHeader, IsHeaderInRange}
use Rattle.wire_format.specs.declared.wire.Wire.{Wire}
use Rattle.wire_format.specs.Moves.{spell_moves, move_at, move_width, IsMove}
use Rattle.wire_format.specs.Events.{spell_events, event_at, event_size, IsEvent, IsEventInRange}

-- ---- what stands behind the header of a data packet

abbrev pub client_rest : Wire → ClientBody → List Bool
client_rest wire p = parts_in_order (
    number NUMBER_WIDTH p.first
    ∷ spell_moves wire p.moves
    ∷ spell_events wire.version p.events
    ∷ [])

-- all that stands before the lists of a data packet
abbrev pub client_front : Header → ℕ → List Bool
client_front head first = parts_in_order (number KIND_WIDTH DATA ∷ spell_header head ∷ number NUMBER_WIDTH first ∷ [])

-- a data packet as it is written: what stands before the lists, and then each list
abbrev pub client_in_parts : Wire → ClientBody → List Bool
client_in_parts wire p = (client_front p.head p.first ++ spell_moves wire p.moves) ++ spell_events wire.version p.events

unfoldable pub client_body_at : Wire → Header → Unread → Result (ClientBody × Unread) BitsFault
client_body_at wire head s = do
  first ← part_at NUMBER_WIDTH s
  moves ← listed_at MAX_PACKET_MOVES MOVE_COUNT_WIDTH (move_at wire) first.1
  events ← listed_at MAX_PACKET_EVENTS EVENT_COUNT_WIDTH (event_at wire.version) moves.1
  Ok (record { head = head; first = first.0; moves = moves.0; events = events.0 }, events.1)

-- ---- the packet

abbrev pub client_kind : ClientPacket → ℕ
client_kind (Ping head) = PING
client_kind (Body p) = DATA

abbrev pub client_head : ClientPacket → Header
client_head (Ping head) = head
client_head (Body p) = p.head

abbrev pub behind_client_header : Wire → ClientPacket → List Bool
behind_client_header wire (Ping head) = []
behind_client_header wire (Body p) = client_rest wire p

abbrev pub spell_client : Wire → ClientPacket → List Bool
spell_client wire p = number KIND_WIDTH (client_kind p) ++ (spell_header (client_head p) ++ behind_client_header wire p)

abbrev pub client_of_kind : Wire → ℕ → Header → Unread → Result (ClientPacket × Unread) BitsFault
client_of_kind wire kind head s = if kind == PING then Ok (Ping head, s) else (do
  body ← client_body_at wire head s
  Ok (Body body.0, body.1))

unfoldable pub client_at : Wire → Unread → Result (ClientPacket × Unread) BitsFault
client_at wire s = do
  kind ← within_at KindBits DATA PING KIND_WIDTH s
  head ← header_at kind.1
  client_of_kind wire kind.0 head.0 head.1

-- the packet that these bytes are, or the first fault
abbrev pub read_client : Wire → List ℕ → Result ClientPacket BitsFault
read_client wire bytes = whole_of (client_at wire) bytes

-- the packet of this kind that a body was filled for: a ping has its header alone
abbrev pub client_meant : PacketKind → ClientBody → ClientPacket
client_meant packet_kinds.Ping body = Ping body.head
client_meant packet_kinds.Body body = Body body

-- ---- what has a spelling

-- each number fits its part
pub record IsClientBodyInRange (wire : Wire) (p : ClientBody) : Type 0 where
  pub head : IsHeaderInRange p.head
  pub first : p.first < 2 ^ NUMBER_WIDTH
  pub moves : AllByRecursion (IsMove wire) p.moves
  pub events : AllByRecursion (IsEventInRange wire.version) p.events

abbrev pub IsClientInRange : Wire → ClientPacket → Type 0
IsClientInRange wire (Ping head) = IsHeaderInRange head
IsClientInRange wire (Body p) = IsClientBodyInRange wire p

pub record IsClientBody (wire : Wire) (p : ClientBody) : Type 0 where
  pub head : IsHeader p.head
  pub first : p.first < 2 ^ NUMBER_WIDTH
  pub moves : AreListed MAX_PACKET_MOVES (IsMove wire) p.moves
  pub events : AreListed MAX_PACKET_EVENTS (IsEvent wire.version) p.events

abbrev pub IsClient : Wire → ClientPacket → Type 0
IsClient wire (Ping head) = IsHeader head
IsClient wire (Body p) = IsClientBody wire p

-- ---- how many bits it has

abbrev pub client_size : Wire → ClientPacket → ℕ
client_size wire (Ping head) = HEADER_BITS
client_size wire (Body p) = CLIENT_FIXED_BITS + move_width wire * length p.moves + sum_by (event_size wire.version) p.events
