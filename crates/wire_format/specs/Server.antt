-- A packet of the server under a version and a table of kinds: how it is spelled, and how it is read. A ping is a header alone.
-- What is read from version 2 on depends on the kinds that the client's slots held before the packet.
use Rattle.std.specs.Prelude.{ℕ, ◌+◌, ◌-◌, ◌<◌, ◌^◌, ◌==◌, if◌then◌else◌, is_some, sum_by, Option, List, [], ◌∷◌, ◌++◌, Bool, Result, Ok, IfSome}
use Rattle.std.specs.List.{AllByRecursion}
use Rattle.bit_stream.specs.Bits.{number}
use Rattle.bit_stream.specs.Reading.{Unread}
use Rattle.tn_types.specs.declared.limits.TheConstants.{MAX_PACKET_BLOCKS, MAX_PACKET_EVENTS, MAX_PACKET_GHOSTS}
use Rattle.wire_format.specs.declared.widths.TheConstants.{KIND_WIDTH, DATA, PING, NUMBER_WIDTH, SLOT_WIDTH, BLOCK_COUNT_WIDTH, EVENT_COUNT_WIDTH, GHOST_COUNT_WIDTH, HEADER_BITS, SERVER_FIXED_BITS}
use Rattle.wire_format.specs.declared.fault.BitsFault.{BitsFault}
use Rattle.wire_format.specs.declared.fault.BitsCause.TheVariants.{KindBits}
use Rattle.wire_format.specs.declared.header.Header.{Header}
use Rattle.tn_types.specs.declared.choices.PacketKind.{PacketKind}
use Rattle.tn_types.specs.declared.choices.PacketKind.TheVariants as packet_kinds
use Rattle.wire_format.specs.declared.server.ServerBody.{ServerBody}
use Rattle.wire_format.specs.declared.server.ServerPacket.{ServerPacket}
use Rattle.wire_format.specs.declared.server.ServerPacket.TheVariants.{Ping, Body}
use Rattle.wire_format.specs.Reading.{◌>>=◌, parts_in_order, part_at, within_at, optional, optional_at, listed_at, AreListed, whole_of}
use Rattle.wire_format.specs.Header.{spell_header, header_at, IsHeader, IsHeaderInRange}
use Rattle.wire_format.specs.Blocks.{spell_blocks, block_at, block_size, IsBlock, IsBlockInRange}
use Rattle.quantised_fields.specs.declared.kind.Kind.{Kind}
use Rattle.wire_format.specs.Ghosts.{spell_ghosts, ghost_at, ghost_size, IsGhost, IsGhostInRange, IsOfHeld}
use Rattle.wire_format.specs.Events.{spell_events, event_at, event_size, IsEvent, IsEventInRange}

-- ---- what stands behind the header of a data packet

abbrev pub server_rest : ℕ → List Kind → ServerBody → List Bool
server_rest version kinds p = parts_in_order (
    number NUMBER_WIDTH p.accepted
    ∷ optional SLOT_WIDTH p.control
    ∷ spell_blocks p.blocks
    ∷ spell_events version p.events
    ∷ spell_ghosts version kinds p.ghosts
    ∷ [])

-- all that stands before the lists of a data packet
abbrev pub server_front : Header → ℕ → Option ℕ → List Bool
server_front head accepted control = parts_in_order (
    number KIND_WIDTH DATA
    ∷ spell_header head
    ∷ number NUMBER_WIDTH accepted
    ∷ optional SLOT_WIDTH control
    ∷ [])

-- a data packet as it is written: what stands before the lists, and then each list
abbrev pub server_in_parts : ℕ → List Kind → ServerBody → List Bool
server_in_parts version kinds p =
    ((server_front p.head p.accepted p.control ++ spell_blocks p.blocks) ++ spell_events version p.events)
    ++ spell_ghosts version kinds p.ghosts

unfoldable pub server_body_at : ℕ → List Kind → (ℕ → Option ℕ) → Header → Unread → Result (ServerBody × Unread) BitsFault
server_body_at version kinds held head s = do
  accepted ← part_at NUMBER_WIDTH s
  control ← optional_at SLOT_WIDTH accepted.1
  blocks ← listed_at MAX_PACKET_BLOCKS BLOCK_COUNT_WIDTH block_at control.1
  events ← listed_at MAX_PACKET_EVENTS EVENT_COUNT_WIDTH (event_at version) blocks.1
  ghosts ← listed_at MAX_PACKET_GHOSTS GHOST_COUNT_WIDTH (ghost_at version kinds held) events.1
  Ok (record { head = head; accepted = accepted.0; control = control.0; blocks = blocks.0; events = events.0; ghosts = ghosts.0 }, ghosts.1)

-- ---- the packet

abbrev pub server_kind : ServerPacket → ℕ
server_kind (Ping head) = PING
server_kind (Body p) = DATA

abbrev pub server_head : ServerPacket → Header
server_head (Ping head) = head
server_head (Body p) = p.head

abbrev pub behind_server_header : ℕ → List Kind → ServerPacket → List Bool
behind_server_header version kinds (Ping head) = []
behind_server_header version kinds (Body p) = server_rest version kinds p

abbrev pub spell_server : ℕ → List Kind → ServerPacket → List Bool
spell_server version kinds p =
    number KIND_WIDTH (server_kind p) ++ (spell_header (server_head p) ++ behind_server_header version kinds p)

abbrev pub server_of_kind : ℕ → List Kind → (ℕ → Option ℕ) → ℕ → Header → Unread → Result (ServerPacket × Unread) BitsFault
server_of_kind version kinds held kind head s = if kind == PING then Ok (Ping head, s) else (do
  body ← server_body_at version kinds held head s
  Ok (Body body.0, body.1))

unfoldable pub server_at : ℕ → List Kind → (ℕ → Option ℕ) → Unread → Result (ServerPacket × Unread) BitsFault
server_at version kinds held s = do
  kind ← within_at KindBits DATA PING KIND_WIDTH s
  head ← header_at kind.1
  server_of_kind version kinds held kind.0 head.0 head.1

-- the packet that these bytes are, or the first fault
abbrev pub read_server : ℕ → List Kind → (ℕ → Option ℕ) → List ℕ → Result ServerPacket BitsFault
read_server version kinds held bytes = whole_of (server_at version kinds held) bytes

-- the packet of this kind that a body was filled for: a ping has its header alone
abbrev pub server_meant : PacketKind → ServerBody → ServerPacket
server_meant packet_kinds.Ping body = Ping body.head
server_meant packet_kinds.Body body = Body body

-- ---- what has a spelling

-- each number fits its part
pub record IsServerBodyInRange (version : ℕ) (kinds : List Kind) (p : ServerBody) : Type 0 where
  pub head : IsHeaderInRange p.head
  pub accepted : p.accepted < 2 ^ NUMBER_WIDTH
  pub blocks : AllByRecursion IsBlockInRange p.blocks
  pub events : AllByRecursion (IsEventInRange version) p.events
  pub ghosts : AllByRecursion (IsGhostInRange kinds) p.ghosts

abbrev pub IsServerInRange : ℕ → List Kind → ServerPacket → Type 0
IsServerInRange version kinds (Ping head) = IsHeaderInRange head
IsServerInRange version kinds (Body p) = IsServerBodyInRange version kinds p

pub record IsServerBody (version : ℕ) (kinds : List Kind) (p : ServerBody) : Type 0 where
  pub head : IsHeader p.head
  pub accepted : p.accepted < 2 ^ NUMBER_WIDTH
  pub control : IfSome p.control (λ slot. slot < 2 ^ SLOT_WIDTH)
  pub blocks : AreListed MAX_PACKET_BLOCKS IsBlock p.blocks
  pub events : AreListed MAX_PACKET_EVENTS (IsEvent version) p.events
  pub ghosts : AreListed MAX_PACKET_GHOSTS (IsGhost kinds) p.ghosts

abbrev pub IsServer : ℕ → List Kind → ServerPacket → Type 0
IsServer version kinds (Ping head) = IsHeader head
IsServer version kinds (Body p) = IsServerBody version kinds p

-- from version 2 on each update is of the kind that its slot holds
abbrev pub AreOfHeld : ℕ → (ℕ → Option ℕ) → ServerPacket → Type 0
AreOfHeld version held (Ping head) = Unit {0}
AreOfHeld version held (Body p) = AllByRecursion (IsOfHeld version held) p.ghosts

-- ---- how many bits it has

abbrev pub server_size : ℕ → List Kind → ServerPacket → ℕ
server_size version kinds (Ping head) = HEADER_BITS
server_size version kinds (Body p) =
    SERVER_FIXED_BITS - SLOT_WIDTH + (if is_some p.control then SLOT_WIDTH else 0)
    + sum_by block_size p.blocks + sum_by (event_size version) p.events + sum_by (ghost_size version kinds) p.ghosts
