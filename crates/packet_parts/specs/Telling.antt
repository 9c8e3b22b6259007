-- The parts of a datagram in their order, by the definitions of `wire_format`: each line of a packet's reading there is a part
-- here, read in the same way, with what it is.
use Rattle.std.specs.Prelude.{ℕ, ◌+◌, ◌/◌, ◌%◌, ◌^◌, ◌==◌, ◌-◌, min, nat_le, nat_lt, if◌then◌else◌, List, [], ◌∷◌, length, Bool, true, Option, Some, None, Result, Ok, Err}
use Rattle.quantised_fields.specs.declared.kind.Kind.{Kind}
use Rattle.tn_types.specs.declared.limits.TheConstants.{MAX_BLOCK_BYTES, MAX_EVENT_BYTES, MAX_MOVE_BITS, MAX_WORD_BITS, MAX_PACKET_BLOCKS, MAX_PACKET_EVENTS, MAX_PACKET_GHOSTS, MAX_PACKET_MOVES}
use Rattle.wire_format.specs.declared.widths.TheConstants.{BLOCK_COUNT_WIDTH, EVENT_COUNT_WIDTH, GHOST_COUNT_WIDTH, MOVE_COUNT_WIDTH}
use Rattle.packet_parts.specs.declared.widths.TheConstants.{BLOCK_LENGTH_WIDTH, BLOCK_NUMBER_WIDTH, BYTE_WIDTH, CLIENT_WIDTH, CREATE, DATA, EVENT_LENGTH_WIDTH, FLAG_WIDTH, KILL, KIND_NUMBER_WIDTH, KIND_WIDTH, MASK_WIDTH, MAX_NUMBER, NUMBER_WIDTH, OP_WIDTH, OWN_VERSION, PING, SLOT_WIDTH, STEP_WIDTH, UPDATE}
use Rattle.wire_format.specs.declared.fault.BitsCause.TheVariants as causes
use Rattle.wire_format.specs.Reading.{part_at, within_at}
use Rattle.wire_format.specs.Events.{is_low, number_width}
use Rattle.wire_format.specs.declared.wire.Wire.{Wire}
use Rattle.wire_format.specs.Ghosts.{widths, kind_number_at, field_mask_at, held_in}
use Rattle.packet_parts.specs.declared.part.PartName.{PartName}
use Rattle.packet_parts.specs.declared.part.PartName.TheVariants as names
use Rattle.packet_parts.specs.declared.packets.Telling.{Telling}
use Rattle.packet_parts.specs.declared.items.Item.{Item}
use Rattle.packet_parts.specs.declared.items.Item.TheVariants as items
use Rattle.packet_parts.specs.Parts.{Told, Stop, ◌>>=◌, told, counted_told, begun, ended}

-- ---- the header

unfoldable pub header_told : Told → Result (Unit {0} × Told) Stop
header_told s = do
  client ← told names.Client CLIENT_WIDTH (part_at CLIENT_WIDTH) s
  seq ← told names.Seq NUMBER_WIDTH (within_at causes.ZeroSeq 1 MAX_NUMBER NUMBER_WIDTH) client.1
  horizon ← told names.Horizon NUMBER_WIDTH (part_at NUMBER_WIDTH) seq.1
  mask ← told names.Mask MASK_WIDTH (part_at MASK_WIDTH) horizon.1
  Ok (tt, mask.1)

-- ---- parts of several lists

-- a flag, and behind a set one a number
unfoldable pub optional_told : PartName → PartName → ℕ → Told → Result (Unit {0} × Told) Stop
optional_told flag_name name width s = do
  flag ← told flag_name FLAG_WIDTH (part_at FLAG_WIDTH) s
  if flag.0 == 0 then Ok (tt, flag.1) else (do
    n ← told name width (part_at width) flag.1
    Ok (tt, n.1))

unfoldable pub byte_told : PartName → Told → Result (Unit {0} × Told) Stop
byte_told name s = do
  byte ← told name BYTE_WIDTH (part_at BYTE_WIDTH) s
  Ok (tt, byte.1)

-- ---- datablocks, events and moves

unfoldable pub block_told : Told → Result (Unit {0} × Told) Stop
block_told s = do
  number ← told names.BlockNumber BLOCK_NUMBER_WIDTH (part_at BLOCK_NUMBER_WIDTH) s
  count ← told names.BlockLength BLOCK_LENGTH_WIDTH (within_at causes.LengthBits 0 MAX_BLOCK_BYTES BLOCK_LENGTH_WIDTH) number.1
  counted_told (byte_told names.BlockByte) count.0 count.1

unfoldable pub event_told : ℕ → Told → Result (Unit {0} × Told) Stop
event_told version s = do
  number ← optional_told names.EventFlag names.EventNumber (number_width version) s
  count ← told names.EventLength EVENT_LENGTH_WIDTH (within_at causes.LengthBits 0 MAX_EVENT_BYTES EVENT_LENGTH_WIDTH) number.1
  counted_told (byte_told names.EventByte) count.0 count.1

-- in versions 1 and 2
unfoldable pub world_move_told : Told → Result (Unit {0} × Told) Stop
world_move_told s = do
  dx ← told names.StepX STEP_WIDTH (part_at STEP_WIDTH) s
  dy ← told names.StepY STEP_WIDTH (part_at STEP_WIDTH) dx.1
  fire ← told names.Fire FLAG_WIDTH (part_at FLAG_WIDTH) dy.1
  act ← told names.Use FLAG_WIDTH (part_at FLAG_WIDTH) fire.1
  Ok (tt, act.1)

-- in version 3 a move of so many bits
unfoldable pub wide_move_told : ℕ → Told → Result (Unit {0} × Told) Stop
wide_move_told width s =
    if nat_le width MAX_WORD_BITS then (do
      low ← told names.MoveLow width (part_at width) s
      Ok (tt, low.1))
    else (do
      low ← told names.MoveLow MAX_WORD_BITS (part_at MAX_WORD_BITS) s
      high ← told names.MoveHigh (width - MAX_WORD_BITS) (part_at (width - MAX_WORD_BITS)) low.1
      Ok (tt, high.1))

abbrev pub move_told : Wire → Told → Result (Unit {0} × Told) Stop
move_told w s =
    if nat_lt w.version OWN_VERSION then world_move_told s else wide_move_told (min w.move_bits MAX_MOVE_BITS) s

-- ---- ghosts

-- whether a mask has a field; with no mask each field is carried
abbrev pub carries : Option ℕ → ℕ → Bool
carries None field = true
carries (Some mask) field = mask / 2 ^ field % 2 == 1

-- the level of a field of a kind, where it is carried
unfoldable pub level_told : ℕ → Option ℕ → ℕ → ℕ → Told → Result (Unit {0} × Told) Stop
level_told kind mask field width s = if carries mask field then (do
  level ← told (names.Level kind field) width (part_at width) s
  Ok (tt, level.1))
    else Ok (tt, s)

-- the levels of the fields with these widths, from this field on
unfoldable pub levels_told : ℕ → Option ℕ → ℕ → List ℕ → Told → Result (Unit {0} × Told) Stop
levels_told kind mask field [] s = Ok (tt, s)
levels_told kind mask field (width ∷ widths) s = do
  first ← level_told kind mask field width s
  levels_told kind mask (field + 1) widths first.1

unfoldable pub create_told : List Kind → Told → Result (Unit {0} × Told) Stop
create_told kinds s = do
  kind ← told names.GhostKind KIND_NUMBER_WIDTH (kind_number_at kinds) s
  block ← told names.GhostBlock BLOCK_NUMBER_WIDTH (part_at BLOCK_NUMBER_WIDTH) kind.1
  levels_told kind.0 None 0 (widths kinds kind.0) block.1

-- from version 2 on no part tells the kind of an update: the slot held it before
abbrev pub held_told : Option ℕ → Told → Result (ℕ × Told) Stop
held_told None s = Err (record { told = s; cause = causes.UnknownSlot })
held_told (Some kind) s = Ok (kind, s)

abbrev pub update_kind_told : ℕ → List Kind → Option ℕ → Told → Result (ℕ × Told) Stop
update_kind_told version kinds held s =
    if is_low version then held_told held s else told names.GhostKind KIND_NUMBER_WIDTH (kind_number_at kinds) s

unfoldable pub update_told : ℕ → List Kind → Option ℕ → Told → Result (Unit {0} × Told) Stop
update_told version kinds held s = do
  kind ← update_kind_told version kinds held s
  mask ← told (names.FieldMask kind.0) (length (widths kinds kind.0)) (field_mask_at (length (widths kinds kind.0))) kind.1
  levels_told kind.0 (Some mask.0) 0 (widths kinds kind.0) mask.1

unfoldable pub ghost_told : ℕ → List Kind → (ℕ → Option ℕ) → Told → Result (Unit {0} × Told) Stop
ghost_told version kinds held s = do
  slot ← told names.Slot SLOT_WIDTH (part_at SLOT_WIDTH) s
  op ← told names.Op OP_WIDTH (within_at causes.OpBits KILL UPDATE OP_WIDTH) slot.1
  if op.0 == KILL then Ok (tt, op.1)
      else if op.0 == CREATE then create_told kinds op.1
      else update_told version kinds (held slot.0) op.1

-- ---- a count, and then so many items

abbrev pub item_told : Item → Told → Result (Unit {0} × Told) Stop
item_told items.Block = block_told
item_told (items.Event version) = event_told version
item_told (items.Move wire) = move_told wire
item_told (items.Ghost version kinds held) = ghost_told version kinds.now (held_in held.now)

unfoldable pub listed_told : PartName → ℕ → ℕ → (Told → Result (Unit {0} × Told) Stop) → Told → Result (Unit {0} × Told) Stop
listed_told name most width one_told s = do
  count ← told name width (within_at causes.CountBits 0 most width) s
  counted_told one_told count.0 count.1

-- ---- packets

unfoldable pub server_body_told : ℕ → List Kind → (ℕ → Option ℕ) → Told → Result (Unit {0} × Told) Stop
server_body_told version kinds held s = do
  accepted ← told names.Accepted NUMBER_WIDTH (part_at NUMBER_WIDTH) s
  control ← optional_told names.ControlFlag names.ControlSlot SLOT_WIDTH accepted.1
  blocks ← listed_told names.BlockCount MAX_PACKET_BLOCKS BLOCK_COUNT_WIDTH block_told control.1
  events ← listed_told names.EventCount MAX_PACKET_EVENTS EVENT_COUNT_WIDTH (event_told version) blocks.1
  listed_told names.GhostCount MAX_PACKET_GHOSTS GHOST_COUNT_WIDTH (ghost_told version kinds held) events.1

unfoldable pub server_told : ℕ → List Kind → (ℕ → Option ℕ) → Told → Result (Unit {0} × Told) Stop
server_told version kinds held s = do
  kind ← told names.Kind KIND_WIDTH (within_at causes.KindBits DATA PING KIND_WIDTH) s
  head ← header_told kind.1
  if kind.0 == PING then Ok (tt, head.1) else server_body_told version kinds held head.1

unfoldable pub client_body_told : Wire → Told → Result (Unit {0} × Told) Stop
client_body_told wire s = do
  first ← told names.FirstMove NUMBER_WIDTH (part_at NUMBER_WIDTH) s
  moves ← listed_told names.MoveCount MAX_PACKET_MOVES MOVE_COUNT_WIDTH (move_told wire) first.1
  listed_told names.EventCount MAX_PACKET_EVENTS EVENT_COUNT_WIDTH (event_told wire.version) moves.1

unfoldable pub client_told : Wire → Told → Result (Unit {0} × Told) Stop
client_told wire s = do
  kind ← told names.Kind KIND_WIDTH (within_at causes.KindBits DATA PING KIND_WIDTH) s
  head ← header_told kind.1
  if kind.0 == PING then Ok (tt, head.1) else client_body_told wire head.1

-- ---- whole datagrams

abbrev pub server_telling : ℕ → List Kind → (ℕ → Option ℕ) → List ℕ → Telling
server_telling version kinds held bytes = ended (server_told version kinds held (begun bytes))

abbrev pub client_telling : Wire → List ℕ → Telling
client_telling wire bytes = ended (client_told wire (begun bytes))
