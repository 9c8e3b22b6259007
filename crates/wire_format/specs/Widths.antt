-- Each width of a part, and each number that a part has or that is reckoned from widths, is the one that docs/wire.md,
-- "Datagrams", tells: who changes one of them changes the bytes of datagrams, and has to say so here as well.
use Rattle.std.specs.Prelude.{◌≡◌, [], ◌∷◌, Some, pos, false, replicate, refl}
use Rattle.quantised_fields.specs.declared.kind.Kind.{Kind}
use Rattle.wire_format.specs.declared.widths.TheConstants.{BLOCK_COUNT_WIDTH, BLOCK_LENGTH_WIDTH, BLOCK_NUMBER_WIDTH, BYTE_WIDTH, CLIENT_FIXED_BITS, CLIENT_WIDTH, CREATE, CREATE_BITS, DATA, EVENT_COUNT_WIDTH, EVENT_LENGTH_WIDTH, FLAG_WIDTH, GHOST_COUNT_WIDTH, HEADER_BITS, HEAD_WIDTH, KILL, KILL_BITS, KIND_NUMBER_WIDTH, KIND_WIDTH, LOW_NUMBERS, LOW_NUMBER_WIDTH, LOW_VERSION, MASK_WIDTH, MAX_BLOCK_BITS, MAX_EVENT_BITS, MAX_GHOST_BITS, MAX_NUMBER, MOVE_BITS, MOVE_COUNT_WIDTH, NUMBER_WIDTH, OP_WIDTH, OWN_VERSION, PING, SERVER_FIXED_BITS, SLOT_WIDTH, STEP_WIDTH, UPDATE, UPDATE_BITS}
use Rattle.wire_format.specs.declared.events.EventItem.{EventItem}
use Rattle.wire_format.specs.declared.ghosts.GhostItem.{GhostItem}
use Rattle.wire_format.specs.declared.ghosts.GhostItem.TheVariants.{Create, Update}
use Rattle.wire_format.specs.Events.{number_width, event_size}
use Rattle.wire_format.specs.Ghosts.{kind_width, ghost_size}

-- ---- the header

packet_kind_width : KIND_WIDTH ≡ 2
packet_kind_width = refl

kind_of_data : DATA ≡ 0
kind_of_data = refl

kind_of_ping : PING ≡ 1
kind_of_ping = refl

client_width : CLIENT_WIDTH ≡ 4
client_width = refl

whole_number_width : NUMBER_WIDTH ≡ 24
whole_number_width = refl

max_number : MAX_NUMBER ≡ 16777215
max_number = refl

mask_width : MASK_WIDTH ≡ 32
mask_width = refl

head_width : HEAD_WIDTH ≡ 84
head_width = refl

header_bits : HEADER_BITS ≡ 86
header_bits = refl

-- ---- parts of several lists, and the control slot

flag_width : FLAG_WIDTH ≡ 1
flag_width = refl

slot_width : SLOT_WIDTH ≡ 8
slot_width = refl

byte_width : BYTE_WIDTH ≡ 8
byte_width = refl

-- ---- datablocks

block_count_width : BLOCK_COUNT_WIDTH ≡ 4
block_count_width = refl

block_number_width : BLOCK_NUMBER_WIDTH ≡ 6
block_number_width = refl

block_length_width : BLOCK_LENGTH_WIDTH ≡ 6
block_length_width = refl

-- ---- events

event_count_width : EVENT_COUNT_WIDTH ≡ 5
event_count_width = refl

event_length_width : EVENT_LENGTH_WIDTH ≡ 5
event_length_width = refl

low_number_width : LOW_NUMBER_WIDTH ≡ 7
low_number_width = refl

low_numbers : LOW_NUMBERS ≡ 128
low_numbers = refl

-- ---- ghosts

ghost_count_width : GHOST_COUNT_WIDTH ≡ 8
ghost_count_width = refl

op_width : OP_WIDTH ≡ 2
op_width = refl

op_of_kill : KILL ≡ 0
op_of_kill = refl

op_of_create : CREATE ≡ 1
op_of_create = refl

op_of_update : UPDATE ≡ 2
op_of_update = refl

kind_number_width : KIND_NUMBER_WIDTH ≡ 4
kind_number_width = refl

-- ---- moves

move_count_width : MOVE_COUNT_WIDTH ≡ 6
move_count_width = refl

step_width : STEP_WIDTH ≡ 4
step_width = refl

move_bits : MOVE_BITS ≡ 10
move_bits = refl

own_version : OWN_VERSION ≡ 3
own_version = refl

-- ---- packets without items, the slot of a set control flag counted, and the largest items

server_fixed_bits : SERVER_FIXED_BITS ≡ 136
server_fixed_bits = refl

client_fixed_bits : CLIENT_FIXED_BITS ≡ 121
client_fixed_bits = refl

max_block_bits : MAX_BLOCK_BITS ≡ 332
max_block_bits = refl

max_event_bits : MAX_EVENT_BITS ≡ 222
max_event_bits = refl

kill_bits : KILL_BITS ≡ 10
kill_bits = refl

create_bits : CREATE_BITS ≡ 20
create_bits = refl

update_bits : UPDATE_BITS ≡ 14
update_bits = refl

max_ghost_bits : MAX_GHOST_BITS ≡ 222
max_ghost_bits = refl

-- ---- from this version on events have low numbers and updates no kind

low_version : LOW_VERSION ≡ 2
low_version = refl

-- ---- what differs between the versions

number_widths : number_width 1 ∷ number_width 2 ∷ number_width 3 ∷ [] ≡ 24 ∷ 7 ∷ 7 ∷ []
number_widths = refl

kind_widths : kind_width 1 ∷ kind_width 2 ∷ kind_width 3 ∷ [] ≡ 4 ∷ 0 ∷ 0 ∷ []
kind_widths = refl

-- a guaranteed event of 24 bytes
abbrev long_event : EventItem
long_event = record { number = Some 0; payload = replicate 24 0 }

largest_events : event_size 1 long_event ∷ event_size 2 long_event ∷ [] ≡ 222 ∷ 205 ∷ []
largest_events = refl

-- 16 fields of 12 bits, which are 192
abbrev wide_kind : Kind
wide_kind = record { fields = replicate 16 (record { lo = pos 0; hi = pos 4095; bits = 12 }); weight = 1; always = false }

abbrev whole_update : GhostItem
whole_update = Update 0 0 65535 (replicate 16 0)

abbrev whole_create : GhostItem
whole_create = Create 0 0 0 (replicate 16 0)

largest_updates : ghost_size 1 (wide_kind ∷ []) whole_update ∷ ghost_size 2 (wide_kind ∷ []) whole_update ∷ [] ≡ 222 ∷ 218 ∷ []
largest_updates = refl

largest_creates : ghost_size 1 (wide_kind ∷ []) whole_create ∷ ghost_size 2 (wide_kind ∷ []) whole_create ∷ [] ≡ 212 ∷ 212 ∷ []
largest_creates = refl
