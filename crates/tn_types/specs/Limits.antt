-- Each limit is the number that docs/wire.md, "Limits", tells: who changes one of them changes what the theorems say, and
-- has to say so here as well.
use Rattle.std.specs.Prelude.{◌≡◌, pos, negsuc, refl}
use Rattle.tn_types.specs.declared.limits.TheConstants.{MAX_BLOCKS, MAX_BLOCKS_AHEAD, MAX_BLOCK_BYTES, MAX_CLIENTS, MAX_DATAGRAMS, MAX_DATAGRAM_BYTES, MAX_DISTANCE_LEVEL, MAX_EVENTS_AHEAD, MAX_EVENT_BYTES, MAX_FIELDS, MAX_FIELD_BITS, MAX_KINDS, MAX_KIND_BITS, MAX_LIFE, MAX_LISTED_FIELDS, MAX_MOVE_BITS, MAX_OBJECTS, MAX_PACKET_BLOCKS, MAX_PACKET_EVENTS, MAX_PACKET_GHOSTS, MAX_PACKET_MOVES, MAX_READ_BYTES, MAX_SHOWN_PERIODS, MAX_SHOWS, MAX_SKIPS, MAX_SLOTS, MAX_STEP, MAX_UNACKNOWLEDGED_EVENTS, MAX_UNACKNOWLEDGED_MOVES, MAX_UNJUDGED_PACKETS, MAX_WAITING_EVENTS, MAX_WAITING_MOVES, MAX_WORD_BITS, MIN_DATAGRAM_BYTES, MIN_STEP, WORLD_MOVE_BITS}

max_clients : MAX_CLIENTS ≡ 16
max_clients = refl

min_datagram_bytes : MIN_DATAGRAM_BYTES ≡ 128
min_datagram_bytes = refl

max_datagram_bytes : MAX_DATAGRAM_BYTES ≡ 1200
max_datagram_bytes = refl

max_read_bytes : MAX_READ_BYTES ≡ 65536
max_read_bytes = refl

max_life : MAX_LIFE ≡ 16777215
max_life = refl

max_datagrams : MAX_DATAGRAMS ≡ 4294967295
max_datagrams = refl

max_unjudged_packets : MAX_UNJUDGED_PACKETS ≡ 32
max_unjudged_packets = refl

max_word_bits : MAX_WORD_BITS ≡ 32
max_word_bits = refl

max_kinds : MAX_KINDS ≡ 16
max_kinds = refl

max_fields : MAX_FIELDS ≡ 16
max_fields = refl

max_listed_fields : MAX_LISTED_FIELDS ≡ 32
max_listed_fields = refl

max_field_bits : MAX_FIELD_BITS ≡ 24
max_field_bits = refl

max_kind_bits : MAX_KIND_BITS ≡ 192
max_kind_bits = refl

max_blocks : MAX_BLOCKS ≡ 64
max_blocks = refl

max_block_bytes : MAX_BLOCK_BYTES ≡ 40
max_block_bytes = refl

max_blocks_ahead : MAX_BLOCKS_AHEAD ≡ 16
max_blocks_ahead = refl

max_event_bytes : MAX_EVENT_BYTES ≡ 24
max_event_bytes = refl

max_events_ahead : MAX_EVENTS_AHEAD ≡ 64
max_events_ahead = refl

max_unacknowledged_events : MAX_UNACKNOWLEDGED_EVENTS ≡ 256
max_unacknowledged_events = refl

max_waiting_events : MAX_WAITING_EVENTS ≡ 64
max_waiting_events = refl

max_move_bits : MAX_MOVE_BITS ≡ 64
max_move_bits = refl

world_move_bits : WORLD_MOVE_BITS ≡ 10
world_move_bits = refl

max_unacknowledged_moves : MAX_UNACKNOWLEDGED_MOVES ≡ 32
max_unacknowledged_moves = refl

max_waiting_moves : MAX_WAITING_MOVES ≡ 32
max_waiting_moves = refl

max_packet_blocks : MAX_PACKET_BLOCKS ≡ 15
max_packet_blocks = refl

max_packet_events : MAX_PACKET_EVENTS ≡ 31
max_packet_events = refl

max_packet_ghosts : MAX_PACKET_GHOSTS ≡ 128
max_packet_ghosts = refl

max_packet_moves : MAX_PACKET_MOVES ≡ 32
max_packet_moves = refl

max_slots : MAX_SLOTS ≡ 256
max_slots = refl

max_shown_periods : MAX_SHOWN_PERIODS ≡ 1024
max_shown_periods = refl

max_shows : MAX_SHOWS ≡ 4294967295
max_shows = refl

max_distance_level : MAX_DISTANCE_LEVEL ≡ 3
max_distance_level = refl

max_objects : MAX_OBJECTS ≡ 1024
max_objects = refl

max_skips : MAX_SKIPS ≡ 65535
max_skips = refl

min_step : MIN_STEP ≡ negsuc 7
min_step = refl

max_step : MAX_STEP ≡ pos 7
max_step = refl
