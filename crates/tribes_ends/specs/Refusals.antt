-- What each call of a link refuses: the first of its tests that fails, in this order. Each test is the condition of the call below, so
-- that nothing is refused that could be done. A test that looks at what happened is said of the list of it.
use Rattle.std.specs.Prelude.{◌≡◌, refl, ℕ, ℤ, ◌^◌, ◌==◌, ◌&&◌, not, nat_lt, int_le, Bool, true, false, List, [], ◌∷◌, length, slice_get, if◌then◌else◌, Option, Some, None, is_none, Result}
use Rattle.std.specs.Option.{option_or, option_map}
use Rattle.std.specs.Result.{result_err}
use Rattle.tn_types.specs.declared.choices.Class.{Class}
use Rattle.tn_types.specs.declared.choices.Class.TheVariants.{Guaranteed, Loose}
use Rattle.tn_types.specs.declared.choices.Choice.{Choice}
use Rattle.tn_types.specs.declared.limits.TheConstants.{MAX_BLOCKS, MAX_BLOCK_BYTES, MAX_DISTANCE_LEVEL, MAX_EVENT_BYTES, MAX_FIELDS, MAX_PACKET_MOVES, MAX_READ_BYTES, MAX_SHOWN_PERIODS, MAX_SHOWS, MAX_SLOTS}
use Rattle.tn_types.specs.declared.moves.MoveBits.{MoveBits}
use Rattle.quantised_fields.specs.declared.field.FieldSpec.{FieldSpec}
use Rattle.notify_window.specs.declared.SendState.{SendState}
use Rattle.notify_window.specs.declared.SendState.TheVariants.{Held, Worn, Room}
use Rattle.event_manager.specs.declared.sender.PostFault.{PostFault}
use Rattle.ghost_model.specs.Phases.{is_up}
use Rattle.ghost_client.specs.declared.copy.GhostCopy.{GhostCopy}
use Rattle.ghost_client.specs.Copies.{copy_of}
use Rattle.stream_manager.specs.ghost_scope.Shown.{show_count, up_count, kind_in, has_control}
use Rattle.stream_manager.specs.ghost_scope.Table.{phase_of}
use Rattle.stream_manager.specs.ghost_masks.Carried.{all_carried}
use Rattle.stream_manager.specs.ghost_masks.Plan.{fields_of}
use Rattle.stream_manager.specs.datablocks.Holding.{held_of}
use Rattle.stream_manager.specs.Server as server
use Rattle.stream_manager.specs.Server.{ServerEvent, server_state, ghost_log}
use Rattle.stream_manager.specs.Client as client
use Rattle.stream_manager.specs.Client.{ClientEvent, sampled_answer, blocks_came, ghosts_came}
use Rattle.stream_manager.specs.Stands.{ConnState, ClientState, ConnStandsFor, ClientStandsFor}
use Rattle.conn_packing.specs.declared.asking.TheConstants.{MAX_PACKET_VALUES}
use Rattle.tribes_ends.specs.Codes.{post_refusal, move_refusal}
use Rattle.tribes_ends.specs.declared.refusal.Refusal.{Refusal}
use Rattle.tribes_ends.specs.declared.refusal.Refusal.TheVariants.{WrongEnd, TooLong, NoRoom, NoKind, NoBlock, NoLevel, TooManyShown, ShowsWorn, HasControl, NotShown, NoField, NotPlanned, BadValues, EventsWait, NoCopy, AtServer, AtClient}
use Rattle.tribes_ends.specs.declared.link.Side.{Side}
use Rattle.tribes_ends.specs.declared.link.Side.TheVariants.{Server, Client}

-- ---- which end

-- a call that is for the server's end alone, or for the client's
abbrev pub at_server : (ConnState → Option Refusal) → Side → Option Refusal
at_server refusal (Server c) = refusal c
at_server refusal (Client c) = Some WrongEnd

abbrev pub at_client : (ClientState → Option Refusal) → Side → Option Refusal
at_client refusal (Server c) = Some WrongEnd
at_client refusal (Client c) = refusal c

-- this holds of what is refused by what happened at the end, whichever list the end stands for
abbrev pub ByServer : (List ServerEvent → Option Refusal) → ConnState → (Option Refusal → Type 0) → Type 0
ByServer refusal c Holds = (log : List ServerEvent) → ConnStandsFor c log → Holds (refusal log)

abbrev pub ByClient : (List ClientEvent → Option Refusal) → ClientState → (Option Refusal → Type 0) → Type 0
ByClient refusal c Holds = (log : List ClientEvent) → ClientStandsFor c log → Holds (refusal log)

-- ---- numbers and lengths that are handed over

abbrev pub length_refusal : ℕ → ℕ → Option Refusal
length_refusal most count = if nat_lt most count then Some (TooLong most) else None

-- a place that has room for so many, where `needed` are
abbrev pub room_refusal : ℕ → ℕ → Option Refusal
room_refusal needed room = if nat_lt room needed then Some (NoRoom needed) else None

abbrev pub level_refusal : ℕ → Option Refusal
level_refusal level = if nat_lt MAX_DISTANCE_LEVEL level then Some (NoLevel level) else None

-- ---- objects, at the server

-- the period was shown and isn't hidden
abbrev pub is_shown : ConnState → ℕ → Bool
is_shown c n = nat_lt n (show_count c.masks.periods) && is_up (phase_of c.masks.periods n)

-- the bits are of fields of the period's kind
abbrev pub has_fields : ConnState → ℕ → ℕ → Bool
has_fields c n bits = nat_lt bits (2 ^ length (fields_of c.masks.kinds (kind_in c.masks.periods n)))

-- the bytes of the block of this number; none has a number from 64 on
abbrev pub block_at : ConnState → ℕ → Option (List ℕ)
block_at c number = if nat_lt number MAX_BLOCKS then slice_get c.blocks.blocks number else None

abbrev pub show_refusal : ℕ → ℕ → ℕ → Bool → ConnState → Option Refusal
show_refusal kind block level control c =
    if not (nat_lt kind (length c.masks.kinds)) then Some (NoKind kind)
    else if is_none (block_at c block) then Some (NoBlock block)
    else if nat_lt MAX_DISTANCE_LEVEL level then Some (NoLevel level)
    else if not (nat_lt (up_count c.masks.periods) MAX_SHOWN_PERIODS) then Some TooManyShown
    else if not (nat_lt (show_count c.masks.periods) MAX_SHOWS) then Some ShowsWorn
    else if control && has_control c.masks.periods then Some HasControl
    else None

abbrev pub hide_refusal : ℕ → ConnState → Option Refusal
hide_refusal n c = if is_shown c n then None else Some (NotShown n)

abbrev pub near_refusal : ℕ → ℕ → ConnState → Option Refusal
near_refusal n level c = if is_shown c n then level_refusal level else Some (NotShown n)

abbrev pub changed_refusal : ℕ → ℕ → ConnState → Option Refusal
changed_refusal n bits c = if not (is_shown c n) then Some (NotShown n) else if has_fields c n bits then None else Some (NoField n)

-- a period that was shown once is told of, also where it is hidden
abbrev pub slot_refusal : ℕ → ConnState → Option Refusal
slot_refusal n c = if nat_lt n (show_count c.masks.periods) then None else Some (NotShown n)

abbrev pub settled_refusal : ℕ → ℕ → ConnState → Option Refusal
settled_refusal n field c =
    if not (nat_lt n (show_count c.masks.periods)) then Some (NotShown n) else if nat_lt field MAX_FIELDS then None else Some (NoField n)

-- ---- events and moves

abbrev pub class_refusal : Class → Result ℕ PostFault → Option Refusal
class_refusal Guaranteed answer = option_map post_refusal (result_err answer)
class_refusal Loose answer = None

abbrev pub post_at_server : List ℕ → Class → ConnState → List ServerEvent → Option Refusal
post_at_server bytes class c log =
    option_or (length_refusal MAX_EVENT_BYTES (length bytes)) (class_refusal class (server.posted_at_server c.common.config log))

abbrev pub post_at_client : List ℕ → Class → ClientState → List ClientEvent → Option Refusal
post_at_client bytes class c log =
    option_or (length_refusal MAX_EVENT_BYTES (length bytes)) (class_refusal class (client.posted_at_client c.common.config log))

abbrev pub PostRefused : List ℕ → Class → Side → (Option Refusal → Type 0) → Type 0
PostRefused bytes class (Server c) Holds = ByServer (post_at_server bytes class c) c Holds
PostRefused bytes class (Client c) Holds = ByClient (post_at_client bytes class c) c Holds

-- of the move that this number is
abbrev pub sample_refusal : ℕ → ClientState → List ClientEvent → Option Refusal
sample_refusal bits c log = option_map move_refusal (result_err (sampled_answer c.common.config (record { bits = bits }) log))

abbrev pub SampleRefused : ℕ → Side → (Option Refusal → Type 0) → Type 0
SampleRefused bits (Server c) Holds = Holds (Some WrongEnd)
SampleRefused bits (Client c) Holds = ByClient (sample_refusal bits c) c Holds

abbrev pub moves_refusal : ℕ → ConnState → Option Refusal
moves_refusal room c = if nat_lt room (length c.taken) then Some (NoRoom MAX_PACKET_MOVES) else None

-- ---- datagrams

-- each event that came is handed out before the next datagram is taken
abbrev pub waiting_refusal : ℕ → Option Refusal
waiting_refusal count = if count == 0 then None else Some (EventsWait count)

abbrev pub arrival_at_server : List ℕ → ℕ → ConnState → List ServerEvent → Option Refusal
arrival_at_server bytes room c log =
    option_or (length_refusal MAX_READ_BYTES (length bytes)) (option_or (waiting_refusal (length c.common.receiver.ready))
    (option_map AtServer (result_err (server.arrive_answer c.common.config room bytes log))))

abbrev pub arrival_at_client : List ℕ → ClientState → List ClientEvent → Option Refusal
arrival_at_client bytes c log =
    option_or (length_refusal MAX_READ_BYTES (length bytes)) (option_or (waiting_refusal (length c.common.receiver.ready))
    (option_map AtClient (result_err (client.arrive_answer c.common.config c.copies.kinds bytes log))))

abbrev pub ArrivalRefused : List ℕ → ℕ → Side → (Option Refusal → Type 0) → Type 0
ArrivalRefused bytes room (Server c) Holds = ByServer (arrival_at_server bytes room c) c Holds
ArrivalRefused bytes room (Client c) Holds = ByClient (arrival_at_client bytes c) c Holds

-- the client's end asks for nothing
abbrev pub ask_refusal : ℕ → Side → Option Refusal
ask_refusal room (Server c) = room_refusal MAX_PACKET_VALUES room
ask_refusal room (Client c) = None

-- one value for each field, in its range
abbrev pub are_values : List FieldSpec → List ℤ → Bool
are_values [] [] = true
are_values [] (v ∷ vs) = false
are_values (f ∷ fs) [] = false
are_values (f ∷ fs) (v ∷ vs) = int_le f.lo v && int_le v f.hi && are_values fs vs

-- a data packet wants a plan, a value for each field that the plan carries, and room
abbrev pub seal_refusal : List ℤ → ℕ → ConnState → List ServerEvent → Option (List Choice) → Option Refusal
seal_refusal values room c log None = Some NotPlanned
seal_refusal values room c log (Some choices) =
    if are_values (all_carried c.masks.kinds (ghost_log log) choices) values then room_refusal c.common.config.size room else Some BadValues

abbrev pub pack_by : List ℤ → ℕ → ConnState → List ServerEvent → SendState → Option Refusal
pack_by values room c log Room = seal_refusal values room c log c.masks.plan
pack_by values room c log Held = room_refusal c.common.config.size room
pack_by values room c log Worn = None

abbrev pub pack_at_server : List ℤ → ℕ → ConnState → List ServerEvent → Option Refusal
pack_at_server values room c log = pack_by values room c log (server_state c.common.config log)

abbrev pub PackRefused : List ℤ → ℕ → Side → (Option Refusal → Type 0) → Type 0
PackRefused values room (Server c) Holds = ByServer (pack_at_server values room c) c Holds
PackRefused values room (Client c) Holds = Holds (room_refusal c.common.config.size room)

-- ---- blocks and copies

abbrev pub block_refusal : ℕ → ℕ → Option (List ℕ) → Option Refusal
block_refusal number room found =
    option_or (room_refusal MAX_BLOCK_BYTES room) (if is_none found then Some (NoBlock number) else None)

-- the bytes that came for this number; none has a number from 64 on
abbrev pub block_held : ℕ → List ClientEvent → Option (List ℕ)
block_held number log = if nat_lt number MAX_BLOCKS then held_of number (blocks_came log) else None

abbrev pub BlockRefused : ℕ → ℕ → Side → (Option Refusal → Type 0) → Type 0
BlockRefused number room (Server c) Holds = Holds (block_refusal number room (block_at c number))
BlockRefused number room (Client c) Holds = ByClient (λ log. block_refusal number room (block_held number log)) c Holds

-- the copy in the slot; none is in one from 256 on
abbrev pub copy_held : ℕ → List ClientEvent → Option GhostCopy
copy_held slot log = if nat_lt slot MAX_SLOTS then copy_of (ghosts_came log) slot else None

abbrev pub copy_refusal : ℕ → ℕ → Option GhostCopy → Option Refusal
copy_refusal slot room None = Some (NoCopy slot)
copy_refusal slot room (Some copy) = if nat_lt room (length copy.levels) then Some (NoRoom MAX_FIELDS) else None

abbrev pub CopyRefused : ℕ → ℕ → Side → (Option Refusal → Type 0) → Type 0
CopyRefused slot room (Server c) Holds = Holds (Some WrongEnd)
CopyRefused slot room (Client c) Holds = ByClient (λ log. copy_refusal slot room (copy_held slot log)) c Holds

-- ---- examples

-- a place that is too small comes before a number that no block has
room_first : block_refusal 70 39 None ≡ Some (NoRoom MAX_BLOCK_BYTES)
room_first = refl

no_such_copy : copy_refusal 256 16 (copy_held 256 []) ≡ Some (NoCopy 256)
no_such_copy = refl
