-- What an inbox holds: the bytes that were gathered, and what they are. A piece that no honest end sends after those that came is
-- a fault, and no piece is taken after one.
use Rattle.std.specs.Prelude.{◌≡◌, ℕ, ◌+◌, ◌-◌, ◌*◌, ◌<◌, ◌≤◌, List, [], ◌∷◌, if◌then◌else◌, nat_le, nat_lt, length, Option, Some, None, Result, Ok, Err, refl}
use Rattle.messages.specs.declared.form.Form.{Form}
use Rattle.messages.specs.declared.form.Form.TheVariants.{Short, Alone, First, Middle, Last}
use Rattle.messages.specs.declared.faults.SmallPlace.{SmallPlace}
use Rattle.messages.specs.declared.faults.PieceFault.{PieceFault}
use Rattle.messages.specs.declared.faults.PieceFault.TheVariants.{Empty, UnknownForm, NotBegun, NotEnded, OnePiece, MoreBytes, FewerBytes, TooLong}
use Rattle.messages.specs.declared.inbox.Stage.{Stage}
use Rattle.messages.specs.declared.inbox.Stage.TheVariants.{Idle, Begun, Whole}
use Rattle.messages.specs.declared.limits.TheConstants.{MAX_MESSAGE_BYTES, MAX_SINGLE_BYTES, FIRST_BYTES}
use Rattle.messages.specs.Forms.{form_of}
use Rattle.messages.specs.Pieces.{Parcel}

pub record InboxState : Type 0 where
  pub gathered : List ℕ
  pub room : ℕ
  pub stage : Stage
  pub fault : Option PieceFault

-- the parcel that waits to be handed out, if one is whole
abbrev pub parcel_at : Stage → List ℕ → Option Parcel
parcel_at Idle bytes = None
parcel_at (Begun n) bytes = None
parcel_at (Whole kind) bytes = Some (record { kind = kind; bytes = bytes })

abbrev pub waiting : InboxState → Option Parcel
waiting b = parcel_at b.stage b.gathered

-- less came of a message than it has, and it has room; what is idle holds nothing
abbrev pub IsInRoom : Stage → ℕ → ℕ → Type 0
IsInRoom Idle came room = came ≡ 0
IsInRoom (Begun n) came room = (came < n) × (n ≤ room) × (n ≤ MAX_MESSAGE_BYTES)
IsInRoom (Whole kind) came room = came ≤ MAX_MESSAGE_BYTES

-- ---- the fault of a piece

abbrev pub long_fault : ℕ → ℕ → Option PieceFault
long_fault n room = if nat_lt room n then Some (TooLong n room) else None

-- the first piece of a message of n bytes, with so many of them
abbrev pub first_fault : ℕ → ℕ → ℕ → Option PieceFault
first_fault n count room =
    if nat_le n MAX_SINGLE_BYTES then Some (OnePiece n) else (if nat_lt count FIRST_BYTES then Some FewerBytes else long_fault n room)

abbrev pub length_of : ℕ → ℕ → ℕ
length_of low high = low + 256 * high

-- of a piece with which a parcel begins
abbrev pub begin_fault : Form → List ℕ → ℕ → Option PieceFault
begin_fault Short bytes room = long_fault (length bytes) room
begin_fault Alone bytes room = long_fault (length bytes) room
begin_fault First [] room = Some FewerBytes
begin_fault First (low ∷ []) room = Some FewerBytes
begin_fault First (low ∷ high ∷ bytes) room = first_fault (length_of low high) (length bytes) room
begin_fault Middle bytes room = Some NotBegun
begin_fault Last bytes room = Some NotBegun

-- of a piece with so many bytes, where a message has so many left
abbrev pub more_fault : Form → ℕ → ℕ → Option PieceFault
more_fault Short count left = Some NotEnded
more_fault Alone count left = Some NotEnded
more_fault First count left = Some NotEnded
more_fault Middle count left =
    if nat_le left MAX_SINGLE_BYTES then Some MoreBytes else (if nat_lt count MAX_SINGLE_BYTES then Some FewerBytes else None)
more_fault Last count left = if nat_lt left count then Some MoreBytes else (if nat_lt count left then Some FewerBytes else None)

abbrev pub stage_fault : Stage → Form → List ℕ → ℕ → ℕ → Option PieceFault
stage_fault Idle form bytes came room = begin_fault form bytes room
stage_fault (Whole kind) form bytes came room = begin_fault form bytes room
stage_fault (Begun n) form bytes came room = more_fault form (length bytes) (n - came)

abbrev pub form_fault : Option Form → ℕ → List ℕ → InboxState → Option PieceFault
form_fault None byte bytes b = Some (UnknownForm byte)
form_fault (Some form) byte bytes b = stage_fault b.stage form bytes (length b.gathered) b.room

abbrev pub piece_fault : List ℕ → InboxState → Option PieceFault
piece_fault [] b = Some Empty
piece_fault (byte ∷ bytes) b = form_fault (form_of byte) byte bytes b

abbrev pub answer_of : Option PieceFault → Result (Unit {0}) PieceFault
answer_of None = Ok tt
answer_of (Some fault) = Err fault

-- the fault that came before stays
abbrev pub fault_after : Option PieceFault → List ℕ → InboxState → Option PieceFault
fault_after None piece b = piece_fault piece b
fault_after (Some fault) piece b = Some fault

abbrev pub take_answer : InboxState → List ℕ → Result (Unit {0}) PieceFault
take_answer b piece = answer_of (fault_after b.fault piece b)

-- ---- of a piece that was sent unguaranteed: it has a parcel in it whole

abbrev pub loose_fault_of : Option Form → ℕ → Option PieceFault
loose_fault_of None byte = Some (UnknownForm byte)
loose_fault_of (Some Short) byte = None
loose_fault_of (Some Alone) byte = None
loose_fault_of (Some First) byte = Some NotEnded
loose_fault_of (Some Middle) byte = Some NotBegun
loose_fault_of (Some Last) byte = Some NotBegun

abbrev pub loose_fault : List ℕ → Option PieceFault
loose_fault [] = Some Empty
loose_fault (byte ∷ bytes) = loose_fault_of (form_of byte) byte

-- ---- what handing out answers

abbrev pub place_fault : Option Parcel → ℕ → Option SmallPlace
place_fault None room = None
place_fault (Some parcel) room = if nat_lt room (length parcel.bytes) then Some (record { needed = length parcel.bytes }) else None

-- ---- examples

abbrev idle : InboxState
idle = record { gathered = []; room = 100; stage = Idle; fault = None }

no_byte : take_answer idle [] ≡ Err Empty
no_byte = refl

too_long : take_answer idle (2 ∷ 101 ∷ 0 ∷ 7 ∷ []) ≡ Err FewerBytes
too_long = refl

no_form : take_answer idle (5 ∷ []) ≡ Err (UnknownForm 5)
no_form = refl

not_begun : take_answer idle (3 ∷ 7 ∷ []) ≡ Err NotBegun
not_begun = refl

one_event : take_answer idle (0 ∷ []) ≡ Ok tt
one_event = refl

-- one byte is left
abbrev nearly : InboxState
nearly = record { gathered = 1 ∷ 2 ∷ []; room = 100; stage = Begun 3; fault = None }

a_byte_more : take_answer nearly (4 ∷ 3 ∷ 4 ∷ []) ≡ Err MoreBytes
a_byte_more = refl

not_ended : take_answer nearly (0 ∷ []) ≡ Err NotEnded
not_ended = refl

just_last : take_answer nearly (4 ∷ 3 ∷ []) ≡ Ok tt
just_last = refl
