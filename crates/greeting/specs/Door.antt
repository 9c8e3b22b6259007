-- The server's side of a greeting: what is done with a datagram, and what is answered. A hello of the door's protocol is answered by a challenge, and
-- whoever repeats the challenge's number from its address may have a seat, which is a client. The number follows from the secret, so nothing is kept of
-- who has no seat.
use Rattle.std.specs.Prelude.{◌≡◌, ◌<◌, ℕ, Bool, true, false, ◌&&◌, ◌||◌, nat_lt, if◌then◌else◌, List, [], length, Option, Some, None, is_some, position, slice_index_or, slice_set, Result, Ok, Err}
use Rattle.std.specs.Str.{bytes_eq}
use Rattle.greeting.specs.declared.words.Address.{Address}
use Rattle.greeting.specs.declared.words.Sixteen.{Sixteen}
use Rattle.greeting.specs.declared.datagrams.Form.TheVariants.{Hello, OtherHello, Challenge, Answer, Welcome, Refusal, Nothing}
use Rattle.greeting.specs.declared.datagrams.Reason.{Reason}
use Rattle.greeting.specs.declared.datagrams.Reason.TheVariants.{OtherVersion, OtherProtocol, Full, TokenRefused}
use Rattle.greeting.specs.declared.door.Guest.{Guest}
use Rattle.greeting.specs.declared.door.Heard.{Heard}
use Rattle.greeting.specs.declared.door.Heard.TheVariants.{Dropped, Challenged, Refused, Asks, Again}
use Rattle.greeting.specs.declared.door.AcceptFault.{AcceptFault}
use Rattle.greeting.specs.declared.door.AcceptFault.TheVariants.{NobodyAsks, NoSeat, SeatIsTaken}
use Rattle.greeting.specs.Words.{is_same, is_equal, number_of}
use Rattle.greeting.specs.Datagrams.{form, nonce_in, number_in, protocol_in, challenge, welcome, refusal}

-- what a clause sees of a door; who has seat i is client i
pub record DoorState : Type 0 where
  pub secret : List ℕ
  pub before : List ℕ
  pub protocol : List ℕ
  pub terms : List ℕ
  pub seats : List (Option Guest)
  pub asking : Option Guest

-- ---- right answers

-- the number is that of the address and the nonce, under a secret or the one before it
abbrev pub is_right_number : List ℕ → List ℕ → Address → Sixteen → Sixteen → Bool
is_right_number secret before a nonce number = is_equal number (number_of secret a nonce) || is_equal number (number_of before a nonce)

abbrev pub IsRight : List ℕ → List ℕ → Address → List ℕ → Type 0
IsRight secret before a bytes = (form bytes ≡ Answer) × (is_right_number secret before a (nonce_in bytes) (number_in bytes) ≡ true)

-- ---- seats

abbrev pub is_guest : Address → Sixteen → Guest → Bool
is_guest a nonce g = is_same g.address a && is_equal g.nonce nonce

abbrev pub is_held_by : Address → Sixteen → Option Guest → Bool
is_held_by a nonce None = false
is_held_by a nonce (Some g) = is_guest a nonce g

abbrev pub is_free : Option Guest → Bool
is_free None = true
is_free (Some g) = false

-- the seat of who answered with this nonce from this address
abbrev pub seat_of : DoorState → Address → Sixteen → Option ℕ
seat_of d a nonce = position (is_held_by a nonce) d.seats

abbrev pub has_room : DoorState → Bool
has_room d = is_some (position is_free d.seats)

-- ---- what is done with a datagram

-- with a right answer with this nonce
abbrev pub Admits : DoorState → Address → Sixteen → Heard → Type 0
Admits d a nonce (Again client) = seat_of d a nonce ≡ Some client
Admits d a nonce Asks = (seat_of d a nonce ≡ None) × (has_room d ≡ true)
Admits d a nonce (Refused Full) = (seat_of d a nonce ≡ None) × (has_room d ≡ false)
Admits d a nonce heard = ⊥

abbrev pub Hears : DoorState → Address → List ℕ → Heard → Type 0
Hears d a bytes Challenged = (form bytes ≡ Hello) × (bytes_eq (protocol_in bytes) d.protocol ≡ true)
Hears d a bytes (Refused OtherProtocol) = (form bytes ≡ Hello) × (bytes_eq (protocol_in bytes) d.protocol ≡ false)
Hears d a bytes (Refused OtherVersion) = form bytes ≡ OtherHello
Hears d a bytes Dropped =
    (form bytes ≡ Hello → ⊥) × (form bytes ≡ OtherHello → ⊥) × (IsRight d.secret d.before a bytes → ⊥)
Hears d a bytes heard = IsRight d.secret d.before a bytes × Admits d a (nonce_in bytes) heard

-- what goes back to where a nonce came from
abbrev pub reply_to : DoorState → Address → Sixteen → Heard → List ℕ
reply_to d a nonce Challenged = challenge nonce (number_of d.secret a nonce)
reply_to d a nonce (Refused reason) = refusal nonce reason
reply_to d a nonce (Again client) = welcome nonce client d.terms
reply_to d a nonce heard = []

abbrev pub reply_of : DoorState → Address → List ℕ → Heard → List ℕ
reply_of d a bytes heard = reply_to d a (nonce_in bytes) heard

-- who waits for the game's decision then
abbrev pub asker_of : Address → Sixteen → Heard → Option Guest
asker_of a nonce Asks = Some (record { address = a; nonce = nonce })
asker_of a nonce heard = None

abbrev pub asking_of : Address → List ℕ → Heard → Option Guest
asking_of a bytes heard = asker_of a (nonce_in bytes) heard

-- ---- what the game decides

abbrev pub seat_answer : List (Option Guest) → ℕ → Result (Unit {0}) AcceptFault
seat_answer seats client =
    if nat_lt client (length seats) then (if is_free (slice_index_or seats client None) then Ok tt else Err SeatIsTaken) else Err NoSeat

-- whether who asks may have this client
abbrev pub accept_answer : DoorState → ℕ → Result (Unit {0}) AcceptFault
accept_answer d client = if is_some d.asking then seat_answer d.seats client else Err NobodyAsks

abbrev pub seated : DoorState → ℕ → Guest → DoorState
seated d client g = record d { seats = slice_set d.seats client (Some g); asking = None }
