-- The guests of a link: who has which seat. Who answers its challenge from an address that has none gets the first that is free. Without a key what
-- comes from a guest's address is of the guest; under a key what carries the tag of its joining, too.
use Rattle.std.specs.Prelude.{ℕ, ◌≡◌, ◌<◌, ◌≤◌, ◌%◌, ◌==◌, Bool, true, false, List, [], ◌∷◌, length, take, Option, Some, None, IfSome, slice_index_or, slice_set}
use Rattle.datagram_tags.specs.declared.sides.Side.TheVariants.{Client, Server}
use Rattle.greeting.specs.declared.words.Address.{Address}
use Rattle.greeting.specs.declared.datagrams.Reason.TheVariants.{TokenRefused}
use Rattle.greeting.specs.declared.door.Guest.{Guest}
use Rattle.greeting.specs.declared.door.Heard.{Heard as Greeting}
use Rattle.greeting.specs.declared.door.Heard.TheVariants as greeting
use Rattle.greeting.specs.Words.{is_same}
use Rattle.greeting.specs.Datagrams.{nonce_in, number_in, welcome, refusal}
use Rattle.greeting.specs.Door.{DoorState, Hears as DoorHears, reply_of}
use Rattle.host_guests.specs.declared.keys.TheConstants.{GREETING_NUMBER}
use Rattle.host_guests.specs.declared.guests.Heard.{Heard}
use Rattle.host_guests.specs.declared.guests.Heard.TheVariants.{Joined, OfGuest, Greeted, Dropped, Stranger, Untagged}
use Rattle.host_guests.specs.Keys.{Carries}
use Rattle.host_guests.specs.Passing.{Passing, Came, Went, HasAnswered, IsFair}

-- what a clause sees; of each seat the number under which its guest's datagrams are tagged
pub record GuestsState : Type 0 where
  pub door : DoorState
  pub key : Option (List ℕ)
  pub numbers : List ℕ
  pub seats : ℕ

-- the two lowest bits of the first byte are set, as in no packet of a connection
abbrev pub is_greeting : List ℕ → Bool
is_greeting [] = false
is_greeting (kind ∷ rest) = kind % 4 == 3

-- the number of a joining, in the answer: the first eight bytes of the challenge's
abbrev pub joining_in : List ℕ → ℕ
joining_in bytes = (number_in bytes).low

abbrev pub guest_at : GuestsState → ℕ → Option Guest
guest_at g place = slice_index_or g.door.seats place None

abbrev pub number_at : GuestsState → ℕ → ℕ
number_at g place = slice_index_or g.numbers place 0

abbrev pub is_at : Address → Option Guest → Bool
is_at a None = false
is_at a (Some guest) = is_same guest.address a

-- the seat of an address among the first so many
abbrev pub SeatBelow : GuestsState → Address → ℕ → Option ℕ → Type 0
SeatBelow g a count (Some place) = (place < count) × (is_at a (guest_at g place) ≡ true)
SeatBelow g a count None = (place : ℕ) → place < count → is_at a (guest_at g place) ≡ false

abbrev pub SeatOf : GuestsState → Address → Option ℕ → Type 0
SeatOf g a seat = SeatBelow g a g.seats seat

-- nobody waits for a decision
abbrev pub unasked : DoorState → DoorState
unasked d = record d { asking = None }

-- the guest has a seat from now on, and its datagrams are tagged under this number
abbrev pub joined : GuestsState → ℕ → Guest → ℕ → GuestsState
joined g place guest number = record g {
  door = record (unasked g.door) { seats = slice_set g.door.seats place (Some guest) };
  numbers = slice_set g.numbers place number;
}

-- ---- what is done with a greeting that a datagram carries

-- who asks, from an address that has no seat, gets a free one; else it is refused
abbrev pub DecidesOn : GuestsState → Address → Guest → ℕ → GuestsState → List ℕ → Heard → Type 0
DecidesOn g a guest number new reply (Joined place) =
    SeatOf g a None × (guest_at g place ≡ None) × (new ≡ joined g place guest number) × (reply ≡ welcome guest.nonce place g.door.terms)
DecidesOn g a guest number new reply Greeted =
    (new ≡ record g { door = unasked g.door }) × (reply ≡ refusal guest.nonce TokenRefused)
DecidesOn g a guest number new reply heard = ⊥

-- what goes back, by what the door made of it: who asks in vain is refused
abbrev pub GoesBack : DoorState → Address → List ℕ → Greeting → List ℕ → Type 0
GoesBack d a bytes greeting.Asks reply = reply ≡ refusal (nonce_in bytes) TokenRefused
GoesBack d a bytes heard reply = reply ≡ reply_of d a bytes heard

abbrev pub Greets : GuestsState → Address → List ℕ → GuestsState → List ℕ → Heard → Type 0
Greets g a bytes new reply (Joined place) =
    DoorHears g.door a bytes greeting.Asks × SeatOf g a None × (guest_at g place ≡ None)
    × (new ≡ joined g place (record { address = a; nonce = nonce_in bytes }) (joining_in bytes))
    × (reply ≡ welcome (nonce_in bytes) place g.door.terms)
Greets g a bytes new reply Greeted =
    (heard : Greeting) × DoorHears g.door a bytes heard × GoesBack g.door a bytes heard reply × (new ≡ record g { door = unasked g.door })
Greets g a bytes new reply Dropped =
    DoorHears g.door a bytes greeting.Dropped × (new ≡ record g { door = unasked g.door }) × (reply ≡ [])
Greets g a bytes new reply heard = ⊥

-- ---- what is done with a datagram

abbrev pub Hears : GuestsState → Address → List ℕ → GuestsState → List ℕ → Heard → Type 0
Hears g a datagram new reply (OfGuest place count) =
    (is_greeting datagram ≡ false) × SeatOf g a (Some place) × (count ≤ length datagram)
    × Carries g.key Client (number_at g place) datagram (take count datagram) × (new ≡ g) × (reply ≡ [])
Hears g a datagram new reply Stranger = (is_greeting datagram ≡ false) × SeatOf g a None × (new ≡ g) × (reply ≡ [])
Hears g a datagram new reply Untagged =
    (number : ℕ) × ((bytes : List ℕ) → Carries g.key Client number datagram bytes → ⊥) × (new ≡ g) × (reply ≡ [])
Hears g a datagram new reply heard =
    (bytes : List ℕ) × Carries g.key Client GREETING_NUMBER datagram bytes × Greets g a bytes new reply heard

-- ---- the log

-- each guest answered a challenge, its number follows from its joining, and to nobody else went more than came from there
pub record StandsFor (g : GuestsState) (log : List Passing) : Type 0 where
  pub secret : g.door.before ≡ g.door.secret
  pub known : (place : ℕ) → IfSome (guest_at g place) (λ guest. HasAnswered g.key g.door.secret guest.address log)
  pub fair : IsFair g.key g.door.secret log

-- the datagram came, and what it is answered by may go back
abbrev pub ReceivesAt : GuestsState → Address → List ℕ → GuestsState → List ℕ → Type 0
ReceivesAt g a datagram new reply = (log : List Passing) → StandsFor g log
    → StandsFor new (Came a datagram ∷ log)
    × ((back : List ℕ) → (reply ≡ [] → ⊥) → Carries g.key Server GREETING_NUMBER back reply
    → StandsFor new (Went a back ∷ Came a datagram ∷ log))
