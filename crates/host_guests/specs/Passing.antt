-- What passes a socket that anybody may reach, and how much of it goes where. A log has what came and what went, the newest first. Who answers a
-- challenge from an address reads what is sent there.
use Rattle.std.specs.Prelude.{ℕ, ◌≡◌, ◌+◌, ◌≤◌, Bool, true, false, List, [], ◌∷◌, length, take, Option, Some, None, Result, Ok, Err, ◌⊎◌}
use Rattle.datagram_tags.specs.declared.sides.Side.TheVariants.{Client}
use Rattle.tn_outside.specs.declared.failed.Failed.{Failed}
use Rattle.greeting.specs.declared.words.Address.{Address}
use Rattle.greeting.specs.Words.{is_same}
use Rattle.greeting.specs.Door.{IsRight}
use Rattle.host_guests.specs.declared.keys.TheConstants.{GREETING_NUMBER}
use Rattle.host_guests.specs.Keys.{Carries}

-- a datagram that came from an address, or went to it
pub data Passing : Type 0 where
  Came : (from : Address) → (datagram : List ℕ) → Passing
  Went : (to : Address) → (datagram : List ℕ) → Passing

-- the bytes of a datagram, if it is of this address
abbrev pub bytes_if : Bool → List ℕ → ℕ
bytes_if true bytes = length bytes
bytes_if false bytes = 0

-- how many bytes came from an address
abbrev pub came_from : Address → List Passing → ℕ
came_from a [] = 0
came_from a (Came b datagram ∷ log) = bytes_if (is_same a b) datagram + came_from a log
came_from a (Went b datagram ∷ log) = came_from a log

-- how many bytes went to it
abbrev pub went_to : Address → List Passing → ℕ
went_to a [] = 0
went_to a (Came b datagram ∷ log) = went_to a log
went_to a (Went b datagram ∷ log) = bytes_if (is_same a b) datagram + went_to a log

-- a datagram from this address carries a right answer to a challenge, under a key and a secret
abbrev pub IsAnswer : Option (List ℕ) → List ℕ → Address → List ℕ → Type 0
IsAnswer key secret a datagram =
    (bytes : List ℕ) × Carries key Client GREETING_NUMBER datagram bytes × IsRight secret secret a bytes

-- among what came from an address is a right answer
abbrev pub HasAnswered : Option (List ℕ) → List ℕ → Address → List Passing → Type 0
HasAnswered key secret a [] = ⊥
HasAnswered key secret a (Came b datagram ∷ log) =
    ((is_same a b ≡ true) × IsAnswer key secret b datagram) ⊎ HasAnswered key secret a log
HasAnswered key secret a (Went b datagram ∷ log) = HasAnswered key secret a log

-- to an address that never answered a challenge went no more bytes than came from it
abbrev pub IsFair : Option (List ℕ) → List ℕ → List Passing → Type 0
IsFair key secret log = (a : Address) → (HasAnswered key secret a log → ⊥) → went_to a log ≤ came_from a log

-- ---- what a call of a socket adds to the log, where it is told

-- a datagram went to an address, if the system took it
abbrev pub Goes : Option (List Passing) → Option (List Passing) → Bool → Address → List ℕ → Type 0
Goes None new result to datagram = new ≡ None
Goes (Some log) new true to datagram = new ≡ Some (Went to datagram ∷ log)
Goes (Some log) new false to datagram = new ≡ Some log

-- a datagram came, and stands in the front of the buffer
abbrev pub Comes : Option (List Passing) → Option (List Passing) → Result (Option (Address × ℕ)) Failed → List ℕ → Type 0
Comes None new result buf = new ≡ None
Comes (Some log) new (Ok (Some x)) buf = new ≡ Some (Came x.0 (take x.1 buf) ∷ log)
Comes (Some log) new (Ok None) buf = new ≡ Some log
Comes (Some log) new (Err e) buf = new ≡ Some log
