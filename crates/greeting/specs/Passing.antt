-- What passed at a door, the newest first: datagrams with what was answered, clients that were given, and secrets. By it two things are said: to an address
-- that never answered a challenge go no more bytes than came from it, and a client is given just to who answered one, once for each nonce.
use Rattle.std.specs.Prelude.{ℕ, ◌≡◌, ◌+◌, ◌≤◌, ◌==◌, ◌&&◌, ◌||◌, Bool, true, false, if◌then◌else◌, List, [], ◌∷◌, length, Option, Some, None, IfSome, slice_index_or}
use Rattle.greeting.specs.declared.words.Address.{Address}
use Rattle.greeting.specs.declared.datagrams.Form.TheVariants.{Answer}
use Rattle.greeting.specs.declared.door.Guest.{Guest}
use Rattle.greeting.specs.Words.{is_same, is_equal}
use Rattle.greeting.specs.Datagrams.{form, is_answer, nonce_in, number_in}
use Rattle.greeting.specs.Door.{DoorState, is_right_number, is_guest}

pub data Passing : Type 0 where
  -- a datagram came from an address, and this went back: nothing if it has no bytes
  Came : (from : Address) → (bytes reply : List ℕ) → Passing
  -- the game gave a client to who asked
  Given : (to : Guest) → (client : ℕ) → (reply : List ℕ) → Passing
  -- the game turned away who asked
  Turned : (to : Guest) → (reply : List ℕ) → Passing
  -- a client left
  Left : (client : ℕ) → Passing
  -- there is another secret
  Renewed : (secret : List ℕ) → Passing

-- ---- bytes

-- the bytes of a datagram, if it is of this address
abbrev pub bytes_if : Bool → List ℕ → ℕ
bytes_if true bytes = length bytes
bytes_if false bytes = 0

abbrev pub came_from : Address → List Passing → ℕ
came_from a [] = 0
came_from a (Came b bytes reply ∷ log) = bytes_if (is_same a b) bytes + came_from a log
came_from a (other ∷ log) = came_from a log

abbrev pub went_to : Address → List Passing → ℕ
went_to a [] = 0
went_to a (Came b bytes reply ∷ log) = bytes_if (is_same a b) reply + went_to a log
went_to a (Given g client reply ∷ log) = bytes_if (is_same a g.address) reply + went_to a log
went_to a (Turned g reply ∷ log) = bytes_if (is_same a g.address) reply + went_to a log
went_to a (other ∷ log) = went_to a log

-- ---- secrets: the one that holds, and the one before it, which at first is the same

abbrev pub secret_by : List ℕ → List Passing → List ℕ
secret_by first [] = first
secret_by first (Renewed secret ∷ log) = secret
secret_by first (other ∷ log) = secret_by first log

abbrev pub before_by : List ℕ → List Passing → List ℕ
before_by first [] = first
before_by first (Renewed secret ∷ log) = secret_by first log
before_by first (other ∷ log) = before_by first log

-- ---- who answered a challenge

-- this datagram, which came after a log, is a right answer of the address from which it came
abbrev pub is_right_after : List ℕ → List Passing → Address → List ℕ → Bool
is_right_after first log a bytes =
    is_answer (form bytes) && is_right_number (secret_by first log) (before_by first log) a (nonce_in bytes) (number_in bytes)

abbrev pub has_answered : List ℕ → Address → List Passing → Bool
has_answered first a [] = false
has_answered first a (Came b bytes reply ∷ log) = (is_same a b && is_right_after first log b bytes) || has_answered first a log
has_answered first a (other ∷ log) = has_answered first a log

-- from its address, with its nonce
abbrev pub has_asked : List ℕ → Guest → List Passing → Bool
has_asked first g [] = false
has_asked first g (Came b bytes reply ∷ log) =
    (is_guest b (nonce_in bytes) g && is_right_after first log b bytes) || has_asked first g log
has_asked first g (other ∷ log) = has_asked first g log

-- ---- who has which client

abbrev pub guest_by : List Passing → ℕ → Option Guest
guest_by [] i = None
guest_by (Given g client reply ∷ log) i = if client == i then Some g else guest_by log i
guest_by (Left client ∷ log) i = if client == i then None else guest_by log i
guest_by (other ∷ log) i = guest_by log i

-- ---- what holds of each door

-- to an address that never answered a challenge went no more bytes than came from it
abbrev pub IsFair : List ℕ → List Passing → Type 0
IsFair first log = (a : Address) → has_answered first a log ≡ false → went_to a log ≤ came_from a log

-- who has this nonce and address has no client
abbrev pub HasNone : Guest → List Passing → Type 0
HasNone g log = (i : ℕ) → guest_by log i ≡ Some g → ⊥

-- each client was nobody's when it was given, and went to who had answered a challenge, and had none
abbrev pub IsRightly : List ℕ → List Passing → Type 0
IsRightly first [] = Unit {0}
IsRightly first (Given g client reply ∷ log) =
    (has_asked first g log ≡ true) × (guest_by log client ≡ None) × HasNone g log × IsRightly first log
IsRightly first (other ∷ log) = IsRightly first log

-- a door that began with this secret is that of the log
pub record StandsFor (first : List ℕ) (d : DoorState) (log : List Passing) : Type 0 where
  pub secret : d.secret ≡ secret_by first log
  pub before : d.before ≡ before_by first log
  pub seats : (i : ℕ) → slice_index_or d.seats i None ≡ guest_by log i
  pub asks : IfSome d.asking (λ g. (has_asked first g log ≡ true) × HasNone g log)
  pub fair : IsFair first log
  pub rightly : IsRightly first log

-- for every log that the old door stood for, the new one stands for it with what passed
abbrev pub Does : DoorState → Passing → DoorState → Type 0
Does old passing new = (first : List ℕ) (log : List Passing) → StandsFor first old log → StandsFor first new (passing ∷ log)
