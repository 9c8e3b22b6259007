-- What an entrance does with its socket: the guests hear what came, what they answer goes back, and what is for a guest goes to its address.
use Rattle.std.specs.Prelude.{ℕ, ◌≡◌, Bool, true, List, [], take, Option, Some, None, IfSome, Result, Ok, Err, ◌⊎◌}
use Rattle.datagram_tags.specs.declared.sides.Side.TheVariants.{Server}
use Rattle.tn_outside.specs.declared.failed.Failed.{Failed}
use Rattle.greeting.specs.declared.words.Address.{Address}
use Rattle.host_guests.specs.declared.keys.TheConstants.{GREETING_NUMBER}
use Rattle.host_guests.specs.declared.guests.Heard.{Heard}
use Rattle.host_guests.specs.declared.guests.Heard.TheVariants.{Joined, OfGuest}
use Rattle.host_guests.specs.declared.entrance.Knock.{Knock}
use Rattle.host_guests.specs.declared.entrance.Sent.{Sent}
use Rattle.host_guests.specs.declared.entrance.Sent.TheVariants.{ToNobody, Taken, Lost}
use Rattle.host_guests.specs.Keys.{Carries}
use Rattle.host_guests.specs.Passing.{Passing, Goes, Comes}
use Rattle.host_guests.specs.Guests.{GuestsState, guest_at, number_at, Hears, StandsFor}

-- the guests are those of what passed, where it is told
abbrev pub Holds : GuestsState → Option (List Passing) → Type 0
Holds g None = Unit {0}
Holds g (Some log) = StandsFor g log

-- what a greeting is answered by goes to its address, and to nobody else anything
abbrev pub Answers : Option (List ℕ) → Option (List Passing) → Option (List Passing) → Address → List ℕ → Type 0
Answers key old new to reply =
    ((reply ≡ []) × (new ≡ old))
    ⊎ ((reply ≡ [] → ⊥) × (back : List ℕ) × (sent : Bool) × Carries key Server GREETING_NUMBER back reply × Goes old new sent to back)

-- a datagram came, the guests heard it, and its answer went
abbrev pub Passes : GuestsState → Option (List Passing) → GuestsState → Option (List Passing) → Result (Option Knock) Failed → List ℕ → Type 0
Passes g old h new (Ok (Some k)) buf =
    (between : Option (List Passing)) × (reply : List ℕ) × Comes old between (Ok (Some (k.from, k.count))) buf
    × Hears g k.from (take k.count buf) h reply k.heard × Answers g.key between new k.from reply
Passes g old h new (Ok None) buf = (new ≡ old) × (h ≡ g)
Passes g old h new (Err e) buf = (new ≡ old) × (h ≡ g)

-- to the guest of a seat goes a datagram that carries the bytes under the number of its joining
abbrev pub SendsTo : GuestsState → ℕ → List ℕ → Option (List Passing) → Option (List Passing) → Sent → Type 0
SendsTo g place bytes old new ToNobody = (guest_at g place ≡ None) × (new ≡ old)
SendsTo g place bytes old new Lost = new ≡ old
SendsTo g place bytes old new (Taken count) =
    (datagram : List ℕ) × Carries g.key Server (number_at g place) datagram bytes
    × IfSome (guest_at g place) (λ guest. Goes old new true guest.address datagram)

abbrev pub HandsOn : Heard → List ℕ → ℕ → List ℕ → List ℕ → Type 0
HandsOn (Joined i) datagram place hello bytes = (place ≡ i) × (bytes ≡ hello)
HandsOn (OfGuest i count) datagram place hello bytes = (place ≡ i) × (bytes ≡ take count datagram)
HandsOn heard datagram place hello bytes = ⊥

-- the bytes that are handed on are those that the datagram of a guest carries, or a hello for who just joined
abbrev pub IsOfGuest : GuestsState → GuestsState → ℕ → List ℕ → List ℕ → Type 0
IsOfGuest g h place hello bytes =
    (from : Address) × (datagram reply : List ℕ) × (heard : Heard) × Hears g from datagram h reply heard × HandsOn heard datagram place hello bytes
