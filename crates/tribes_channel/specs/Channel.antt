-- A channel: an outbox and an inbox over one end. What leaves the outbox is posted at the end as guaranteed events, and what the end
-- delivers is taken by the inbox, each in order and nothing left out. Said of the lists of what happened at the end, at the outbox and
-- at the inbox, as far as they go on.
use Rattle.std.specs.Prelude.{◌≡◌, refl, ℕ, ◌^◌, ◌<◌, ◌≤◌, ◌||◌, nat_lt, List, [], ◌∷◌, ◌++◌, map, length, slice_get, if◌then◌else◌, Option, Some, None, IsSome, ⊤}
use Rattle.tn_types.specs.declared.choices.Class.{Class}
use Rattle.tn_types.specs.declared.choices.Class.TheVariants.{Guaranteed, Loose}
use Rattle.tn_types.specs.Histories.{Does}
use Rattle.messages.specs.declared.faults.PieceFault.{PieceFault}
use Rattle.messages.specs.declared.form.ParcelKind.{ParcelKind}
use Rattle.messages.specs.declared.limits.TheConstants.{MAX_MESSAGE_BYTES, MAX_SINGLE_BYTES}
use Rattle.messages.specs.Pieces.{Parcel, pieces_of}
use Rattle.messages.specs.OutboxStands.{OutboxState, OutboxEvent, OutboxStandsFor, Posted, HandedOn}
use Rattle.messages.specs.InboxState.{InboxState, waiting, piece_fault, loose_fault}
use Rattle.messages.specs.InboxStands.{InboxEvent, InboxStandsFor, Took, HandedOut}
use Rattle.stream_manager.specs.EndStands.{EndState}
use Rattle.stream_manager.specs.Server as server
use Rattle.stream_manager.specs.Client as client
use Rattle.stream_manager.specs.ConnCalls as server_calls
use Rattle.stream_manager.specs.ClientCalls as client_calls
use Rattle.tribes_ends.specs.Refusals.{PostRefused}
use Rattle.tribes_ends.specs.Sides.{Posts, Pops}
use Rattle.tribes_ends.specs.declared.refusal.Refusal.{Refusal}
use Rattle.tribes_ends.specs.declared.refusal.Refusal.TheVariants.{TooLong}
use Rattle.tribes_channel.specs.declared.faults.NextFault.{NextFault}
use Rattle.tribes_channel.specs.declared.faults.NextFault.TheVariants.{BadPiece}
use Rattle.tribes_channel.specs.declared.faults.OpenFault.{OpenFault}
use Rattle.tribes_channel.specs.declared.faults.OpenFault.TheVariants.{BadLongest, NoMemory}
use Rattle.tribes_ends.specs.declared.link.Side.{Side}
use Rattle.tribes_ends.specs.declared.link.Side.TheVariants.{Server, Client}

pub record ChannelState : Type 0 where
  pub outbox : OutboxState
  pub inbox : InboxState

-- the places are counted in 32 bits; between two calls no parcel waits in the inbox, which has room for each parcel of one piece
pub record IsReady (o : OutboxState) (b : InboxState) : Type 0 where
  pub places : o.places < 2 ^ 32
  pub none_waits : waiting b ≡ None
  pub least : MAX_SINGLE_BYTES ≤ b.room
  pub most : b.room ≤ MAX_MESSAGE_BYTES

-- the list with an event for each of these, the last one the newest
abbrev pub after_each : {A E : Type 0} → (A → E) → List A → List E → List E
after_each event [] log = log
after_each event (x ∷ xs) log = after_each event xs (event x ∷ log)

-- ---- a new channel

abbrev pub longest_fault : ℕ → Option OpenFault
longest_fault longest = if nat_lt longest MAX_SINGLE_BYTES || nat_lt MAX_MESSAGE_BYTES longest then Some (BadLongest longest) else None

-- what is wrong is told first; else memory alone may lack
abbrev pub MadeUnless : Option OpenFault → Option OpenFault → Type 0
MadeUnless (Some fault) answer = answer ≡ Some fault
MadeUnless None None = ⊤
MadeUnless None (Some fault) = fault ≡ NoMemory

abbrev pub OpenAnswer : ℕ → Option OpenFault → Type 0
OpenAnswer longest answer = MadeUnless (longest_fault longest) answer

pub record IsNewChannel (count most : ℕ) (c : ChannelState) : Type 0 where
  pub outbox : OutboxStandsFor c.outbox []
  pub places : c.outbox.places ≡ count
  pub inbox : InboxStandsFor c.inbox []
  pub longest : c.inbox.room ≡ most
  pub sound : c.inbox.fault ≡ None

-- ---- at the end below

-- the events that wait, the oldest first
abbrev pub ready_of : Side → List (Class × List ℕ)
ready_of (Server c) = c.common.receiver.ready
ready_of (Client c) = c.common.receiver.ready

-- these pieces were posted, in this order, each as a guaranteed event, and nothing else happened
abbrev pub PostsAll : Side → List (List ℕ) → Side → Type 0
PostsAll (Server old) pieces (Server new) = server_calls.Becomes old (after_each (server.Posted Guaranteed) pieces) new
PostsAll (Server old) pieces (Client new) = ⊥
PostsAll (Client old) pieces (Client new) = client_calls.Becomes old (after_each (client.Posted Guaranteed) pieces) new
PostsAll (Client old) pieces (Server new) = ⊥

-- with these events waiting
abbrev pub with_ready : List (Class × List ℕ) → EndState → EndState
with_ready events e = record e { receiver = record e.receiver { ready = events } }

-- these events, the oldest that waited, were handed out in this order: nothing else is changed, and nothing happened
pub record PopsAtEnd (old : EndState) (events : List (Class × List ℕ)) (new : EndState) : Type 0 where
  pub first : old.receiver.ready ≡ events ++ new.receiver.ready
  pub rest : new ≡ with_ready new.receiver.ready old

abbrev pub PopsAll : Side → List (Class × List ℕ) → Side → Type 0
PopsAll (Server old) events (Server new) =
    (new ≡ record old { common = new.common }) × PopsAtEnd old.common events new.common × server_calls.Becomes old (λ log. log) new
PopsAll (Server old) events (Client new) = ⊥
PopsAll (Client old) events (Client new) =
    (new ≡ record old { common = new.common }) × PopsAtEnd old.common events new.common × client_calls.Becomes old (λ log. log) new
PopsAll (Client old) events (Server new) = ⊥

-- ---- what goes out

-- pieces leave the outbox, the oldest first, and these are the guaranteed events that are posted; with none the end is as it was
pub record Sends (before : OutboxState) (old : Side) (after : OutboxState) (new : Side) : Type 0 where
  pub pieces : List (List ℕ)
  pub held : before.held ≡ pieces ++ after.held
  pub places : after.places ≡ before.places
  pub stands : (log : List OutboxEvent) → OutboxStandsFor before log → OutboxStandsFor after (after_each HandedOn pieces log)
  pub posted : PostsAll old pieces new
  pub same : pieces ≡ [] → new ≡ old

-- a piece is left only if the end refuses it
abbrev pub LeavesNone : OutboxState → Side → Type 0
LeavesNone o side = (piece : List ℕ) → slice_get o.held 0 ≡ Some piece → PostRefused piece Guaranteed side IsSome

-- a parcel is taken up whole, and then pieces are posted as long as there are places
pub record Holds (p : Parcel) (before : OutboxState) (old : Side) (after : OutboxState) (new : Side) : Type 0 where
  pub mid : OutboxState
  pub taken_up : Does OutboxStandsFor before (Posted p) mid
  pub held : mid.held ≡ before.held ++ pieces_of p
  pub sends : Sends mid old after new
  pub none_left : LeavesNone after new

-- a parcel is the one piece that is posted as an unguaranteed event
pub record PostsLoose (p : Parcel) (old new : Side) : Type 0 where
  pub piece : List ℕ
  pub whole : pieces_of p ≡ piece ∷ []
  pub posted : Posts old Loose piece new

-- one that is too long is refused, and else the end answers for it
pub record LooseRefused (p : Parcel) (side : Side) (answer : Option Refusal) : Type 0 where
  pub long : MAX_SINGLE_BYTES < length p.bytes → answer ≡ Some (TooLong MAX_SINGLE_BYTES)
  pub short : length p.bytes ≤ MAX_SINGLE_BYTES → (piece : List ℕ) → pieces_of p ≡ piece ∷ [] → PostRefused piece Loose side (λ r. answer ≡ r)

-- ---- what comes in

abbrev pub guaranteed : List ℕ → Class × List ℕ
guaranteed piece = (Guaranteed, piece)

-- guaranteed events that were delivered are taken in their order, and none of them is a fault
pub record Gathers (before : InboxState) (old : Side) (after : InboxState) (new : Side) : Type 0 where
  pub pieces : List (List ℕ)
  pub popped : PopsAll old (map guaranteed pieces) new
  pub stands : (log : List InboxEvent) → InboxStandsFor before log → InboxStandsFor after (after_each Took pieces log)
  pub room : after.room ≡ before.room
  pub sound : before.fault ≡ None
  pub still_sound : after.fault ≡ None

-- all that was delivered is taken, and no parcel is whole
pub record Awaits (before : InboxState) (old : Side) (after : InboxState) (new : Side) : Type 0 where
  pub gathers : Gathers before old after new
  pub none_left : ready_of new ≡ []
  pub none_waits : waiting after ≡ None

-- a parcel, of which the last piece came, is handed out
pub record GivesWhole (p : Parcel) (before : InboxState) (old : Side) (after : InboxState) (new : Side) : Type 0 where
  pub mid : InboxState
  pub gathers : Gathers before old mid new
  pub whole : waiting mid ≡ Some p
  pub handed : Does InboxStandsFor mid (HandedOut p) after
  pub sound : after.fault ≡ None

-- an unguaranteed event was delivered, and it is a parcel's one piece
pub record GivesLoose (p : Parcel) (before : InboxState) (old : Side) (after : InboxState) (new : Side) : Type 0 where
  pub mid : Side
  pub piece : List ℕ
  pub gathers : Gathers before old after mid
  pub popped : Pops mid Loose piece new
  pub whole : pieces_of p ≡ piece ∷ []

abbrev pub Gives : Class → Parcel → InboxState → Side → InboxState → Side → Type 0
Gives Guaranteed p before old after new = GivesWhole p before old after new
Gives Loose p before old after new = GivesLoose p before old after new

-- the fault of an event, after those that were taken
abbrev pub event_fault : Class → List ℕ → InboxState → Option PieceFault
event_fault Guaranteed piece b = piece_fault piece b
event_fault Loose piece b = loose_fault piece

-- an event that no honest end sends ends the channel: what was gathered stays, and nothing is taken any more
pub record EndsBy (fault : PieceFault) (before : InboxState) (old : Side) (after : InboxState) (new : Side) : Type 0 where
  pub mid : InboxState
  pub side : Side
  pub class : Class
  pub piece : List ℕ
  pub gathers : Gathers before old mid side
  pub popped : Pops side class piece new
  pub bad : event_fault class piece mid ≡ Some fault
  pub ended : after ≡ record mid { fault = Some fault }

-- the fault that ended the channel before stays, and nothing is taken
abbrev pub EndsAt : Option PieceFault → PieceFault → InboxState → Side → InboxState → Side → Type 0
EndsAt None fault before old after new = EndsBy fault before old after new
EndsAt (Some was) fault before old after new = (fault ≡ was) × (after ≡ before) × (new ≡ old)

pub record Ends (answer : NextFault) (before : InboxState) (old : Side) (after : InboxState) (new : Side) : Type 0 where
  pub fault : PieceFault
  pub is : answer ≡ BadPiece fault
  pub ends : EndsAt before.fault fault before old after new

-- this happens to what comes in, and then held pieces are posted as long as there are places
pub record Turns (Did : InboxState → Side → InboxState → Side → Type 0) (c : ChannelState) (old : Side) (c' : ChannelState) (new : Side) : Type 0 where
  pub mid : Side
  pub did : Did c.inbox old c'.inbox mid
  pub sends : Sends c.outbox mid c'.outbox new
  pub none_left : LeavesNone c'.outbox new

-- ---- examples

two_pieces : after_each HandedOn ((1 ∷ []) ∷ (0 ∷ 7 ∷ []) ∷ []) [] ≡ HandedOn (0 ∷ 7 ∷ []) ∷ HandedOn (1 ∷ []) ∷ []
two_pieces = refl

too_short : longest_fault 22 ≡ Some (BadLongest 22)
too_short = refl

as_long_as_any : longest_fault 65535 ≡ None
as_long_as_any = refl
