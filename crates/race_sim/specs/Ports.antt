-- What the simulation has of one client: its scope, the messages on their way to its connection, and the moves that come back.
use Rattle.std.specs.Prelude.{◌≡◌, ℕ, ◌<◌, ◌++◌, List, [], Option, IfNone, length, slice_index_or}
use Rattle.std.specs.Option.{option_to_list}
use Rattle.tn_types.specs.declared.moves.MoveBits.{MoveBits}
use Rattle.world_scope.specs.declared.viewer.Seen.{Seen}
use Rattle.client_scope.specs.StandsFor.{Table, StandsFor}
use Rattle.race_messages.specs.declared.message.Message.{Message}
use Rattle.race_history.specs.Moves.{move_taken}

-- messages on their way: those that went into the ring, those that wait for a place in it, and how many of its places are known to
-- be free
pub record OutgoingState : Type 0 where
  pub sent : List Message
  pub waiting : List Message
  pub free : ℕ

-- all that were given, in order
abbrev pub all_given : OutgoingState → List Message
all_given o = o.sent ++ o.waiting

-- these come behind what waits
abbrev pub with_more : OutgoingState → List Message → OutgoingState
with_more o more = record o { waiting = o.waiting ++ more }

-- what waited went into the ring, in order, until nothing waits or no place is free
pub record PassesOn (old new : OutgoingState) : Type 0 where
  pub same : all_given new ≡ all_given old
  pub done : 0 < new.free → new.waiting ≡ []

pub record PortState : Type 0 where
  pub scope : Table
  pub outgoing : OutgoingState
  pub taken : List MoveBits  -- all moves that ticks took from it
  pub known : List MoveBits  -- those that are known to have come and were not taken

-- all messages to its connection
abbrev pub given_to : PortState → List Message
given_to p = all_given p.outgoing

abbrev pub waiting_for : PortState → List Message
waiting_for p = p.outgoing.waiting

-- some scans made it
abbrev pub IsScope : Table → Type 0
IsScope t = (scans : List (List Seen)) × StandsFor t scans

-- nothing was done with it
pub record IsNewPort (p : PortState) : Type 0 where
  pub scope : StandsFor p.scope []
  pub given : given_to p ≡ []
  pub taken : p.taken ≡ []

-- ---- what becomes of ports

-- what waits was passed on, and all else is as it was
pub record HasPassedOn (old new : PortState) : Type 0 where
  pub passes : PassesOn old.outgoing new.outgoing
  pub scope : new.scope ≡ old.scope
  pub taken : new.taken ≡ old.taken
  pub known : new.known ≡ old.known

-- of each port
pub record HaveAllPassedOn (old new : List PortState) : Type 0 where
  pub count : length new ≡ length old
  pub each : (c : ℕ) (d : PortState) → c < length old → HasPassedOn (slice_index_or old c d) (slice_index_or new c d)

-- the oldest move that has come was taken, or none is known to be there; and all else is as it was
pub record TakesOne (m : Option MoveBits) (old new : PortState) : Type 0 where
  pub taken : new.taken ≡ old.taken ++ option_to_list m
  pub none : IfNone m (new.known ≡ [])
  pub scope : new.scope ≡ old.scope
  pub outgoing : new.outgoing ≡ old.outgoing

-- of each port one, in the order of the ports
pub record TakesEach (row : List (Option MoveBits)) (old new : List PortState) : Type 0 where
  pub long : length row ≡ length old
  pub count : length new ≡ length old
  pub each : (c : ℕ) (d : PortState) → c < length old
      → TakesOne (move_taken c row) (slice_index_or old c d) (slice_index_or new c d)
