-- The laws of both ends. The connection between them gives that the pieces which one took are a front of those that the other
-- handed on.
use Rattle.std.specs.Prelude.{◌≡◌, ℕ, ◌≤◌, List, [], length}
use Rattle.std.specs.List.{AllByRecursion}
use Rattle.tn_types.specs.Prefix.{IsPrefixOf}
use Rattle.messages.specs.Pieces.{Parcel}
use Rattle.messages.specs.OutboxStands.{OutboxState, OutboxEvent, OutboxStandsFor, handed_on}
use Rattle.messages.specs.InboxState.{InboxState}
use Rattle.messages.specs.InboxStands.{InboxEvent, InboxStandsFor, took_of}

-- an outbox at one end, an inbox at the other, and a connection between them
pub record AreJoined (o : OutboxState) (out : List OutboxEvent) (b : InboxState) (came : List InboxEvent) : Type 0 where
  pub outbox : OutboxStandsFor o out
  pub inbox : InboxStandsFor b came
  pub front : IsPrefixOf (took_of came) (handed_on out)

-- all that was posted left the outbox, and all of it came
pub record AreAtRest (o : OutboxState) (out : List OutboxEvent) (came : List InboxEvent) : Type 0 where
  pub none_held : o.held ≡ []
  pub all_came : took_of came ≡ handed_on out

-- each parcel has room in the inbox
abbrev pub HaveRoom : ℕ → List Parcel → Type 0
HaveRoom room parcels = AllByRecursion (λ p. length p.bytes ≤ room) parcels
