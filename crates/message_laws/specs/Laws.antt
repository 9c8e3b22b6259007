-- Messages over a connection, from one end's outbox to the other end's inbox.
use Rattle.std.specs.Prelude.{◌≡◌, ℕ, List, []}
use Rattle.tn_types.specs.Prefix.{IsPrefixOf}
use Rattle.event_manager.specs.Posted.{guaranteed_of}
use Rattle.messages.specs.OutboxStands.{OutboxState, OutboxEvent, OutboxStandsFor, handed_on, posted_of}
use Rattle.messages.specs.InboxState.{InboxState}
use Rattle.messages.specs.InboxStands.{InboxEvent, InboxStandsFor, took_of, handed_out, whole_parcels}
use Rattle.messages.specs.Laws.{AreAtRest}
use Rattle.stream_manager.specs.Limits.{Terms}
use Rattle.stream_manager.specs.End.{EndEvent}
use Rattle.stream_manager.specs.Server.{server_end}
use Rattle.stream_manager.specs.Client.{client_end}
use Rattle.pair_core.specs.History.{PairStep, history}
use Rattle.pair_core.specs.Answers.{client_delivered, server_delivered}
use Rattle.pair_laws.specs.Laws.{posted_at}
use Rattle.pair_laws.specs.Acknowledged.{AreAcknowledged}

-- what left the outbox is what its end posted as guaranteed events, and what the inbox took is what the other end delivered, as far as
-- it was taken
pub record AreInStep (posted delivered : List (List ℕ)) (o : OutboxState) (out : List OutboxEvent) (b : InboxState) (came : List InboxEvent) : Type 0 where
  pub outbox : OutboxStandsFor o out
  pub inbox : InboxStandsFor b came
  pub left : handed_on out ≡ posted
  pub taken : IsPrefixOf (took_of came) delivered

-- the outbox holds nothing, each guaranteed event of its end is acknowledged, and the inbox took all that was delivered
pub record IsAllTold (sender : List EndEvent) (delivered : List (List ℕ)) (o : OutboxState) (came : List InboxEvent) : Type 0 where
  pub none_held : o.held ≡ []
  pub acknowledged : AreAcknowledged sender
  pub taken : took_of came ≡ delivered

-- the parcels that were handed out are the first that were posted, byte for byte, and so are all that were whole; at rest these are all,
-- and so they are once all is acknowledged
pub record AreInOrder (sender : List EndEvent) (delivered : List (List ℕ)) (o : OutboxState) (out : List OutboxEvent) (b : InboxState)
    (came : List InboxEvent) : Type 0 where
  pub front : IsPrefixOf (handed_out came) (posted_of out)
  pub whole : IsPrefixOf (whole_parcels b came) (posted_of out)
  pub all : AreAtRest o out came → whole_parcels b came ≡ posted_of out
  pub told : IsAllTold sender delivered o came → whole_parcels b came ≡ posted_of out

abbrev pub Arrive : List EndEvent → List (List ℕ) → Type 0
Arrive sender delivered =
    (o : OutboxState) (out : List OutboxEvent) (b : InboxState) (came : List InboxEvent) → AreInStep (posted_at sender) delivered o out b came
    → AreInOrder sender delivered o out b came

-- from the server to the client
abbrev pub ArriveDown : Terms → List PairStep → Type 0
ArriveDown t steps = Arrive (server_end (history t steps).server) (guaranteed_of (client_delivered t steps))

-- and the other way
abbrev pub ArriveUp : Terms → List PairStep → Type 0
ArriveUp t steps = Arrive (client_end (history t steps).client) (guaranteed_of (server_delivered t steps))
