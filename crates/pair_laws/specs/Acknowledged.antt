-- What an acknowledgement says of an event: the other end delivered it.
use Rattle.std.specs.Prelude.{◌≡◌, ℕ, ◌<◌, true, List, length, take}
use Rattle.tn_types.specs.Prefix.{IsPrefixOf}
use Rattle.notify_window.specs.Fates.{any_received}
use Rattle.event_manager.specs.Sending.{carriers, first_unacked}
use Rattle.event_manager.specs.Posted.{guaranteed_of}
use Rattle.conn_packing.specs.stream_manager.Limits.{Terms}
use Rattle.conn_packing.specs.stream_manager.End.{EndEvent, sender_log, fates}
use Rattle.conn_packing.specs.stream_manager.Server.{server_end}
use Rattle.conn_packing.specs.stream_manager.Client.{client_end}
use Rattle.pair_core.specs.History.{PairStep, history}
use Rattle.pair_core.specs.Answers.{client_delivered, server_delivered}
use Rattle.pair_laws.specs.Laws.{posted_at}

-- each guaranteed event of an end is acknowledged: a packet that carries it was received
abbrev pub AreAcknowledged : List EndEvent → Type 0
AreAcknowledged log = (i : ℕ) → i < length (posted_at log) → any_received (fates log) (carriers i (sender_log log)) ≡ true

-- the guaranteed events before the first one that is not acknowledged were delivered; if none is left, all that were posted
pub record WereDelivered (log : List EndEvent) (delivered : List (List ℕ)) : Type 0 where
  pub front : IsPrefixOf (take (first_unacked (fates log) (sender_log log)) (posted_at log)) delivered
  pub all : AreAcknowledged log → delivered ≡ posted_at log

-- from the server to the client
abbrev pub DeliveredDown : Terms → List PairStep → Type 0
DeliveredDown t steps = WereDelivered (server_end (history t steps).server) (guaranteed_of (client_delivered t steps))

-- and the other way
abbrev pub DeliveredUp : Terms → List PairStep → Type 0
DeliveredUp t steps = WereDelivered (client_end (history t steps).client) (guaranteed_of (server_delivered t steps))
