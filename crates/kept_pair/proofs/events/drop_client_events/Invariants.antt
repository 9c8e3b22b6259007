use Rattle.std.proofs.Common.{◌≡◌, ◌≤◌, length}
use Rattle.event_manager.specs.declared.TheConstants.{MAX_READY_EVENTS}
use Rattle.kept_pair.proofs.events.drop_client_events.Given as goal

abbrev pub invariant-out : goal.invariant-out
invariant-out l = record {
  few : length l.fn.pair.pair.client.common.receiver.ready ≤ MAX_READY_EVENTS;
  server : l.pair.pair.conn ≡ l.fn.pair.pair.conn;
  steps : l.pair.steps ≡ l.fn.pair.steps;
}

abbrev pub decreases-out : goal.decreases-out
decreases-out l = length l.pair.pair.client.common.receiver.ready
