use Rattle.std.proofs.Common.{◌≡◌, ◌≤◌, length}
use Rattle.event_manager.specs.declared.TheConstants.{MAX_READY_EVENTS}
use Rattle.kept_pair.specs.Kept.{terms_in}
use Rattle.kept_pair.proofs.events.drop_server_events.Given as goal

abbrev pub invariant-out : goal.invariant-out
invariant-out l = record {
  few : length l.fn.pair.pair.conn.common.receiver.ready ≤ MAX_READY_EVENTS;
  client : l.pair.pair.client ≡ l.fn.pair.pair.client;
  steps : l.pair.steps ≡ l.fn.pair.steps;
  terms : terms_in l.pair ≡ terms_in l.fn.pair;
}

abbrev pub decreases-out : goal.decreases-out
decreases-out l = length l.pair.pair.conn.common.receiver.ready
