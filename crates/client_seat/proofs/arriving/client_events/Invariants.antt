use Rattle.std.proofs.Common.{◌≡◌, ◌≤◌, ◌++◌, length, map}
use Rattle.event_manager.specs.declared.TheConstants.{MAX_READY_EVENTS}
use Rattle.own_lists.specs.pair_core.Calls.{Stays}
use Rattle.client_seat.specs.Told.{event_told}
use Rattle.client_seat.proofs.arriving.client_events.Given as goal

abbrev pub invariant-out : goal.invariant-out
invariant-out l = record {
  events : l.events ++ map event_told l.pair.client.common.receiver.ready ≡ map event_told l.fn.pair.client.common.receiver.ready;
  few : length l.fn.pair.client.common.receiver.ready ≤ MAX_READY_EVENTS;
  stands : Stays l.fn.pair l.pair;
  other : l.pair.conn ≡ l.fn.pair.conn;
  keeping : l.pair.keeps_all ≡ l.fn.pair.keeps_all;
}

abbrev pub decreases-out : goal.decreases-out
decreases-out l = length l.pair.client.common.receiver.ready
