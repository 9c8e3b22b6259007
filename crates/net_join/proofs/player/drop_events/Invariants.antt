use Rattle.std.proofs.Common.{List, length}
use Rattle.stream_manager.specs.ClientCalls.{Becomes, KeepsTerms}
use Rattle.stream_manager.specs.Client.{ClientEvent}
use Rattle.net_join.proofs.player.drop_events.Given as goal

abbrev pub invariant-events : goal.invariant-events
invariant-events l = record {
  stands : Becomes l.fn.end (λ (log : List ClientEvent). log) l.end;
  terms : KeepsTerms l.fn.end l.end;
}

abbrev pub decreases-events : goal.decreases-events
decreases-events l = length l.end.common.receiver.ready
