use Rattle.std.proofs.Common.{◌≡◌, ◌-◌, length}
use Rattle.tn_outside.specs.Totals.{Adds}
use Rattle.two_worlds.specs.Fed.{IsFed, text_made}
use Rattle.two_worlds.proofs.both.feed_rest.Given as goal

abbrev pub invariant-items : goal.invariant-items
invariant-items g l = record {
  fed : IsFed l.source l.server;
  script : l.source.script ≡ l.fn.source.script;
  client : l.source.client ≡ l.fn.source.client;
  written : Adds (g.K.Sink.written l.fn.sink) (g.K.Sink.written l.sink) (text_made l.source);
  spared : g.K.Sink.faults l.sink ≡ g.K.Sink.faults l.fn.sink;
}

abbrev pub decreases-items : goal.decreases-items
decreases-items g l = length l.fn.source.script.body - l.source.place
