use Rattle.std.proofs.Common.{◌≡◌, ◌≤◌, ◌-◌, length}
use Rattle.tn_outside.specs.Totals.{Adds}
use Rattle.demo_format.specs.Records.{records_of}
use Rattle.demo_replay.specs.Walking.{Begins, IsViewerAfter}
use Rattle.demo_replay.proofs.Written.{lines}
use Rattle.demo_replay.proofs.replaying.tell_all.Given as goal

abbrev pub invariant-records : goal.invariant-records
invariant-records g l = record {
  few : l.k ≤ l.start;
  begins : Begins l.body l.k l.start;
  viewer : IsViewerAfter (record { head = l.head; records = records_of l.body }) l.k l.viewer;
  written : Adds (g.K.Sink.written l.fn.sink) (g.K.Sink.written l.sink) (lines l.head l.body l.k);
  spared : g.K.Sink.faults l.sink ≡ g.K.Sink.faults l.fn.sink;
}

abbrev pub decreases-records : goal.decreases-records
decreases-records g l = length l.body - l.start
