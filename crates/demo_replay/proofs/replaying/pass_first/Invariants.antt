use Rattle.std.proofs.Common.{◌≡◌, []}
use Rattle.demo_format.specs.declared.head.DemoHead.{DemoHead}
use Rattle.demo_format.specs.Records.{records_of}
use Rattle.demo_replay.specs.Walking.{Begins, IsViewerAfter}
use Rattle.demo_replay.proofs.replaying.pass_first.Given as goal

abbrev pub invariant-going : goal.invariant-going
invariant-going l = record {
  begins : Begins l.body l.i l.at;
  quiet : l.viewer.events.ready ≡ [];
  walked : (head : DemoHead) → IsViewerAfter (record { head = head; records = records_of l.body }) 0 l.fn.viewer
      → IsViewerAfter (record { head = head; records = records_of l.body }) l.i l.viewer;
}
