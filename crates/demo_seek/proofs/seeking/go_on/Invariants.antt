use Rattle.std.proofs.Common.{◌≡◌, ◌≤◌, ◌+◌, ℕ, [], length}
use Rattle.demo_format.specs.declared.head.DemoHead.{DemoHead}
use Rattle.demo_format.specs.Records.{records_of}
use Rattle.demo_replay.specs.Walking.{Begins, IsViewerAfter}
use Rattle.demo_seek.proofs.seeking.go_on.Given as goal

abbrev pub invariant-going : goal.invariant-going
invariant-going g l = record {
  within : l.at ≤ length l.bytes;
  quiet : l.viewer.events.ready ≡ [];
  steps : l.steps ≤ l.fn.steps + l.i;
  walked : (head : DemoHead) (n : ℕ) → Begins l.bytes n l.start → n + l.count ≤ length (records_of l.bytes)
      → IsViewerAfter (record { head = head; records = records_of l.bytes }) n l.fn.viewer
      → Begins l.bytes (n + l.i) l.at × IsViewerAfter (record { head = head; records = records_of l.bytes }) (n + l.i) l.viewer;
}
