use Rattle.std.proofs.Common.{◌≡◌, ◌≤◌, ◌+◌, ◌-◌, length}
use Rattle.demo_format.specs.Records.{records_of}
use Rattle.demo_replay.specs.Walking.{Begins, IsViewerAfter}
use Rattle.demo_seek.specs.Loaded.{AreKeys}
use Rattle.demo_seek.proofs.seeking.keys_of.Given as goal

abbrev pub invariant-records : goal.invariant-records
invariant-records g l = record {
  few : l.count ≤ l.start;
  steps : l.steps ≡ l.fn.steps + l.count;
  begins : Begins l.bytes l.count l.start;
  viewer : IsViewerAfter (record { head = l.head; records = records_of l.bytes }) l.count l.viewer;
  keys : AreKeys l.head l.bytes (l.count + 1) l.keys.items;
}

abbrev pub decreases-records : goal.decreases-records
decreases-records g l = length l.bytes - l.start
