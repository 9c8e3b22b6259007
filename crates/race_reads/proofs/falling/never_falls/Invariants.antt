use Rattle.std.proofs.Common.{◌≡◌, ◌*◌, length}
use Rattle.std.specs.Prelude.{◌↔◌}
use Rattle.dirty_lanes.specs.declared.limits.TheConstants.{MAX_LANE_FIELDS}
use Rattle.race_reads.specs.Reads.{NeverFalls}
use Rattle.race_reads.specs.Tables.{RisesFrom}
use Rattle.race_reads.specs.Legal.{reads_of}
use Rattle.race_reads.proofs.Packs.{reads_left}
use Rattle.race_reads.proofs.falling.never_falls.Given as goal

abbrev pub invariant-loop-i : goal.invariant-loop-i
invariant-loop-i l = record {
  long : length l.last.items ≡ MAX_LANE_FIELDS * l.count;
  means : NeverFalls l.objects (reads_of l.steps.list) ↔ RisesFrom l.objects l.last.items (reads_left l.steps.list l.i);
}
