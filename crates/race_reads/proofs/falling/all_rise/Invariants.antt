use Rattle.std.proofs.Common.{◌≡◌, ◌*◌, drop, length}
use Rattle.std.specs.Prelude.{◌↔◌}
use Rattle.dirty_lanes.specs.declared.limits.TheConstants.{MAX_LANE_FIELDS}
use Rattle.race_reads.specs.Tables.{noted, RisesFrom}
use Rattle.race_reads.proofs.falling.all_rise.Given as goal

abbrev pub invariant-loop-r : goal.invariant-loop-r
invariant-loop-r l = record {
  long : length l.last ≡ MAX_LANE_FIELDS * l.count;
  means : RisesFrom l.objects l.fn.last l.reads ↔ RisesFrom l.objects l.last (drop l.r-index l.reads);
  notes : noted l.objects l.fn.last l.reads ≡ noted l.objects l.last (drop l.r-index l.reads);
}
