use Rattle.std.proofs.Common.{◌≡◌, ◌*◌, replicate, None}
use Rattle.dirty_lanes.specs.declared.limits.TheConstants.{MAX_LANE_FIELDS}
use Rattle.race_reads.specs.Tables.{noted_periods}
use Rattle.race_reads.specs.Legal.{reads_of}
use Rattle.race_reads.proofs.Packs.{reads_left}
use Rattle.race_reads.proofs.last.last_reads.Given as goal

abbrev pub invariant-loop-i : goal.invariant-loop-i
invariant-loop-i l = noted_periods (replicate (MAX_LANE_FIELDS * l.periods) None) (reads_of l.steps.list) ≡ noted_periods l.last.items (reads_left l.steps.list l.i)
