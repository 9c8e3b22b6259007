use Rattle.world_sim.proofs.RowFields.{AreCounted}
use Rattle.world_sim.proofs.rows.count_changes.Given as goal

abbrev pub invariant-loop-f : goal.invariant-loop-f
invariant-loop-f l = AreCounted l.f l.before l.now l.initial.versions l.versions
