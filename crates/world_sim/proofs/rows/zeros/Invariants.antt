use Rattle.std.proofs.Common.{◌≡◌, replicate}
use Rattle.world_sim.proofs.rows.zeros.Given as goal

abbrev pub invariant-loop-i : goal.invariant-loop-i
invariant-loop-i l = l.all.items ≡ replicate l.i 0
