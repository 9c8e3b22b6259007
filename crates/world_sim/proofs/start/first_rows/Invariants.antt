use Rattle.std.proofs.Common.{◌≡◌, take, map}
use Rattle.world_sim.specs.RowsNext.{fresh_row}
use Rattle.world_sim.proofs.start.first_rows.Given as goal

abbrev pub invariant-loop-o : goal.invariant-loop-o
invariant-loop-o l = l.rows.items ≡ map fresh_row (take l.o-index l.objects)
