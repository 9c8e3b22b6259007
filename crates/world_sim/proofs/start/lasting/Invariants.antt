use Rattle.std.proofs.Common.{◌≡◌}
use Rattle.world_cells.specs.Grid.{numbers, lasts}
use Rattle.world_cells.proofs.Numbers.{numbers_from}
use Rattle.world_sim.proofs.start.lasting.Given as goal

abbrev pub invariant-loop-i : goal.invariant-loop-i
invariant-loop-i l = numbers lasts 0 l.objects ≡ numbers_from lasts l.always.items l.i l.objects
