use Rattle.std.proofs.Common.{◌≡◌, take, map}
use Rattle.world_sim.specs.Glances.{glance_of}
use Rattle.world_sim.proofs.start.first_glances.Given as goal

abbrev pub invariant-loop-o : goal.invariant-loop-o
invariant-loop-o l = l.glances.items ≡ map glance_of (take l.o-index l.objects)
