use Rattle.std.proofs.Common.{take}
use Rattle.world_places.specs.Places.{ArePlaced}
use Rattle.world_sim.proofs.start.first_places.Given as goal

abbrev pub invariant-loop-i : goal.invariant-loop-i
invariant-loop-i l = ArePlaced l.places (take l.i l.objects)
