use Rattle.std.proofs.Common.{take}
use Rattle.world_lanes.specs.Told.{is_told, Tells}
use Rattle.world_lanes.proofs.raising.raise_all.Given as goal

abbrev pub invariant-loop-c : goal.invariant-loop-c
invariant-loop-c g l = Tells (is_told (take l.c-index l.changed)) l.lanes.clients l.initial.sim.steps l.sim.steps
