use Rattle.world_lanes.specs.Told.{is_of, Tells}
use Rattle.world_lanes.proofs.raising.raise_one.Given as goal

abbrev pub invariant-loop-client : goal.invariant-loop-client
invariant-loop-client g l = Tells (λ o f. is_of o f l.changed) l.client l.initial.sim.steps l.sim.steps
