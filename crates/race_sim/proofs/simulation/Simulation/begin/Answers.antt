use Rattle.std.proofs.Common.{List, ap, subst, ◌∙◌}
use Rattle.world_lanes.specs.declared.raising.Changed.{Changed}
use Rattle.world_lanes.specs.Told.{is_told}
use Rattle.race_sim.specs.Simulating.{SimulationState}
use Rattle.race_sim.specs.Telling.{IsTold}
use Rattle.race_sim.proofs.Doing.{told_first}
use Rattle.race_sim.proofs.simulation.Simulation.begin.Goals as goal

pub returns-clause-told : goal.returns-clause-told
returns-clause-told g c =
    let s = c.self.inside in
    let stored = c.in_ok-store_world.ensures in
    subst (λ (z : SimulationState). IsTold z.world c.args.lanes.now.clients z.seat.steps c.raise_all.new.sim.steps) c.self.view_is
    (told_first s.world c.args.lanes.now.clients s.seat.steps c.store_world.new.sim.steps c.raise_all.new.sim.steps c.as_slice.result.now stored.brings
    (λ o f. ap (λ (l : List Changed). is_told l o f) c.as_slice.ensures.value ∙ stored.told o f) c.raise_all.ensures
    (stored.whole c.requires.first.0 c.requires.first.1.0 (ap (λ (z : SimulationState). z.world) c.self.view_is ∙ c.requires.first.1.1)))
