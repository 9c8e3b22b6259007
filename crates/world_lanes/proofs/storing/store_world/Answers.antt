use Rattle.world_lanes.proofs.Ticking.{first_near, whole_from}
use Rattle.world_lanes.proofs.storing.store_world.Goals as goal

pub returns-clause-whole : goal.returns-clause-whole
returns-clause-whole g c = λ seed setup is.
    whole_from c.args.world.now c.args.sim.now.steps c.store_from.new.sim.steps (first_near c.args.world.now c.args.sim.now.steps seed setup is) c.store_from.ensures.brings
