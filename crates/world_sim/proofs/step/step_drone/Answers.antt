use Rattle.world_sim.proofs.Glancing.{drone_glance}
use Rattle.world_sim.proofs.step.step_drone.Goals as goal

pub returns-then-d-eq0-clause-glance : goal.returns-then-d-eq0-clause-glance
returns-then-d-eq0-clause-glance c = drone_glance c.drawn-r.result c.harm-harm.result c.args.object.now c.hurt.new.object c.args.glance.now c.args.d c.requires.alive c.requires.drone c.hurt.ensures.object c.requires.glance
