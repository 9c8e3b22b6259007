use Rattle.world_sim.proofs.Gathered.{harm_is}
use Rattle.world_sim.proofs.step.harm.Goals as goal

pub returns : goal.returns
returns c = λ os i a at target.
    rw (c.count_near.ensures.value, c.deref.ensures.value) (harm_is os c.args.old.now.found.now i c.args.o.now a at target)
