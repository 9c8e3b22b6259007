use Rattle.world_sim.proofs.Gathered.{damage_is}
use Rattle.world_sim.proofs.step.damage.Goals as goal

pub returns : goal.returns
returns c = λ os i a at target.
    rw (c.count_near.ensures.value, c.count_near-2.ensures.value, c.deref.ensures.value, c.deref-2.ensures.value)
    (damage_is os c.args.old.now.found.now i c.args.o.now a at target)
