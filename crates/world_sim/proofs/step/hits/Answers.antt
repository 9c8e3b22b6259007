use Rattle.world_sim.proofs.Gathered.{hits_is}
use Rattle.world_sim.proofs.step.hits.Goals as goal

pub returns : goal.returns
returns c = λ os a. rw (c.count_of.ensures.value, c.deref.ensures.value) (hits_is os c.args.old.now.found.now c.args.client a)
