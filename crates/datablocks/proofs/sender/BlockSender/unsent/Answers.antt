use Rattle.datablocks.proofs.Progressing.{kept_unsent}
use Rattle.datablocks.proofs.sender.BlockSender.unsent.Goals as goal

pub invariant_of-result : goal.invariant_of-result
invariant_of-result c = kept_unsent _ _ c.requires c.unsent-progress.ensures.places c.unsent-progress.ensures.due
