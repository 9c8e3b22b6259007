use Rattle.std.proofs.Common.{ap, subst}
use Rattle.datablocks.specs.SenderState.{SenderState}
use Rattle.datablocks.specs.ProgressWords.{TellsDone}
use Rattle.datablocks.proofs.Progressing.{told_received}
use Rattle.datablocks.proofs.sender.BlockSender.received.Goals as goal

pub returns-clause-log : goal.returns-clause-log
returns-clause-log c fate log h =
    told_received c.args.self.now c.self.inside.received fate log (subst (TellsDone c.self.inside.received) (ap (λ (s : SenderState). s.progress) c.self.view_is) c.self.invariant.told) h
