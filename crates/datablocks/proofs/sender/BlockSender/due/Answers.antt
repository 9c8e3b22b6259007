use Rattle.std.proofs.Common.{◌≡◌, ◌+◌, ◌∙◌, ap, arith, min, length}
use Rattle.datablocks.specs.SenderState.{due_now}
use Rattle.datablocks.proofs.Progressing.{before_not_due, window_is, now_is_due}
use Rattle.datablocks.proofs.sender.BlockSender.due.Goals as goal

pub due_between-requires-clause-before : goal.due_between-requires-clause-before
due_between-requires-clause-before c = before_not_due _ _ _ _ c.self.invariant

pub returns-clause-value : goal.returns-clause-value
returns-clause-value c =
    let end : c.min-end.result ≡ min (c.self.inside.first + 16) (length c.self.inside.blocks.items) = omega arith in
    c.due_between.ensures ∙ window_is _ _ _ _ c.self.invariant c.min-end.result end ∙ ap due_now c.self.view_is

pub returns-clause-log : goal.returns-clause-log
returns-clause-log c fate log h = returns-clause-value c ∙ now_is_due c.args.self.now fate log h
