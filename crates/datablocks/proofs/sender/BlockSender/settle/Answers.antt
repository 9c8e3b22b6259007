use Rattle.std.proofs.Common.{◌≡◌, ◌+◌, ◌∙◌, ap, arith, min, length}
use Rattle.datablocks.specs.SenderState.{SenderState}
use Rattle.datablocks.specs.ProgressWords.{progress_at, is_open}
use Rattle.notify_window.specs.Carriers.{progress_after}
use Rattle.tn_types.specs.Least.{least}
use Rattle.datablocks.proofs.Progressing.{outside_stays, closed_settled, kept_settled, stands_settled}
use Rattle.datablocks.proofs.sender.BlockSender.settle.Goals as goal

pub settle_between-self-inside-requires-clause-outside : goal.settle_between-self-inside-requires-clause-outside
settle_between-self-inside-requires-clause-outside c b o =
    let end : c.min-end.result ≡ min (c.self.inside.first + 16) (length c.self.inside.blocks.items) = omega arith in
    outside_stays _ _ _ _ c.self.invariant c.args.seq c.args.verdict c.min-end.result b end o

pub first_open-self-inside-requires-clause-before : goal.first_open-self-inside-requires-clause-before
first_open-self-inside-requires-clause-before c = closed_settled _ _ _ _ _ c.args.seq c.args.verdict c.self.invariant c.settle_between-self-inside.ensures.settled

pub invariant_of-self : goal.invariant_of-self
invariant_of-self c =
    let count : c.len-count.result ≡ length c.self.inside.blocks.items = omega arith in
    kept_settled _ _ _ _ _ _ _ c.args.seq c.args.verdict c.self.invariant c.settle_between-self-inside.auto.progress c.settle_between-self-inside.ensures.settled
    (c.first_open-self-inside.ensures ∙ ap (least (is_open c.settle_between-self-inside.new.progress)) count) c.settle_between-self-inside.ensures.told

pub returns-clause-log : goal.returns-clause-log
returns-clause-log c fate log h o = stands_settled c.args.self.now _ fate log c.args.seq c.args.verdict (λ b. c.settle_between-self-inside.ensures.settled b ∙ ap (λ (s : SenderState). progress_after c.args.seq c.args.verdict (progress_at s.progress b)) c.self.view_is) o h
