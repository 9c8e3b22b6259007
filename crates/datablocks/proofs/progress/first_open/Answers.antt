use Rattle.std.proofs.Common.{ap, not, sym, ◌∙◌}
use Rattle.datablocks.specs.ProgressWords.{is_open}
use Rattle.notify_window.proofs.Least.{least_is}
use Rattle.datablocks.proofs.progress.first_open.Goals as goal

pub returns-else-is_done : goal.returns-else-is_done
returns-else-is_done c = least_is (is_open c.args.progress.now) c.args.count c.loop-i.i c.loop-i.invariant.within c.loop-i.invariant.below (λ l. ap not (sym c.is_done.ensures ∙ c.if-is_done.false))
