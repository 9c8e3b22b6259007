use Rattle.own_lists.proofs.Agreeing.{own_lists_agree}
use Rattle.report_laws.proofs.Honesty.{one_holder}
use Rattle.report_laws.proofs.laws.one_holder.Goals as goal

pub returns : goal.returns
returns c = one_holder own_lists_agree
