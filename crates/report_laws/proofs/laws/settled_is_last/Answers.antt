use Rattle.own_lists.proofs.Agreeing.{own_lists_agree}
use Rattle.report_laws.proofs.Settling.{settled_is_last}
use Rattle.report_laws.proofs.laws.settled_is_last.Goals as goal

pub returns : goal.returns
returns c = settled_is_last own_lists_agree c.settled_is_newest.ensures
