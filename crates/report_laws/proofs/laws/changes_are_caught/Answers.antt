use Rattle.own_lists.proofs.Agreeing.{own_lists_agree}
use Rattle.report_laws.proofs.Settling.{changes_are_caught}
use Rattle.report_laws.proofs.laws.changes_are_caught.Goals as goal

pub returns : goal.returns
returns c = changes_are_caught own_lists_agree c.changes_recover.ensures
