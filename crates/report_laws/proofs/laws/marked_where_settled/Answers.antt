use Rattle.own_lists.proofs.Agreeing.{own_lists_agree}
use Rattle.report_laws.proofs.Settling.{marked_where_settled}
use Rattle.report_laws.proofs.laws.marked_where_settled.Goals as goal

pub returns : goal.returns
returns c = marked_where_settled own_lists_agree
