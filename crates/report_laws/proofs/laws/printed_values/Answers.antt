use Rattle.report_laws.proofs.Saying.{printed_values}
use Rattle.report_laws.proofs.laws.printed_values.Goals as goal

pub returns : goal.returns
returns c = printed_values c.copies_show_values.ensures c.settled_is_newest.ensures
