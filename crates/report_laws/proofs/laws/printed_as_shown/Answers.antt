use Rattle.report_laws.proofs.Showing.{printed_as_shown}
use Rattle.report_laws.proofs.laws.printed_as_shown.Goals as goal

pub returns : goal.returns
returns c = printed_as_shown
