use Rattle.report_laws.proofs.Counting.{printed_counts}
use Rattle.report_laws.proofs.laws.printed_counts.Goals as goal

pub returns : goal.returns
returns c = printed_counts
