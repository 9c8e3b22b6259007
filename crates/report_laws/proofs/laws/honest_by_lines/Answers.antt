use Rattle.report_laws.proofs.Honesty.{honest_by_lines}
use Rattle.report_laws.proofs.laws.honest_by_lines.Goals as goal

pub returns : goal.returns
returns c = honest_by_lines
