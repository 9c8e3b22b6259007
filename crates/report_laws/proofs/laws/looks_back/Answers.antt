use Rattle.report_laws.proofs.Looking.{looks_back}
use Rattle.report_laws.proofs.laws.looks_back.Goals as goal

pub returns : goal.returns
returns c = looks_back
