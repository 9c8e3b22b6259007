use Rattle.relay_report.proofs.Packs.{same_met}
use Rattle.relay_report.proofs.laws.same_met_same_packs.Goals as goal

pub returns : goal.returns
returns c = same_met
