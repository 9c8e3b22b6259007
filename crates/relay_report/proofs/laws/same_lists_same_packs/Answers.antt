use Rattle.relay_report.proofs.Lists.{same_lists}
use Rattle.relay_report.proofs.laws.same_lists_same_packs.Goals as goal

pub returns : goal.returns
returns c = same_lists
