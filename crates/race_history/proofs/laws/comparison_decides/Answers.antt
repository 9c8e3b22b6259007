use Rattle.race_history.proofs.Histories.{decided}
use Rattle.race_history.proofs.laws.comparison_decides.Goals as goal

pub returns : goal.returns
returns c = decided
