use Rattle.race_history.proofs.Histories.{determined}
use Rattle.race_history.proofs.laws.values_are_determined.Goals as goal

pub returns : goal.returns
returns c = determined
