use Rattle.pace.proofs.Bounds.{sends_few}
use Rattle.pace.proofs.laws.no_more_than_the_most.Goals as goal

pub returns : goal.returns
returns c terms start log t k = sends_few terms start log t k
