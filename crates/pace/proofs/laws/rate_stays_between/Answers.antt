use Rattle.pace.proofs.Bounds.{stays_between}
use Rattle.pace.proofs.laws.rate_stays_between.Goals as goal

pub returns : goal.returns
returns c terms start log t = stays_between terms start log t
