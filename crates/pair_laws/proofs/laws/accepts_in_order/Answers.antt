use Rattle.pair_laws.proofs.Delivered.{good}
use Rattle.pair_laws.proofs.InOrder.{accepts}
use Rattle.pair_laws.proofs.laws.accepts_in_order.Goals as goal

pub returns : goal.returns
returns c t steps limits fit met honest = accepts t steps limits (good t limits steps fit met honest)
