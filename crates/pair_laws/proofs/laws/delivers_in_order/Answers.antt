use Rattle.pair_laws.proofs.Delivered.{good}
use Rattle.pair_laws.proofs.InOrder.{delivers_down, delivers_up}
use Rattle.pair_laws.proofs.laws.delivers_in_order.Goals as goal

pub returns-clause-down : goal.returns-clause-down
returns-clause-down c t steps limits fit met honest = delivers_down t steps limits (good t limits steps fit met honest)

pub returns-clause-up : goal.returns-clause-up
returns-clause-up c t steps limits fit met honest = delivers_up t steps limits (good t limits steps fit met honest)
