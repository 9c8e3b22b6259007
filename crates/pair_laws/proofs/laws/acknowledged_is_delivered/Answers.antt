use Rattle.pair_laws.proofs.Delivered.{good}
use Rattle.pair_laws.proofs.Acknowledged.{delivered_down, delivered_up}
use Rattle.pair_laws.proofs.laws.acknowledged_is_delivered.Goals as goal

pub returns-clause-down : goal.returns-clause-down
returns-clause-down c t steps limits fit met honest = delivered_down t steps limits (good t limits steps fit met honest)

pub returns-clause-up : goal.returns-clause-up
returns-clause-up c t steps limits fit met honest = delivered_up t steps limits (good t limits steps fit met honest)
