use Rattle.pair_laws.proofs.Delivered.{good}
use Rattle.pair_laws.proofs.LooseEvents.{loose_down, loose_up}
use Rattle.pair_laws.proofs.loose_events.loose_events_in_order.Goals as goal

pub returns-clause-down : goal.returns-clause-down
returns-clause-down c t steps limits fit met honest = loose_down t steps limits (good t limits steps fit met honest)

pub returns-clause-up : goal.returns-clause-up
returns-clause-up c t steps limits fit met honest = loose_up t steps limits (good t limits steps fit met honest)
