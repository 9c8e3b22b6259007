use Rattle.pair_laws.proofs.Delivered.{good, is-exchange}
use Rattle.pair_laws.proofs.exchange.packets_are_exchanged.Goals as goal

pub returns : goal.returns
returns c t steps limits fit met honest = is-exchange t steps (good t limits steps fit met honest)
