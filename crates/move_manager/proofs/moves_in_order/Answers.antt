use Rattle.std.proofs.Common.{arith}
use Rattle.move_manager.proofs.InOrder.{in_order, all-at, front_is_prefix}
use Rattle.move_manager.specs.InOrder.{history}
use Rattle.move_manager.proofs.moves_in_order.Goals as goal

pub returns-clause-prefix : goal.returns-clause-prefix
returns-clause-prefix c life steps = front_is_prefix _ _ (in_order life steps).front

pub returns-clause-no_gap : goal.returns-clause-no_gap
returns-clause-no_gap c life steps k p e = (all-at _ (history life steps).up k p e (in_order life steps).up).1

pub returns-clause-not_ahead : goal.returns-clause-not_ahead
returns-clause-not_ahead c life steps k n e =
    let i = in_order life steps in
    let told = all-at _ (history life steps).down k n e i.down in
    omega (arith, told, i.front.within)
