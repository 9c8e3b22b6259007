use Rattle.client_seat.proofs.Below.own_lists.Agreeing.{own_lists_agree}
use Rattle.match_laws.proofs.InOrder.{moves_in_order}
use Rattle.match_laws.proofs.laws.moves_in_order.Goals as goal

pub returns : goal.returns
returns c = moves_in_order own_lists_agree
