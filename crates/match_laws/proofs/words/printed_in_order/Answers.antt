use Rattle.client_seat.proofs.Below.own_lists.Agreeing.{own_lists_agree}
use Rattle.match_laws.proofs.WordsInOrder.{printed_in_order}
use Rattle.match_laws.proofs.words.printed_in_order.Goals as goal

pub returns : goal.returns
returns c = printed_in_order own_lists_agree
