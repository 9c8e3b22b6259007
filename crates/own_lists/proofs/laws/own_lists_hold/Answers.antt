use Rattle.own_lists.proofs.Agreeing.{own_lists_agree}
use Rattle.own_lists.proofs.laws.own_lists_hold.Goals as goal

pub returns : goal.returns
returns c = own_lists_agree
