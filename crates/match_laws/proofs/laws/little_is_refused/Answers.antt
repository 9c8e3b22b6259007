use Rattle.client_seat.proofs.Below.own_lists.Agreeing.{own_lists_agree}
use Rattle.match_laws.proofs.Refused.{little_refused}
use Rattle.match_laws.proofs.laws.little_is_refused.Goals as goal

pub returns : goal.returns
returns c = little_refused own_lists_agree
