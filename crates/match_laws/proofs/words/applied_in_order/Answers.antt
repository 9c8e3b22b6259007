use Rattle.client_seat.proofs.Below.own_lists.Agreeing.{own_lists_agree}
use Rattle.match_laws.proofs.Applied.{applied_accepted, applied_in_order}
use Rattle.match_laws.proofs.words.applied_in_order.Goals as goal

pub returns-clause-accepted : goal.returns-clause-accepted
returns-clause-accepted c = applied_accepted

pub returns-clause-sampled : goal.returns-clause-sampled
returns-clause-sampled c = applied_in_order own_lists_agree
