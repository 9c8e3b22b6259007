use Rattle.own_lists.proofs.Agreeing.{own_lists_agree}
use Rattle.predict_laws.proofs.CaughtUp.{value_servers}
use Rattle.predict_laws.proofs.laws.value_is_servers.Goals as goal

pub returns : goal.returns
returns c = value_servers own_lists_agree
