use Rattle.match_laws.proofs.Others.{not_interfered}
use Rattle.match_laws.proofs.laws.non_interference.Goals as goal

pub returns : goal.returns
returns c = not_interfered
