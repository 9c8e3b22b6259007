use Rattle.match_laws.proofs.Isolated.{isolated}
use Rattle.match_laws.proofs.laws.isolation.Goals as goal

pub returns : goal.returns
returns c = isolated
