use Rattle.keyed_laws.proofs.Runs.{runs}
use Rattle.keyed_laws.proofs.laws.nothing_is_raw.Goals as goal

pub returns : goal.returns
returns c = runs
