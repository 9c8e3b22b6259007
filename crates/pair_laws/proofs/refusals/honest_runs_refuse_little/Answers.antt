use Rattle.pair_laws.proofs.Delivered.{good}
use Rattle.pair_laws.proofs.RefusalLaw.{little}
use Rattle.pair_laws.proofs.refusals.honest_runs_refuse_little.Goals as goal

pub returns : goal.returns
returns c t steps limits fit met honest step sends = little t steps step limits (good t limits steps fit met honest) sends
