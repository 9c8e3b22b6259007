use Rattle.pair_steps.proofs.Journals.{shows_told, kind_told}
use Rattle.pair_periods.proofs.Agreeing.{up-listed, listed-up}
use Rattle.pair_periods.proofs.laws.steps_tell_periods.Goals as goal

pub returns-clause-count : goal.returns-clause-count
returns-clause-count c = shows_told

pub returns-clause-kinds : goal.returns-clause-kinds
returns-clause-kinds c = kind_told

pub returns-clause-up : goal.returns-clause-up
returns-clause-up c = up-listed

pub returns-clause-listed : goal.returns-clause-listed
returns-clause-listed c = listed-up
