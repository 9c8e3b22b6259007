use Rattle.std.proofs.Common.{◌++◌}
use Rattle.pair_laws.proofs.Delivered.{good}
use Rattle.pair_laws.proofs.VerdictLaw.{true_down, true_up, lost_down, lost_up}
use Rattle.pair_laws.proofs.verdicts.verdicts_are_true.Goals as goal

pub returns-clause-down : goal.returns-clause-down
returns-clause-down c t steps limits fit met honest = true_down t steps limits (good t limits steps fit met honest)

pub returns-clause-up : goal.returns-clause-up
returns-clause-up c t steps limits fit met honest = true_up t steps limits (good t limits steps fit met honest)

pub returns-clause-lost_down : goal.returns-clause-lost_down
returns-clause-lost_down c t later steps limits fit met honest = lost_down t later steps limits (good t limits (later ++ steps) fit met honest)

pub returns-clause-lost_up : goal.returns-clause-lost_up
returns-clause-lost_up c t later steps limits fit met honest = lost_up t later steps limits (good t limits (later ++ steps) fit met honest)
