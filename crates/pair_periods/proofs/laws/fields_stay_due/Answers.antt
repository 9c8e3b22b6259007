use Rattle.pair_steps.specs.pair_core.History.{history}
use Rattle.pair_steps.proofs.Due.{step_due}
use Rattle.pair_periods.proofs.Due.{pack_due}
use Rattle.pair_periods.proofs.laws.fields_stay_due.Goals as goal

pub returns-clause-steps : goal.returns-clause-steps
returns-clause-steps c = λ t steps step n f none due. step_due n f t step (history t steps) none due

pub returns-clause-packs : goal.returns-clause-packs
returns-clause-packs c = λ t steps drains reads n f h e. pack_due n f t steps drains reads h.table h.legal h.met h.has h.unread e
