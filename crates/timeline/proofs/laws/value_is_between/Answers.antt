use Rattle.timeline.proofs.LawFacts.{between_law}
use Rattle.timeline.proofs.laws.value_is_between.Goals as goal

pub returns : goal.returns
returns c how at frames before after r n = between_law how at frames before after r n
