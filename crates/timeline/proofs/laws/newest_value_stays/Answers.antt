use Rattle.timeline.proofs.LawFacts.{newest_law}
use Rattle.timeline.proofs.laws.newest_value_stays.Goals as goal

pub returns : goal.returns
returns c how at frames newest is reached = newest_law how at frames newest is reached
