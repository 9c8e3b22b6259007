use Rattle.timeline.proofs.LawFacts.{window_law}
use Rattle.timeline.proofs.laws.window_is_enough.Goals as goal

pub returns : goal.returns
returns c how at depth frames frame r = window_law how at depth frames frame r
