use Rattle.timeline.proofs.LawFacts.{own_law}
use Rattle.timeline.proofs.laws.moment_of_a_packet_is_its_value.Goals as goal

pub returns : goal.returns
returns c how at frames frame r e = own_law how at frames frame r e
