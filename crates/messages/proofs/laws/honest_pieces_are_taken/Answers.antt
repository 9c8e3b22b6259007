use Rattle.messages.proofs.Honest.{honest-taken}
use Rattle.messages.proofs.laws.honest_pieces_are_taken.Goals as goal

pub returns : goal.returns
returns c = honest-taken
