use Rattle.messages.proofs.InOrder.{same-whole}
use Rattle.messages.proofs.laws.parcels_follow_from_pieces.Goals as goal

pub returns : goal.returns
returns c = same-whole
