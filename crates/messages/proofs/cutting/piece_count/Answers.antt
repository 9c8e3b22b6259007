use Rattle.messages.specs.Pieces.{pieces_by}
use Rattle.messages.proofs.cutting.piece_count.Goals as goal

pub returns-in-Event : goal.returns-in-Event
unfolding pieces_by
returns-in-Event c bytes e = rw c.in-Event.is
