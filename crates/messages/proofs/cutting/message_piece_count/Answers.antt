use Rattle.std.proofs.Common.{drop, arith, length-drop}
use Rattle.messages.proofs.CutPieces.{short-message, long-message, length-rest}
use Rattle.messages.proofs.cutting.message_piece_count.Goals as goal

pub returns-then-count-le-MAX_SINGLE_BYTES : goal.returns-then-count-le-MAX_SINGLE_BYTES
returns-then-count-le-MAX_SINGLE_BYTES c bytes e = rw (short-message bytes (omega arith))

pub returns-else-count-le-MAX_SINGLE_BYTES : goal.returns-else-count-le-MAX_SINGLE_BYTES
returns-else-count-le-MAX_SINGLE_BYTES c bytes e = rw (long-message bytes (omega arith)) (omega (arith, length-rest (drop 21 bytes), length-drop 21 bytes))
