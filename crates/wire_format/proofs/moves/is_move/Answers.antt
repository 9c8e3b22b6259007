use Rattle.wire_format.specs.Moves.{move_width}
use Rattle.wire_format.proofs.MoveFormat.{no_further_bit}
use Rattle.wire_format.proofs.moves.is_move.Goals as goal

pub returns-else-width-eq-MAX_MOVE_BITS : goal.returns-else-width-eq-MAX_MOVE_BITS
returns-else-width-eq-MAX_MOVE_BITS c = no_further_bit c.args.m.bits c.move_width-width.result (move_width c.args.wire) c.move_width-width.ensures.value
