use Rattle.std.proofs.Common.{sym, ◌∙◌}
use Rattle.bit_stream.proofs.Numbers.{length-number}
use Rattle.wire_format.specs.Moves.{move_width}
use Rattle.wire_format.proofs.moves.MoveBitsItemWire.bits.Goals as goal

pub returns-clause-value : goal.returns-clause-value
returns-clause-value c = c.move_width.ensures.value ∙ sym (length-number (move_width c.args.wire.now) c.args.self.now.bits)
