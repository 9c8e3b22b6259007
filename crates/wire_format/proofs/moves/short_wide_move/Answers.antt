use Rattle.std.proofs.Common.{arith}
use Rattle.wire_format.proofs.MoveFormat.{part_bits}
use Rattle.wire_format.proofs.moves.short_wide_move.Goals as goal

pub unreachable-requires : goal.unreachable-requires
unreachable-requires c =
    let low = part_bits c.min.result c.in_default.field-0 c.args.reader.now c.part.new.reader c.in_default.ensures.read in
    let high = part_bits c.saturating_sub.result c.in-Ok.field-0 c.part.new.reader c.part-2.new.reader c.in-Ok.ensures.read in
    omega (arith, low, high, c.min.ensures, c.saturating_sub.ensures, c.requires.short)
