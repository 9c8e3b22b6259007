use Rattle.std.proofs.Common.{arith}
use Rattle.wire_format.proofs.MoveFormat.{part_bits}
use Rattle.wire_format.proofs.moves.short_world_move.Goals as goal

pub unreachable-requires : goal.unreachable-requires
unreachable-requires c =
    let dx = part_bits 4 c.in_default.field-0 c.args.reader.now c.part.new.reader c.in_default.ensures.read in
    let dy = part_bits 4 c.in_default-part.field-0 c.part.new.reader c.part-2.new.reader c.in_default-part.ensures.read in
    let fire = part_bits 1 c.in_default-part-2.field-0 c.part-2.new.reader c.part-3.new.reader c.in_default-part-2.ensures.read in
    let act = part_bits 1 c.in-Ok.field-0 c.part-3.new.reader c.part-4.new.reader c.in-Ok.ensures.read in
    omega (arith, dx, dy, fire, act, c.requires)
