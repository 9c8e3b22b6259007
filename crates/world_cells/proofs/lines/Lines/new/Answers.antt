use Rattle.world_cells.proofs.LineBits.{no_bits}
use Rattle.world_cells.proofs.lines.Lines.new.Goals as goal

pub returns : goal.returns
returns c = λ line n. no_bits c.in_ok-vec.field-0.items 272 line n (c.in_ok-vec.ensures.items_if_clones_equal (λ y h. h))
