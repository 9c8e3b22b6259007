use Rattle.world_cells.proofs.LineBits.{apart_bits}
use Rattle.world_cells.proofs.lines.apart.Goals as goal

pub returns : goal.returns
returns c = λ k l. apart_bits c.args.word c.args.other k c.ranges.other.fits l
