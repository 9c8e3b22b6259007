use Rattle.std.proofs.Common.{arith}
use Rattle.world_cells.proofs.Grids.{IsGrid-more}
use Rattle.world_cells.proofs.cells.Cells.settle_from.Goals as goal

pub loop-i-preserved : goal.loop-i-preserved
loop-i-preserved c =
    IsGrid-more c.loop-i.self c.settle.new.self c.args.now.now c.loop-i.i _ (omega arith) c.settle.ensures c.loop-i.invariant
