use Rattle.std.proofs.Common.{sym}
use Rattle.world_cells.proofs.cells.Cells.resettle.Goals as goal

pub returns : goal.returns
returns c = λ before behind many grid.
    c.shift.ensures before behind c.args.old.now c.args.now.now many (sym c.spot.ensures) (sym c.spot-2.ensures) grid
