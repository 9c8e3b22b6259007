use Rattle.std.proofs.Common.{None, refl, sym}
use Rattle.world_cells.proofs.Grids.{IsGrid-made}
use Rattle.world_cells.proofs.cells.Cells.settle.Goals as goal

pub returns : goal.returns
returns c = λ before many grid.
    IsGrid-made c.args.number None c.spot.result c.args.self.now c.move_to.new.self before c.args.made.now c.requires many refl (sym c.spot.ensures) c.move_to.ensures.cells c.move_to.ensures.columns c.move_to.ensures.rows grid
