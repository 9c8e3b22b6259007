use Rattle.std.proofs.Common.{◌≡◌, ◌∙◌, sym}
use Rattle.world_cells.proofs.Grids.{IsGrid-moved, IsGrid-same}
use Rattle.world_cells.proofs.cells.Cells.shift.Goals as goal

pub returns : goal.returns
returns c = λ before behind old now many from to grid.
    IsGrid-moved c.args.number c.args.from c.args.to c.args.self.now c.move_to.new.self before behind old now c.requires many from to c.move_to.ensures.cells c.move_to.ensures.columns c.move_to.ensures.rows grid

pub returns-then-is_same : goal.returns-then-is_same
returns-then-is_same c = λ before behind old now many from to grid.
    let same : c.args.from ≡ c.args.to = c.is_same.ensures c.if-is_same.true in
    IsGrid-same c.args.self.now before behind old now (from ∙ same ∙ sym to) grid
