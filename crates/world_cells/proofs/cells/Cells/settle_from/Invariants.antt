use Rattle.std.proofs.Common.{take}
use Rattle.world_cells.specs.Cells.{IsGrid}
use Rattle.world_cells.proofs.cells.Cells.settle_from.Given as goal

abbrev pub invariant-loop-i : goal.invariant-loop-i
invariant-loop-i l = IsGrid l.self (take l.i l.now)
