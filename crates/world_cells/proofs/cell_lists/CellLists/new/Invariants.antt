use Rattle.std.proofs.Common.{◌≡◌, length}
use Rattle.world_cells.proofs.Changes.{IsEmpty}
use Rattle.world_cells.proofs.cell_lists.CellLists.new.Given as goal

abbrev pub invariant-loop : goal.invariant-loop
invariant-loop l = record { many : length l.cells.items ≡ l.counter; empty : IsEmpty l.cells.items }
