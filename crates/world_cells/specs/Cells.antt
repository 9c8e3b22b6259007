-- How the code keeps the cells of the field: as one list, row by row, and as bits of columns and rows.
use Rattle.std.specs.Prelude.{◌≡◌, ℕ, ◌+◌, ◌*◌, ◌/◌, ◌%◌, ◌<◌, Bool, false, ◌&&◌, List, [], length, Some, None, Option, ◌==◌, if◌then◌else◌, slice_index_or, slice_get, slice_set, option_and_then, ◌≤◌}
use Rattle.world_rules.specs.declared.object.Place.{Place}
use Rattle.world_rules.specs.declared.object.Object.{Object}
use Rattle.world_cells.specs.declared.cells.TheConstants.{CELL_SIDE, CELLS_ACROSS}
use Rattle.world_cells.specs.Rising.{put_in, without}
use Rattle.world_cells.specs.Grid.{has_place, numbers}
use Rattle.world_cells.specs.Lines.{GridParts, has, is_before}

abbrev pub cell_of : Place → ℕ
cell_of p = p.y / CELL_SIDE % CELLS_ACROSS * CELLS_ACROSS + p.x / CELL_SIDE % CELLS_ACROSS

-- the cell that it lies in, if any
abbrev pub spot : Object → Option ℕ
spot o = if o.alive && has_place o.state then Some (cell_of o.place) else None

abbrev pub is_cell : ℕ → Option ℕ → Bool
is_cell c None = false
is_cell c (Some d) = d == c

abbrev pub lies_in : ℕ → Object → Bool
lies_in c o = is_cell c (spot o)

-- the column and the row of a cell; behind the last one where there is none
abbrev pub column_in : Option ℕ → ℕ
column_in None = 16
column_in (Some c) = c % CELLS_ACROSS

abbrev pub row_in : Option ℕ → ℕ
row_in None = 16
row_in (Some c) = c / CELLS_ACROSS

-- the cell of the object of this number, if it is there and lies in one
abbrev pub spot_at : List Object → ℕ → Option ℕ
spot_at os n = option_and_then spot (slice_get os n)

-- each object has its bit at the lines behind its own
abbrev pub AreLines : (Option ℕ → ℕ) → List ℕ → List Object → Type 0
AreLines line_in words os = (line n : ℕ) → line ≤ 16 → n < 1024 → has words line n ≡ is_before line (line_in (spot_at os n))

-- each cell has exactly the numbers of those that lie in it, and so have columns and rows
pub record IsGrid (grid : GridParts) (os : List Object) : Type 0 where
  pub all : length grid.cells ≡ 256
  pub exact : (c : ℕ) → c < 256 → slice_index_or grid.cells c [] ≡ numbers (lies_in c) 0 os
  pub columns : AreLines column_in grid.columns os
  pub rows : AreLines row_in grid.rows os

abbrev pub left : ℕ → Option ℕ → List (List ℕ) → List (List ℕ)
left n None cells = cells
left n (Some c) cells = slice_set cells c (without n (slice_index_or cells c []))

abbrev pub come : ℕ → Option ℕ → List (List ℕ) → List (List ℕ)
come n None cells = cells
come n (Some c) cells = slice_set cells c (put_in n (slice_index_or cells c []))
