-- What one object's turn finds, and what it keeps up with the object: its row, what the tick writes, its cell and its place.
use Rattle.std.specs.Prelude.{◌≡◌, ℕ, ◌<◌, ◌≤◌, ◌+◌, ◌++◌, ◌∷◌, List, length, vec_capacity}
use Rattle.tn_types.specs.declared.limits.TheConstants.{MAX_OBJECTS}
use Rattle.world_rules.specs.declared.object.Object.{Object}
use Rattle.world_rules.specs.Ranges.{PlaceFits}
use Rattle.world_cells.specs.Cells.{IsGrid}
use Rattle.world_places.specs.Places.{ArePlaced}
use Rattle.world_sim.specs.declared.rows.Row.{Row}
use Rattle.world_sim.specs.declared.table.Beside.{Beside}
use Rattle.world_sim.specs.Rows.{values_of, row_writes}
use Rattle.world_sim.specs.RowsNext.{row_next, IsSoundRow}

-- before its turn an object of this number has a row of its values, and there is room for what it may write
pub record HasTurn (number : ℕ) (o : Object) (row : Row) (beside : Beside) : Type 0 where
  pub small : number < MAX_OBJECTS
  pub sound : IsSoundRow row
  pub values_are : row.values.items ≡ values_of o
  pub room : length beside.writes.items + 5 ≤ vec_capacity beside.writes

-- the object of this number was one thing and is another: its row and all that is kept beside the objects tell what it is
pub record KeepsUp (number : ℕ) (was is : Object) (row next : Row) (before after : Beside) : Type 0 where
  pub row_is : next ≡ row_next row is
  pub written : after.writes.items
      ≡ before.writes.items ++ row_writes number 0 row.values.items (values_of is) row.versions.items
  pub grid : (first behind : List Object) → length first ≡ number
      → IsGrid before.cells (first ++ was ∷ behind) → IsGrid after.cells (first ++ is ∷ behind)
  pub placed : (first behind : List Object) → length first ≡ number → PlaceFits is.place
      → ArePlaced before.places (first ++ was ∷ behind) → ArePlaced after.places (first ++ is ∷ behind)
  pub few : length after.writes.items ≤ length before.writes.items + 5
  pub kept : vec_capacity before.writes ≤ vec_capacity after.writes
