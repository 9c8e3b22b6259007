-- What a grant leaves in the rows: those of the slots that it gave are made anew, and no other.
use Rattle.std.specs.Prelude.{◌≡◌, ◌≢◌, ℕ, ◌<◌, ◌≤◌, List, length}
use Rattle.ghost_scope.specs.declared.period.Period.{Period}
use Rattle.ghost_scope.specs.Table.{entry_at}
use Rattle.ghost_rows.specs.Kept.{Row, row_at, IsFresh}

-- the rows of the slots of these entries are made anew, and no other
pub record AreBegun (es : List Period) (from to turn : ℕ) (old new : List Row) : Type 0 where
  pub slots : length new ≡ length old
  pub begun : (i : ℕ) → from ≤ i → i < to → IsFresh turn (row_at new (entry_at es i).slot)
  pub other : (s : ℕ) → ((i : ℕ) → from ≤ i → i < to → (entry_at es i).slot ≢ s) → row_at new s ≡ row_at old s
