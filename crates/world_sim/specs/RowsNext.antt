-- How the code keeps the values and versions of all objects: one row for each, whose values are those of the object.
-- So what a tick makes of the rows is what it makes of the objects.
use Rattle.std.specs.Prelude.{length, ◌≡◌, ℕ, ℤ, zero, suc, ◌-◌, ◌^◌, ◌<◌, List, [], ◌∷◌, ◌++◌, map}
use Rattle.std.specs.List.{AllByRecursion}
use Rattle.world_rules.specs.declared.object.Object.{Object}
use Rattle.world_sim.specs.declared.rows.Write.{Write}
use Rattle.world_sim.specs.declared.rows.Row.{Row}
use Rattle.world_sim.specs.Rows.{values_of, fresh_versions, row_versions, row_writes}

abbrev pub row_next : Row → Object → Row
row_next r o = record {
  values = record { items = values_of o };
  versions = record { items = row_versions r.values.items (values_of o) r.versions.items };
}

abbrev pub fresh_row : Object → Row
fresh_row o = record { values = record { items = values_of o }; versions = record { items = fresh_versions o } }

unfoldable pub rows_next : List Row → List Object → List Row
rows_next [] after = map fresh_row after
rows_next (r ∷ rows) (o ∷ after) = row_next r o ∷ rows_next rows after
rows_next (r ∷ rows) [] = []

unfoldable pub rows_writes : ℕ → List Row → List Object → List Write
rows_writes i (r ∷ rows) (o ∷ after) = row_writes i 0 r.values.items (values_of o) r.versions.items ++ rows_writes (suc i) rows after
rows_writes i _ _ = []

-- the first rows after a tick, the others as they were
abbrev pub rows_updated : ℕ → List Row → List Object → List Row
rows_updated zero rows after = rows
rows_updated (suc had) (r ∷ rows) (o ∷ after) = row_next r o ∷ rows_updated had rows after
rows_updated (suc had) [] after = []
rows_updated (suc had) (r ∷ rows) [] = r ∷ rows

-- a version for each value, and none that is the last
abbrev pub IsSoundRow : Row → Type 0
IsSoundRow r = AllByRecursion (λ v. v < 2 ^ 32 - 1) r.versions.items × (length r.values.items ≡ length r.versions.items)

-- what a row keeps of its object
abbrev pub row_values : Row → List ℤ
row_values r = r.values.items

abbrev pub row_counts : Row → List ℕ
row_counts r = r.versions.items
