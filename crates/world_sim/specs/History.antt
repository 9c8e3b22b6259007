-- The worlds of a match as a list, newest first, and the values of a field by version over it: a value counts where it
-- differs from the one before. So the version of a field is how many values it had, less 1.
use Rattle.std.specs.Prelude.{◌≡◌, ℕ, ℤ, List, [], ◌∷◌, length, Option, Some, None, slice_get, if◌then◌else◌}
use Rattle.tn_types.specs.declared.moves.MoveBits.{MoveBits}
use Rattle.world_sim.specs.Rows.{differs}
use Rattle.world_sim.specs.Worlds.{Worlds, next, value_at, version_at}

-- the world after ticks with these moves, those of the last tick first
abbrev pub world_after : Worlds → List (List (Option MoveBits)) → Worlds
world_after first [] = first
world_after first (moves ∷ earlier) = next (world_after first earlier) moves

-- all worlds up to that one, the newest first
abbrev pub worlds : Worlds → List (List (Option MoveBits)) → List Worlds
worlds first [] = first ∷ []
worlds first (moves ∷ earlier) = world_after first (moves ∷ earlier) ∷ worlds first earlier

-- one more value, if there is one and it differs from the newest
abbrev pub with_value : Option ℤ → List ℤ → List ℤ
with_value None values = values
with_value (Some value) [] = value ∷ []
with_value (Some value) (before ∷ values) = if differs before value then value ∷ before ∷ values else before ∷ values

-- the values that a field had, the newest first
abbrev pub values_by_version : List Worlds → ℕ → ℕ → List ℤ
values_by_version [] object field = []
values_by_version (w ∷ ws) object field = with_value (value_at w object field) (values_by_version ws object field)

abbrev pub last_version : List ℤ → Option ℕ
last_version [] = None
last_version (value ∷ values) = Some (length values)

-- the newest of these values is the field's, and their number less 1 its version
pub record AreValuesOf (w : Worlds) (object field : ℕ) (values : List ℤ) : Type 0 where
  pub newest : value_at w object field ≡ slice_get values 0
  pub version : version_at w object field ≡ last_version values
