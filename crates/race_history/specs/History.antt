-- The values that the fields of a match had, by version: a field's first value is version 0, and each value that
-- differs from the one before it is the next version.
use Rattle.std.specs.Prelude.{ℕ, ℤ, ◌≡◌, ◌-◌, List, [], ◌∷◌, length, Option, slice_get, option_map, if◌then◌else◌}
use Rattle.std.specs.List.{filter_map}
use Rattle.std.specs.Option.{unwrap_or}
use Rattle.tn_types.specs.declared.moves.MoveBits.{MoveBits}
use Rattle.world_sim.specs.Rows.{differs}
use Rattle.world_sim.specs.Worlds.{Worlds, AreOfFields, next, values_at, value_at}

-- the worlds of a match: this one, and then one for the moves of each tick
abbrev pub worlds_from : Worlds → List (List (Option MoveBits)) → List Worlds
worlds_from w [] = w ∷ []
worlds_from w (moves ∷ later) = w ∷ worlds_from (next w moves) later

-- the last of them
abbrev pub world_after : Worlds → List (List (Option MoveBits)) → Worlds
world_after w [] = w
world_after w (moves ∷ later) = world_after (next w moves) later

-- the values that differ from the one before them, where this value comes first
abbrev pub later_versions : ℤ → List ℤ → List ℤ
later_versions before [] = []
later_versions before (now ∷ later) = if differs before now then now ∷ later_versions now later else later_versions before later

-- the versions of a value, the first one being version 0
abbrev pub versions : List ℤ → List ℤ
versions [] = []
versions (first ∷ later) = first ∷ later_versions first later

-- the value of a field of an object in one world, if both are there
abbrev pub field_in : ℕ → ℕ → Worlds → Option ℤ
field_in object field w = value_at w object field

-- the values of a field by version
abbrev pub field_history : List Worlds → ℕ → ℕ → List ℤ
field_history worlds object field = versions (filter_map (field_in object field) worlds)

-- ---- the values as a race tells them: by object, field and version

abbrev pub Values : Type 0
Values = List (List (List ℤ))

abbrev pub fields_told : Values → ℕ → List (List ℤ)
fields_told values object = unwrap_or (slice_get values object) []

abbrev pub versions_told : Values → ℕ → ℕ → List ℤ
versions_told values object field = unwrap_or (slice_get (fields_told values object) field) []

-- version v of a field
abbrev pub version_told : Values → ℕ → ℕ → ℕ → Option ℤ
version_told values object field v = slice_get (versions_told values object field) v

-- the number of the newest version
abbrev pub newest : Values → ℕ → ℕ → ℕ
newest values object field = length (versions_told values object field) - 1

-- each field of each object of a world has its version
abbrev pub HasVersions : Worlds → Type 0
HasVersions w = AreOfFields w.objects w.versions

-- the values are those of these worlds, of which this is the last: of each object and field that was made, all versions
pub record IsHistory (worlds : List Worlds) (last : Worlds) (values : Values) : Type 0 where
  pub objects : length values ≡ length last.objects
  pub fields : (object : ℕ)
      → option_map (λ (told : List (List ℤ)). length told) (slice_get values object) ≡ option_map (λ (now : List ℤ). length now) (values_at last object)
  pub each : (object field : ℕ) → versions_told values object field ≡ field_history worlds object field

-- the values are those of the worlds that these ticks make of the first one
abbrev pub IsHistoryOf : Worlds → List (List (Option MoveBits)) → Values → Type 0
IsHistoryOf first ticks values = IsHistory (worlds_from first ticks) (world_after first ticks) values
