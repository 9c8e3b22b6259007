-- The tables that stand for reads while they are walked over once: of each field of each object the version that was read last, 0
-- before the first read; and the same of each field of each period. A table has a row of places for each object, or period. These
-- are words of private calls; the rules are in Reads and Legal.
use Rattle.std.specs.Prelude.{◌≡◌, ℕ, ◌<◌, ◌≤◌, ◌+◌, ◌*◌, List, [], ◌∷◌, length, Option, Some, None, slice_index, slice_index_or, slice_set}
use Rattle.tn_types.specs.BitWords.{has_bit}
use Rattle.dirty_lanes.specs.declared.limits.TheConstants.{MAX_LANE_FIELDS}
use Rattle.tn_types.specs.declared.choices.Read.{Read}
use Rattle.race_history.specs.History.{Values, fields_told}
use Rattle.race_reads.specs.Reads.{object_of, last_read, IsCurrent}

-- the place of a field in a row
abbrev pub place_in : ℕ → ℕ → ℕ
place_in row field = MAX_LANE_FIELDS * row + field

-- ---- by object

-- the read is of one of so many objects, and of a field that has a place
pub record HasPlace (objects : List ℕ) (count : ℕ) (r : Read) : Type 0 where
  pub shown : r.n < length objects
  pub object : object_of objects r.n < count
  pub field : r.field < MAX_LANE_FIELDS

abbrev pub place_of : List ℕ → Read → ℕ
place_of objects r = place_in (object_of objects r.n) r.field

-- the table after these reads
abbrev pub noted : List ℕ → List ℕ → List Read → List ℕ
noted objects last [] = last
noted objects last (r ∷ reads) = noted objects (slice_set last (place_of objects r) r.version) reads

-- no read is below the table as the reads before it left it
abbrev pub RisesFrom : List ℕ → List ℕ → List Read → Type 0
RisesFrom objects last [] = Unit {0}
RisesFrom objects last (r ∷ reads) =
    (slice_index last (place_of objects r) ≤ r.version) × RisesFrom objects (slice_set last (place_of objects r) r.version) reads

-- ---- by period

-- the field has a place
abbrev pub IsNarrow : Read → Type 0
IsNarrow r = r.field < MAX_LANE_FIELDS

abbrev pub noted_periods : List (Option ℕ) → List Read → List (Option ℕ)
noted_periods last [] = last
noted_periods last (r ∷ reads) = noted_periods (slice_set last (place_in r.n r.field) (Some r.version)) reads

-- for so many periods, what was read last
pub record AreLast (periods : ℕ) (reads : List Read) (last : List (Option ℕ)) : Type 0 where
  pub long : length last ≡ MAX_LANE_FIELDS * periods
  pub each : (n field : ℕ) → n < periods → field < MAX_LANE_FIELDS
      → slice_index_or last (place_in n field) None ≡ last_read reads n field

-- each field of an object is current, for a period with this row, word and mask of due fields
abbrev pub AreCurrentBy : Values → ℕ → ℕ → List (Option ℕ) → ℕ → ℕ → Type 0
AreCurrentBy values word due last object n = (field : ℕ) → field < length (fields_told values object)
    → IsCurrent values word (has_bit due field) (slice_index_or last (place_in n field) None) object field
