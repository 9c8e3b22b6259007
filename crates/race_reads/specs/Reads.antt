-- When what a client read is right: each read has the value that its field had at its version, the versions of a field never go
-- down, and what was read last is the newest, unless the field is marked or due. Lanes count an object's first value as version
-- 1, so a read at version v + 1 is of version v of the values, and a read at version 0 is of none.
use Rattle.std.specs.Prelude.{◌≡◌, refl, pos, ℕ, ◌<◌, ◌≤◌, ◌+◌, ◌-◌, ◌==◌, ◌&&◌, Bool, true, List, [], ◌∷◌, length, Option, Some, None, slice_index, if◌then◌else◌}
use Rattle.std.specs.List.{AllByRecursion}
use Rattle.tn_types.specs.BitWords.{has_bit}
use Rattle.tn_types.specs.declared.choices.Read.{Read}
use Rattle.race_history.specs.History.{Values, version_told, newest}

-- the object of a period, by the list of the objects of all periods
abbrev pub object_of : List ℕ → ℕ → ℕ
object_of objects n = slice_index objects n

-- the read has the value at its version, for the object of its period and its field
pub record ReadStands (values : Values) (objects : List ℕ) (r : Read) : Type 0 where
  pub shown : r.n < length objects
  pub written : 0 < r.version
  pub value : version_told values (object_of objects r.n) r.field (r.version - 1) ≡ Some r.value

-- ---- versions

abbrev pub IsSameField : List ℕ → Read → Read → Type 0
IsSameField objects r s = (object_of objects r.n ≡ object_of objects s.n) × (r.field ≡ s.field)

-- of the same object and field, the second is no older version than the first
abbrev pub IsNoOlder : List ℕ → Read → Read → Type 0
IsNoOlder objects r s = IsSameField objects r s → r.version ≤ s.version

-- no read is of an older version than one before it
abbrev pub NeverFalls : List ℕ → List Read → Type 0
NeverFalls objects [] = Unit {0}
NeverFalls objects (r ∷ reads) = AllByRecursion (IsNoOlder objects r) reads × NeverFalls objects reads

-- ---- what is seen in the end

abbrev pub is_read_of : ℕ → ℕ → Read → Bool
is_read_of n field r = (r.n == n) && (r.field == field)

abbrev pub or_earlier : Option ℕ → Bool → ℕ → Option ℕ
or_earlier (Some later) same version = Some later
or_earlier None same version = if same then Some version else None

-- the version at which a field was read last in this period, if it was
abbrev pub last_read : List Read → ℕ → ℕ → Option ℕ
last_read [] n field = None
last_read (r ∷ reads) n field = or_earlier (last_read reads n field) (is_read_of n field r) r.version

-- the last read has the newest version, or the bit stands in the final word, or the field is due
pub data IsCurrent (values : Values) (word : ℕ) (due : Bool) (last : Option ℕ) (object field : ℕ) : Type 0 where
  IsNewest : last ≡ Some (newest values object field + 1) → IsCurrent values word due last object field
  IsMarked : has_bit word field ≡ true → IsCurrent values word due last object field
  IsDue : due ≡ true → IsCurrent values word due last object field

-- ---- examples: periods 0 and 2 are of object 5; its field 1 is read in both

abbrev three_periods : List ℕ
three_periods = 5 ∷ 7 ∷ 5 ∷ []

abbrev in_both : List Read
in_both = record { n = 0; field = 1; version = 1; value = pos 9 } ∷ record { n = 2; field = 1; version = 3; value = pos 4 } ∷ []

last_in_first : last_read in_both 0 1 ≡ Some 1
last_in_first = refl

last_in_third : last_read in_both 2 1 ≡ Some 3
last_in_third = refl

none_in_second : last_read in_both 1 1 ≡ None
none_in_second = refl
