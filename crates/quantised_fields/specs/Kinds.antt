-- The first fault of a list of kinds. A list is no table where it has too many kinds or none; else its fault
-- is that of the least kind that has one. A kind's fault is the first of: too many fields, no field, a field
-- that isn't sound (the least one), too many bits together.
use Rattle.std.specs.Prelude.{ℕ, suc, List, [], ◌∷◌, ◌≡◌, ◌<◌, ◌≤◌, refl, pos, length, position, sum_by, Bool, false, not, nat_lt, ◌==◌, if◌then◌else◌, Option, Some, None, IsTrue, All}
use Rattle.std.specs.Option.{option_or}
use Rattle.tn_types.specs.declared.limits.TheConstants.{MAX_KINDS, MAX_FIELDS, MAX_KIND_BITS}
use Rattle.quantised_fields.specs.declared.field.FieldSpec.{FieldSpec}
use Rattle.quantised_fields.specs.declared.kind.Kind.{Kind}
use Rattle.quantised_fields.specs.declared.table.KindFault.{KindFault}
use Rattle.quantised_fields.specs.declared.table.KindFault.TheVariants.{TooManyKinds, NoKind, TooMany, Empty, BadRange, TooWide}
use Rattle.quantised_fields.specs.Levels.{is_sound}

abbrev pub is_unsound : FieldSpec → Bool
is_unsound f = not (is_sound f)

-- the bits of the fields together
abbrev pub width_of : List FieldSpec → ℕ
width_of fields = sum_by (λ f. f.bits) fields

abbrev pub bad_range : ℕ → Option ℕ → Option KindFault
bad_range k (Some field) = Some (BadRange k field)
bad_range k None = None

abbrev pub too_wide : ℕ → Kind → Option KindFault
too_wide k kind = if nat_lt MAX_KIND_BITS (width_of kind.fields) then Some (TooWide k) else None

-- the first fault of kind k
abbrev pub kind_fault : ℕ → Kind → Option KindFault
kind_fault k kind =
    if nat_lt MAX_FIELDS (length kind.fields) then Some (TooMany k)
    else if length kind.fields == 0 then Some (Empty k)
    else option_or (bad_range k (position is_unsound kind.fields)) (too_wide k kind)

-- the first fault of kinds that are numbered from k on
abbrev pub fault_from : ℕ → List Kind → Option KindFault
fault_from k [] = None
fault_from k (kind ∷ kinds) = option_or (kind_fault k kind) (fault_from (suc k) kinds)

-- the first fault of a list of kinds
abbrev pub table_fault : List Kind → Option KindFault
table_fault kinds =
    if nat_lt MAX_KINDS (length kinds) then Some TooManyKinds
    else if length kinds == 0 then Some NoKind
    else fault_from 0 kinds

-- what each kind of a table keeps
pub record IsWithinLimits (kind : Kind) : Type 0 where
  pub some : 0 < length kind.fields
  pub few : length kind.fields ≤ MAX_FIELDS
  pub sound : All (λ f. IsTrue (is_sound f)) kind.fields
  pub narrow : width_of kind.fields ≤ MAX_KIND_BITS

-- one field from 0 to 1 in one bit, and one that has no range
one_bit : FieldSpec
one_bit = record { lo = pos 0; hi = pos 1; bits = 1 }

flat : FieldSpec
flat = record { lo = pos 1; hi = pos 1; bits = 1 }

plain_kind : List FieldSpec → Kind
plain_kind fields = record { fields = fields; weight = 1; always = false }

-- a fault of the least kind comes before one of the next
least_kind : table_fault (plain_kind (one_bit ∷ one_bit ∷ []) ∷ plain_kind (one_bit ∷ flat ∷ []) ∷ plain_kind [] ∷ []) ≡ Some (BadRange 1 1)
unfolding plain_kind one_bit flat
least_kind = refl
