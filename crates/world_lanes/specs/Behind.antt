-- Where the lanes are behind a world, and what storing a world's values changes. The lanes count the value with which a field begins
-- as their version 1: they have version v of a field where they wrote it v + 1 times.
use Rattle.std.specs.Prelude.{◌≡◌, ℕ, ℤ, ◌≤ℤ◌, ◌+◌, ◌&&◌, ◌==◌, Bool, true, false, nat_le, nat_lt, is_some, if◌then◌else◌, List, Option, Some, None, IfSome, option_and_then, slice_get}
use Rattle.quantised_fields.specs.declared.field.FieldSpec.{FieldSpec}
use Rattle.quantised_fields.specs.declared.kind.Kind.{Kind}
use Rattle.dirty_lanes.specs.declared.limits.TheConstants.{MAX_LANE_FIELDS}
use Rattle.dirty_lanes.specs.declared.view.SimStep.{SimStep}
use Rattle.dirty_lanes.specs.Views.{newest, newest_value}
use Rattle.lane_periods.specs.Views.{value_in}
use Rattle.world_rules.specs.Kinds.{match_kinds}
use Rattle.world_sim.specs.Worlds.{Worlds, kind_at, value_at, version_at}

-- there is a version that was not written
abbrev pub is_unwritten : ℕ → Option ℕ → Bool
is_unwritten written None = false
is_unwritten written (Some version) = nat_le written version

-- the field is there, and its value's version was not written
abbrev pub is_behind : Worlds → List SimStep → ℕ → ℕ → Bool
is_behind w steps object field = is_some (value_at w object field) && is_unwritten (newest steps object field) (version_at w object field)

-- how a field of an object is told, by the object's kind
abbrev pub spec_at : Worlds → ℕ → ℕ → Option FieldSpec
spec_at w object field =
    option_and_then (λ (of : Kind). slice_get of.fields field) (option_and_then (slice_get match_kinds) (kind_at w object))

-- there is such a field, and the value lies in its range
abbrev pub Fits : Option FieldSpec → ℤ → Type 0
Fits None value = ⊥
Fits (Some spec) value = (spec.lo ≤ℤ value) × (value ≤ℤ spec.hi)

-- the word says of the field what the world does
abbrev pub IsWordOf : Worlds → ℕ → ℕ → ℕ → Type 0
IsWordOf w object field word =
    IfSome (spec_at w object field) (λ spec. IfSome (value_at w object field) (λ value. value_in spec word ≡ value))

-- the fields of one object below this one, and all fields of the objects below this one
abbrev pub fields_below : ℕ → ℕ → ℕ → ℕ → Bool
fields_below object most o f = (o == object) && nat_lt f most

abbrev pub objects_below : ℕ → ℕ → ℕ → Bool
objects_below most o f = nat_lt o most && nat_lt f MAX_LANE_FIELDS

-- the lanes are behind in no field of the world
abbrev pub IsBrought : Worlds → List SimStep → Type 0
IsBrought w steps = (object field : ℕ) → is_behind w steps object field ≡ false

-- of the chosen fields, those in which the lanes were behind were written once, and no other field
pub record Brings (w : Worlds) (chosen : ℕ → ℕ → Bool) (old new : List SimStep) : Type 0 where
  pub versions : (object field : ℕ) → newest new object field
      ≡ (if chosen object field && is_behind w old object field then newest old object field + 1 else newest old object field)
  pub values : (object field : ℕ) → (chosen object field && is_behind w old object field) ≡ true
      → IsWordOf w object field (newest_value new object field)
  pub others : (object field : ℕ) → (chosen object field && is_behind w old object field) ≡ false
      → newest_value new object field ≡ newest_value old object field
