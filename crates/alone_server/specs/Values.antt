-- The values that packs ask for: the newest of the shown periods, as the own list told them.
use Rattle.std.specs.Prelude.{◌≡◌, ℕ, ℤ, int_le, ◌&&◌, if◌then◌else◌, List, slice_get, option_and_then, Option, Some, None}
use Rattle.tn_types.specs.declared.choices.Read.{Read}
use Rattle.quantised_fields.specs.declared.field.FieldSpec.{FieldSpec}
use Rattle.ghost_masks.specs.Plan.{fields_of}
use Rattle.world_rules.specs.Kinds.{match_kinds}
use Rattle.alone_server.specs.declared.periods.OwnPeriod.{OwnPeriod}
use Rattle.alone_server.specs.Periods.{period_in}

-- the range of a field, where this value lies in it
abbrev pub range_of : ℤ → FieldSpec → Option (ℤ × ℤ)
range_of value spec = if int_le spec.lo value && int_le value spec.hi then Some (spec.lo, spec.hi) else None

-- the range of a field of a period that has a value in it
abbrev pub range_in : ℕ → OwnPeriod → Option (ℤ × ℤ)
range_in field p =
    option_and_then (λ spec. option_and_then (λ value. range_of value spec) (slice_get p.values.items field))
    (slice_get (fields_of match_kinds p.kind) field)

-- the range of a field of a shown period
abbrev pub ranges : List OwnPeriod → ℕ → ℕ → Option (ℤ × ℤ)
ranges ps n field = option_and_then (range_in field) (period_in ps n)

-- the read is of a shown period, and has its newest value
pub record IsOwnRead (ps : List OwnPeriod) (r : Read) : Type 0 where
  pub period : OwnPeriod
  pub found : period_in ps r.n ≡ Some period
  pub newest : slice_get period.values.items r.field ≡ Some r.value
  pub plain : r.version ≡ 0
