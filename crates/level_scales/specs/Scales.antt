-- What a step above a field's least value is of a level, counted in parts of which a level has 2 ^ 40, and rounded up. What it
-- is too large by makes no level wrong where the range is narrow; where the range is the greatest level, it is too large by
-- nothing, whatever the range.
use Rattle.std.specs.Prelude.{ℕ, ◌+◌, ◌-◌, ◌*◌, ◌/◌, ◌%◌, ◌^◌, Bool, true, false, ◌||◌, nat_le, ◌==◌, ◌≡◌, refl, pos, IsTrue, [], ◌∷◌, map}
use Rattle.std.specs.Int.{cast_unsigned, w64}
use Rattle.quantised_fields.specs.declared.field.FieldSpec.{FieldSpec}
use Rattle.quantised_fields.specs.Levels.{is_sound, range_of, greatest_of}
use Rattle.level_scales.specs.declared.scale.Scale.{Scale}
use Rattle.level_scales.specs.declared.scale.TheConstants.{PARTS, NARROW}

-- the parts of a step, where so many steps make the greatest level
abbrev pub step_of : ℕ → ℕ → ℕ
step_of range greatest = (PARTS * greatest + (range - 1)) / range

-- so many parts tell each level of the field
abbrev pub has_scale : FieldSpec → Bool
has_scale s = range_of s == greatest_of s || nat_le (range_of s) NARROW

-- it is the field's, and tells each of its levels
pub record IsScaleOf (s : FieldSpec) (scale : Scale) : Type 0 where
  pub sound : IsTrue (is_sound s)
  pub exact : IsTrue (has_scale s)
  -- a value's word times the step, with the base added, is modulo 2 ^ 64 half a level at the least value
  pub base : (cast_unsigned w64 s.lo * scale.step + scale.base) % 2 ^ 64 ≡ PARTS / 2
  pub bits : scale.bits ≡ s.bits
  pub step : scale.step ≡ step_of (range_of s) (greatest_of s)

-- ---- examples

-- the numbers that docs/wire.md, "Levels", tells: 2 ^ 40 parts, and scales for ranges up to 2 ^ 19
constants : PARTS ∷ NARROW ∷ [] ≡ 1099511627776 ∷ 524288 ∷ []
constants = refl

-- three steps to three levels are a level each, and of ten steps each is three tenths of a level, rounded up
steps : step_of 3 3 ∷ step_of 10 3 ∷ [] ≡ 1099511627776 ∷ 329853488333 ∷ []
steps = refl

-- 0 to 10 in two bits: 5 is a tie and goes up
tenths : map (λ d. (d * 329853488333 + 549755813888) / PARTS) (0 ∷ 1 ∷ 2 ∷ 5 ∷ 10 ∷ []) ≡ 0 ∷ 0 ∷ 1 ∷ 2 ∷ 3 ∷ []
tenths = refl

-- the widest range that has a scale at each width, the next one, and one with a level for each value
abbrev wide : ℕ → ℕ → FieldSpec
wide range bits = record { lo = pos 0; hi = pos range; bits = bits }

narrow_ones : map has_scale (wide 524288 24 ∷ wide 524289 24 ∷ wide 16777215 24 ∷ []) ≡ true ∷ false ∷ true ∷ []
narrow_ones = refl
