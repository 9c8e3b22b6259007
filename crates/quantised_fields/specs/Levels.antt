-- The level of a value, and the value that a level shows. A field from lo to hi in so many bits has the
-- range hi - lo and the greatest level 2 ^ bits - 1, so each level but the last is a step of range / greatest
-- wide. A value has the nearest level, and a level shows the nearest value; a tie goes up.
use Rattle.std.specs.Prelude.{ℕ, ℤ, pos, negsuc, ◌+◌, ◌-◌, ◌*◌, ◌/◌, ◌^◌, ◌+ℤ◌, Bool, ◌&&◌, nat_lt, nat_le, ◌≡◌, refl, [], ◌∷◌, map}
use Rattle.std.specs.Int.{int_gap}
use Rattle.tn_types.specs.declared.limits.TheConstants.{MAX_FIELD_BITS, MAX_WORD_BITS}
use Rattle.quantised_fields.specs.declared.field.FieldSpec.{FieldSpec}

abbrev pub range_of : FieldSpec → ℕ
range_of s = int_gap s.lo s.hi

abbrev pub greatest_of : FieldSpec → ℕ
greatest_of s = 2 ^ s.bits - 1

-- the range has 2 to 2 ^ 32 values, and the bits are 1 to 24
abbrev pub is_sound : FieldSpec → Bool
is_sound s = nat_lt 0 (range_of s) && nat_lt (range_of s) (2 ^ MAX_WORD_BITS) && nat_lt 0 s.bits && nat_le s.bits MAX_FIELD_BITS

-- the level at this distance above lo
abbrev pub level_in : ℕ → ℕ → ℕ → ℕ
level_in distance range greatest = (2 * distance * greatest + range) / (2 * range)

-- the distance above lo that this level shows
abbrev pub shown_in : ℕ → ℕ → ℕ → ℕ
shown_in level range greatest = (2 * level * range + greatest) / (2 * greatest)

abbrev pub level_of : FieldSpec → ℤ → ℕ
level_of s x = level_in (int_gap s.lo x) (range_of s) (greatest_of s)

abbrev pub shown_of : FieldSpec → ℕ → ℤ
shown_of s level = s.lo +ℤ pos (shown_in level (range_of s) (greatest_of s))

-- 0 to 10 in two bits: 5 is a tie and goes up
narrow : FieldSpec
narrow = record { lo = pos 0; hi = pos 10; bits = 2 }

levels_of_narrow : map (level_of narrow) (pos 0 ∷ pos 1 ∷ pos 2 ∷ pos 5 ∷ pos 10 ∷ []) ≡ 0 ∷ 0 ∷ 1 ∷ 2 ∷ 3 ∷ []
unfolding narrow
levels_of_narrow = refl

shown_of_narrow : map (shown_of narrow) (0 ∷ 1 ∷ 2 ∷ 3 ∷ []) ≡ pos 0 ∷ pos 3 ∷ pos 7 ∷ pos 10 ∷ []
unfolding narrow
shown_of_narrow = refl

-- a range below zero
below_zero : shown_of (record { lo = negsuc 9; hi = pos 10; bits = 1 }) 1 ≡ pos 10
below_zero = refl
