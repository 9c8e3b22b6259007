-- One multiplication and one addition, both modulo 2 ^ 64, give how far a value is above the least one, and half a level more.
use Rattle.std.proofs.Common.{◌≡◌, ℕ, ◌+◌, ◌*◌, ◌/◌, ◌%◌, ◌^◌, ◌<◌, ◌∙◌, ap, arith, ℤ, FitsSigned, w64, pos, negsuc}
use Rattle.std.specs.Prelude.{◌≤ℤ◌, ◌+ℤ◌}
use Rattle.std.specs.Int.{int_gap, cast_unsigned}
use Rattle.std.proofs.lemmas.Int.{ints}
use Rattle.quantised_fields.specs.declared.field.FieldSpec.{FieldSpec}
use Rattle.quantised_fields.specs.Levels.{level_of}
use Rattle.quantised_fields.proofs.Gaps.{gap_grows, low_plus_gap}
use Rattle.quantised_fields.proofs.Specs.{sound}
use Rattle.level_scales.specs.declared.scale.Scale.{Scale}
use Rattle.level_scales.specs.Scales.{IsScaleOf}
use Rattle.level_scales.proofs.Rounded.{product_fits, scale_tells}

-- the words of two numbers that are so far apart: a negative number's word is 2 ^ 64 more than it
record AreApart (low here distance : ℕ) : Type 0 where
  pub low_negative : ℕ
  pub here_negative : ℕ
  pub same : here + low_negative * 18446744073709551616 ≡ low + distance + here_negative * 18446744073709551616

words_apart : (lo x : ℤ) (d : ℕ) → FitsSigned w64 x → d < 2 ^ 32 → x ≡ lo +ℤ pos d → AreApart (cast_unsigned w64 lo) (cast_unsigned w64 x) d
words_apart (pos a) (pos b) d f small e = record { low_negative = 0; here_negative = 0; same = omega (arith, ints) }
words_apart (pos a) (negsuc b) d f small e = absurd (omega (arith, ints))
words_apart (negsuc a) (pos b) d f small e = record { low_negative = 1; here_negative = 0; same = omega (arith, ints) }
words_apart (negsuc a) (negsuc b) d f small e = record { low_negative = 1; here_negative = 1; same = omega (arith, ints) }

sum_is : (l v d a base : ℕ) → AreApart l v d → (l * a + base) % 18446744073709551616 ≡ 549755813888 → d * a + 549755813888 < 2 ^ 64
    → (v * a % 18446744073709551616 + base) % 18446744073709551616 ≡ d * a + 549755813888
sum_is l v d a base apart is fits =
    let e = ap (λ x. x * a) apart.same in
    omega (arith, e, is, fits)

-- ---- at a field

pub level_is : (s : FieldSpec) (scale : Scale) (x : ℤ) → FitsSigned w64 x → IsScaleOf s scale → s.lo ≤ℤ x → x ≤ℤ s.hi
    → (cast_unsigned w64 x * scale.step % 18446744073709551616 + scale.base) % 18446744073709551616 / 1099511627776 ≡ level_of s x
level_is s scale x fits is least most =
    let d = int_gap s.lo x in
    let small : d < 2 ^ 32 = omega (arith, gap_grows s.lo x s.hi least most, (sound s is.sound).below) in
    let apart = words_apart s.lo x d fits small (low_plus_gap s.lo x least) in
    ap (λ n. n / 1099511627776) (sum_is (cast_unsigned w64 s.lo) (cast_unsigned w64 x) d scale.step scale.base apart is.base (product_fits s scale x is least most))
    ∙ scale_tells s scale x is least most
