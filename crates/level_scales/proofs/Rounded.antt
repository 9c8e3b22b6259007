-- The nearest level by one multiplication: what a step is too large by makes less than what the next level is away.
use Rattle.std.proofs.Common.{◌≡◌, ℕ, ◌+◌, ◌-◌, ◌*◌, ◌/◌, ◌^◌, ◌<◌, ◌≤◌, inl, inr, arith, sym}
use Rattle.std.proofs.Math.Nat.{mul-le-mul_left, mul-le-mul_right}
use Rattle.std.proofs.lemmas.Bool.{cases_lt}
use Rattle.std.proofs.lemmas.Bool.Decides.{nat_tests}
use Rattle.std.specs.Prelude.{ℤ, ◌≤ℤ◌, IsTrue}
use Rattle.std.specs.Int.{int_gap}
use Rattle.quantised_fields.specs.declared.field.FieldSpec.{FieldSpec}
use Rattle.quantised_fields.specs.Levels.{is_sound, range_of, greatest_of, level_in, level_of}
use Rattle.quantised_fields.proofs.Gaps.{gap_grows}
use Rattle.quantised_fields.proofs.Nearest.{Quotient, quotient, only_quotient, level_fits}
use Rattle.quantised_fields.proofs.Specs.{sound, greatest_above, greatest_below}
use Rattle.level_scales.specs.declared.scale.Scale.{Scale}
use Rattle.level_scales.specs.Scales.{step_of, has_scale, IsScaleOf}

-- a step, by its bounds
pub record IsStep (range greatest step : ℕ) : Type 0 where
  pub least : 1099511627776 * greatest ≤ range * step
  pub most : range * step < 1099511627776 * greatest + range

pub is_step : (range greatest : ℕ) → 0 < range → IsStep range greatest (step_of range greatest)
is_step range greatest above =
    let q = quotient (1099511627776 * greatest + (range - 1)) range above in
    record { least = omega (arith, q.high, above); most = omega (arith, q.low, above) }

-- a quotient is not less than the level,
not_less : (d r m a q : ℕ) → 0 < r → IsStep r m a → Quotient (2 * d * m + r) (2 * r) q → d * a + 549755813888 < q * 1099511627776 → ⊥
not_less d r m a q above s k l =
    let x = mul-le-mul_left r l in
    let y = mul-le-mul_left d s.least in
    omega (arith, x, y, k.low, above)

-- and not more, where the range is narrow
not_more : (d r m a q : ℕ) → 0 < r → d ≤ r → r ≤ 524288 → IsStep r m a → Quotient (2 * d * m + r) (2 * r) q → (q + 1) * 1099511627776 ≤ d * a + 549755813888 → ⊥
not_more d r m a q above within narrow s k l =
    let x = mul-le-mul_left r l in
    let y = mul-le-mul_left d s.most in
    let z = mul-le-mul_right r within in
    let w = mul-le-mul_right r narrow in
    omega (arith, x, y, z, w, k.high, above, within, narrow)

by_bounds : (x q : ℕ) → q * 1099511627776 ≤ x → x < (q + 1) * 1099511627776 → x / 1099511627776 ≡ q
by_bounds x q low high = omega (arith, low, high)

narrow_tells : (d r m a : ℕ) → 0 < r → d ≤ r → r ≤ 524288 → IsStep r m a → (d * a + 549755813888) / 1099511627776 ≡ level_in d r m
narrow_tells d r m a above within narrow s =
    let q = level_in d r m in
    let k = quotient (2 * d * m + r) (2 * r) (omega (arith, above)) in
    let x = d * a + 549755813888 in
    let low : q * 1099511627776 ≤ x = elim (cases_lt x (q * 1099511627776)) [
      | inl less ↦ absurd (not_less d r m a q above s k less)
      | inr more ↦ more
    ] in
    let high : x < (q + 1) * 1099511627776 = elim (cases_lt x ((q + 1) * 1099511627776)) [
      | inl less ↦ less
      | inr more ↦ absurd (not_more d r m a q above within narrow s k more)
    ] in
    by_bounds x q low high

-- where each value has a level of its own, a step is a whole level
whole_step : (r a : ℕ) → 0 < r → IsStep r r a → a ≡ 1099511627776
whole_step r a above s =
    elim (cases_lt a 1099511627776) [
      | inl lt ↦ (let x = mul-le-mul_left r lt in absurd (omega (arith, x, s.least, above)))
      | inr le ↦ elim (cases_lt 1099511627776 a) [
        | inl gt ↦ (let x = mul-le-mul_left r gt in absurd (omega (arith, x, s.most, above)))
        | inr ge ↦ omega (arith, le, ge)
      ]
    ]

whole_tells : (d r a : ℕ) → 0 < r → IsStep r r a → (d * a + 549755813888) / 1099511627776 ≡ level_in d r r
whole_tells d r a above s =
    let q = level_in d r r in
    let own : q ≡ d = only_quotient (2 * d * r + r) (2 * r) q d (quotient (2 * d * r + r) (2 * r) (omega (arith, above))) (record { low = omega arith; high = omega (arith, above) }) in
    rw (whole_step r a above s, own) (by_bounds (d * 1099511627776 + 549755813888) d (omega arith) (omega arith))

-- the product fits a word
product_small : (d r m a : ℕ) → d ≤ r → r < 2 ^ 32 → m < 2 ^ 24 → IsStep r m a → d * a + 549755813888 < 2 ^ 64
product_small d r m a within range few s = let x = mul-le-mul_right a within in omega (arith, x, s.most, range, few)

-- ---- at a field

either : (s : FieldSpec) → IsTrue (has_scale s) → 524288 < range_of s → range_of s ≡ greatest_of s
either s h wide = grind (arith, nat_tests)

step_is : (s : FieldSpec) (scale : Scale) → IsScaleOf s scale → IsStep (range_of s) (greatest_of s) scale.step
step_is s scale h = rw h.step (is_step (range_of s) (greatest_of s) (sound s h.sound).above)

pub product_fits : (s : FieldSpec) (scale : Scale) (x : ℤ) → IsScaleOf s scale → s.lo ≤ℤ x → x ≤ℤ s.hi → int_gap s.lo x * scale.step + 549755813888 < 2 ^ 64
product_fits s scale x h least most =
    product_small (int_gap s.lo x) (range_of s) (greatest_of s) scale.step (gap_grows s.lo x s.hi least most) (sound s h.sound).below (greatest_below s h.sound) (step_is s scale h)

pub scale_tells : (s : FieldSpec) (scale : Scale) (x : ℤ) → IsScaleOf s scale → s.lo ≤ℤ x → x ≤ℤ s.hi → (int_gap s.lo x * scale.step + 549755813888) / 1099511627776 ≡ level_of s x
scale_tells s scale x h least most =
    let d = int_gap s.lo x in
    let r = range_of s in
    let above = (sound s h.sound).above in
    let is = step_is s scale h in
    elim (cases_lt 524288 r) [
      | inl wide ↦ (let same = either s h.exact wide in whole_at d r (greatest_of s) scale.step above same is)
      | inr narrow ↦ narrow_tells d r (greatest_of s) scale.step above (gap_grows s.lo x s.hi least most) narrow is
    ]
  where
    whole_at : (d r m a : ℕ) → 0 < r → r ≡ m → IsStep r m a → (d * a + 549755813888) / 1099511627776 ≡ level_in d r m
    whole_at d r m a above same = rw (sym same) (whole_tells d r a above)

pub level_below : (s : FieldSpec) (x : ℤ) → IsTrue (is_sound s) → s.lo ≤ℤ x → x ≤ℤ s.hi → level_of s x < 2 ^ s.bits
level_below s x h least most =
    omega (arith, level_fits (int_gap s.lo x) (range_of s) (greatest_of s) (gap_grows s.lo x s.hi least most) (sound s h).above, greatest_above s h)
