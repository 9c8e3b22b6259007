-- The two roundings at a field, and what is known of a sound one.
use Rattle.std.proofs.Common.{◌≡◌, inl, inr, ℕ, ◌+◌, ◌*◌, ◌^◌, ◌<◌, ◌≤◌, arith, sym, ◌∙◌, ap, IsTrue}
use Rattle.std.specs.Prelude.{ℤ, pos, ◌+ℤ◌, ◌-ℤ◌, ◌≤ℤ◌}
use Rattle.std.specs.Int.{int_gap}
use Rattle.std.proofs.lemmas.Int.{ints}
use Rattle.std.specs.Int.RustNames.{unsigned_abs}
use Rattle.std.proofs.Math.Nat.{pow-le-pow_right}
use Rattle.std.proofs.lemmas.Bool.{cases_lt}
use Rattle.tn_types.specs.declared.limits.TheConstants.{MAX_FIELD_BITS}
use Rattle.quantised_fields.specs.declared.field.FieldSpec.{FieldSpec}
use Rattle.quantised_fields.specs.Levels.{is_sound, range_of, greatest_of, level_of, shown_of, shown_in}
use Rattle.quantised_fields.proofs.Nearest.{near, exact, quotient, level_again_few}
use Rattle.quantised_fields.proofs.Gaps.{apart, low_plus_gap, gap_of_sum}

pub record Sound (s : FieldSpec) : Type 0 where
  pub above : 0 < range_of s
  pub below : range_of s < 2 ^ 32
  pub some : 0 < s.bits
  pub few : s.bits ≤ MAX_FIELD_BITS

pub sound : (s : FieldSpec) → IsTrue (is_sound s) → Sound s
sound s h = record { above = grind arith; below = grind arith; some = grind arith; few = grind arith }

pub greatest_above : (s : FieldSpec) → IsTrue (is_sound s) → 0 < greatest_of s
greatest_above s h =
    let k = sound s h in
    let p : 2 ^ 1 ≤ 2 ^ s.bits = pow-le-pow_right (omega arith) {i = 1} {j = s.bits} (omega (arith, k.some)) in
    omega arith

pub greatest_below : (s : FieldSpec) → IsTrue (is_sound s) → greatest_of s < 2 ^ 24
greatest_below s h =
    let k = sound s h in
    let p : 2 ^ s.bits ≤ 2 ^ 24 = pow-le-pow_right (omega arith) {i = s.bits} {j = 24} k.few in
    omega arith

pub level_near : (s : FieldSpec) (x : ℤ) → IsTrue (is_sound s) → s.lo ≤ℤ x → 2 * greatest_of s * unsigned_abs (shown_of s (level_of s x) -ℤ x) ≤ range_of s + greatest_of s
level_near s x h le =
    let k = sound s h in
    let a = greatest_above s h in
    let d = int_gap s.lo x in
    let l = level_of s x in
    rw (apart s.lo x (shown_in l (range_of s) (greatest_of s)) d (low_plus_gap s.lo x le))
    (near d (range_of s) (greatest_of s) l (shown_in l (range_of s) (greatest_of s)) (quotient (2 * d * greatest_of s + range_of s) (2 * range_of s) (omega (arith, k.above))) (quotient (2 * l * range_of s + greatest_of s) (2 * greatest_of s) (omega arith)))

pub level_exact : (s : FieldSpec) (x : ℤ) → IsTrue (is_sound s) → s.lo ≤ℤ x → range_of s ≤ greatest_of s → shown_of s (level_of s x) ≡ x
level_exact s x h le few =
    let k = sound s h in
    let a = greatest_above s h in
    let d = int_gap s.lo x in
    let l = level_of s x in
    let e = exact d (range_of s) (greatest_of s) l (shown_in l (range_of s) (greatest_of s)) few (quotient (2 * d * greatest_of s + range_of s) (2 * range_of s) (omega (arith, k.above))) (quotient (2 * l * range_of s + greatest_of s) (2 * greatest_of s) (omega arith)) in
    rw e (sym (low_plus_gap s.lo x le))

pub shown_low : (lo : ℤ) (s : ℕ) → lo ≤ℤ (lo +ℤ pos s)
shown_low lo s = omega (arith, ints)

pub shown_high : (lo hi : ℤ) (s : ℕ) → lo ≤ℤ hi → s ≤ int_gap lo hi → (lo +ℤ pos s) ≤ℤ hi
shown_high lo hi s le few = let e = low_plus_gap lo hi le in omega (arith, ints)

-- what the level of a value shows has the same level
pub level_again : (s : FieldSpec) (x : ℤ) (l : ℕ) → IsTrue (is_sound s) → s.lo ≤ℤ x → l ≡ level_of s x → level_of s (shown_of s l) ≡ l
level_again s x l h le e =
    let k = sound s h in
    let a = greatest_above s h in
    elim (cases_lt (greatest_of s) (range_of s)) [
      | inl few ↦
          rw (gap_of_sum s.lo (shown_in l (range_of s) (greatest_of s)))
          (level_again_few (range_of s) (greatest_of s) l (shown_in l (range_of s) (greatest_of s)) few (quotient (2 * l * range_of s + greatest_of s) (2 * greatest_of s) (omega arith)))
      | inr many ↦ ap (level_of s) (ap (shown_of s) e ∙ level_exact s x h le many) ∙ sym e
    ]
