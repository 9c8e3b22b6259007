-- Quarters of a reach, told by one multiplication.
use Rattle.std.proofs.Common.{◌≡◌, ℕ, ◌+◌, ◌-◌, ◌*◌, ◌/◌, ◌<◌, ◌≤◌, inl, inr, Bool, true, false, List, [], ◌∷◌, Some, refl, sym, ap, ◌∙◌, arith}
use Rattle.std.specs.Prelude.{find}
use Rattle.std.specs.List.{AllByRecursion}
use Rattle.world_rules.specs.declared.limits.TheConstants.{MAX_COORDINATE}
use Rattle.world_rules.specs.declared.object.Object.{Object}
use Rattle.world_rules.specs.declared.object.Place.{Place}
use Rattle.world_rules.specs.Ranges.{ObjectFits, PlaceFits}
use Rattle.world_scope.specs.Sight.{distance}
use Rattle.std.proofs.Math.Nat.{mul-le-mul_left, div-mul-le_self, le-div_iff_mul-le}
use Rattle.std.proofs.lemmas.Bool.{cases_lt}

-- the quotient of two numbers, by its bounds
below_next : (n k : ℕ) → 0 < k → n < (n / k + 1) * k
below_next n k l =
    elim (cases_lt n ((n / k + 1) * k)) [
      | inl less ↦ less
      | inr more ↦ let d = (le-div_iff_mul-le {k = k} {x = n / k + 1} {y = n} l).1 more in absurd (omega (arith, d))
    ]

-- what is known of a share
pub record IsShare (radius share : ℕ) : Type 0 where
  pub least : 1125899906842624 ≤ share * (radius + 1)
  pub most : share * (radius + 1) ≤ 1125899906842624 + radius

is_share : (radius share : ℕ) → share ≡ (1125899906842624 + radius) / (radius + 1) → IsShare radius share
is_share radius share e =
    let below = below_next (1125899906842624 + radius) (radius + 1) (omega arith) in
    let above = div-mul-le_self (1125899906842624 + radius) (radius + 1) in
    record {
      least = let l : 1125899906842624 + radius < (share + 1) * (radius + 1) = rw e below in omega (arith, l);
      most = rw e above;
    }

-- a part of a quarter is told exactly, since what the share is too large by makes less than a part in 2 ^ 48
not_less : (radius share away q : ℕ) → IsShare radius share → q * (radius + 1) ≤ 4 * away → away * share < q * 281474976710656 → ⊥
not_less radius share away q s h l =
    let a = mul-le-mul_left (radius + 1) l in
    let b = mul-le-mul_left away s.least in
    omega (arith, a, b, h)

not_more : (radius share away q : ℕ) → IsShare radius share → radius < 4294967296 → away ≤ 65535 → 4 * away < (q + 1) * (radius + 1) → (q + 1) * 281474976710656 ≤ away * share → ⊥
not_more radius share away q s r w h l =
    let a = mul-le-mul_left (radius + 1) l in
    let b = mul-le-mul_left away s.most in
    let c = mul-le-mul_left away r in
    omega (arith, a, b, c, h, w)

told : (radius share away : ℕ) → IsShare radius share → radius < 4294967296 → away ≤ 65535 → away * share / 281474976710656 ≡ 4 * away / (radius + 1)
told radius share away s r w =
    let q = 4 * away / (radius + 1) in
    let p = away * share in
    let low : q * 281474976710656 ≤ p = elim (cases_lt p (q * 281474976710656)) [
      | inl less ↦ absurd (not_less radius share away q s (div-mul-le_self (4 * away) (radius + 1)) less)
      | inr more ↦ more
    ] in
    let high : p < (q + 1) * 281474976710656 = elim (cases_lt p ((q + 1) * 281474976710656)) [
      | inl less ↦ less
      | inr more ↦ absurd (not_more radius share away q s r w (below_next (4 * away) (radius + 1) (omega arith)) more)
    ] in
    by_bounds p q low high
  where
    by_bounds : (p q : ℕ) → q * 281474976710656 ≤ p → p < (q + 1) * 281474976710656 → p / 281474976710656 ≡ q
    by_bounds p q low high = omega (arith, low, high)

from_whole : (whole : ℕ) → 0 < whole → whole - 1 + 1 ≡ whole
from_whole whole l = omega (arith, l)

share_by : (whole share : ℕ) → 0 < whole → share ≡ (1125899906842624 + (whole - 1)) / whole → IsShare (whole - 1) share
share_by whole share l e = is_share (whole - 1) share (e ∙ ap (λ (k : ℕ). (1125899906842624 + (whole - 1)) / k) (sym (from_whole whole l)))

pub share_tells : (whole share away : ℕ) → whole ≤ 4294967296 → away ≤ 65535 → away < whole → share ≡ (1125899906842624 + (whole - 1)) / whole → away * share / 281474976710656 ≡ 4 * away / whole
share_tells whole share away l w near e =
    let some : 0 < whole = omega (arith, near) in
    told (whole - 1) share away (share_by whole share some e) (omega (arith, l)) w
    ∙ ap (λ (k : ℕ). 4 * away / k) (from_whole whole some)

-- what lies in the field is no further away than the field is wide
pub near_enough : (a b : Place) → PlaceFits a → PlaceFits b → distance a b ≤ MAX_COORDINATE
near_enough a b f g = omega (arith, f.0, f.1, g.0, g.1)

-- a player that is found lies in the field
pub found_fits : (p : Object → Bool) (os : List Object) (o : Object) → AllByRecursion ObjectFits os → find p os ≡ Some o → PlaceFits o.place
found_fits p [] o a e = absurd (cc)
found_fits p (x ∷ os) o a e = by_test (p x) refl (λ h. found_fits p os o a.1 h)
  where
    by_test : (b : Bool) → p x ≡ b → (find p os ≡ Some o → PlaceFits o.place) → PlaceFits o.place
    by_test true t later = let h : Some x ≡ Some o = rw t at e in let same : x ≡ o = cc in rw (sym same) a.0.place
    by_test false t later = later (rw t at e)
