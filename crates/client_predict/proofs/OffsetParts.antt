-- The parts of an offset: how far each is from 0.
use Rattle.std.proofs.Common.{◌≡◌, ℕ, suc, zero, ◌*◌, ◌/◌, Option, Some, None, refl, arith, ap, sym}
use Rattle.std.specs.Prelude.{ℤ, pos, negsuc, ◌-ℤ◌}
use Rattle.std.specs.Int.RustNames.{unsigned_abs}
use Rattle.std.proofs.lemmas.Int.{ints}
use Rattle.std.proofs.lemmas.Bool.Decides.{nat_tests}
use Rattle.client_predict.specs.Offsets.{IsOffset, decayed, decayed_both, seen_from, kept, corrected}

abs-neg : (k : ℕ) → unsigned_abs (pos 0 -ℤ pos k) ≡ k
abs-neg k = let e : (n : ℕ) → pos 0 -ℤ pos (suc n) ≡ negsuc n = λ n. omega (arith, ints) in
    elim k as (λ k. unsigned_abs (pos 0 -ℤ pos k) ≡ k) [ zero ↦ refl | suc n ↦ ap unsigned_abs (e n) ]

-- three quarters are left
pub abs-decayed : (z : ℤ) → unsigned_abs (decayed z) ≡ 3 * unsigned_abs z / 4
abs-decayed (pos n) = refl
abs-decayed (negsuc n) = abs-neg (3 * suc n / 4)

pub decayed_within : (e : ℤ × ℤ) → IsOffset e → IsOffset (decayed_both e)
decayed_within e h =
    (omega (arith, abs-decayed e.0, h.0), omega (arith, abs-decayed e.1, h.1))

-- what is kept is an offset
pub kept_within : (e : ℤ × ℤ) → IsOffset (kept e)
kept_within e = grind (arith, nat_tests)

-- an offset is kept
pub kept_same : (e : ℤ × ℤ) → IsOffset e → kept e ≡ e
kept_same e h = grind (arith, nat_tests)

pub corrected_within : (old new : Option (ℤ × ℤ × ℤ)) (e : ℤ × ℤ) → IsOffset (corrected old new e)
corrected_within (Some old) (Some new) e = kept_within (seen_from old.0 e.0 new.0, seen_from old.1 e.1 new.1)
corrected_within (Some old) None e = (omega arith, omega arith)
corrected_within None new e = (omega arith, omega arith)

seen_same : (v e : ℤ) → seen_from v e v ≡ e
seen_same v e = omega (arith, ints)

-- a correction from a value to itself changes no offset
pub corrected_same : (v : Option (ℤ × ℤ × ℤ)) (e : ℤ × ℤ) → IsOffset e → (v ≡ None → e ≡ (pos 0, pos 0)) → corrected v v e ≡ e
corrected_same None e h none = sym (none refl)
corrected_same (Some v) e h none = rw (seen_same v.0 e.0, seen_same v.1 e.1) (kept_same e h)
