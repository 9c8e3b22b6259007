-- What holds of every log of corrections and steps.
use Rattle.std.proofs.Common.{◌≡◌, ℕ, suc, zero, ◌+◌, ◌-◌, ◌*◌, ◌/◌, ◌≤◌, List, [], ◌∷◌, ◌++◌, replicate, refl, arith, ap, ◌∙◌}
use Rattle.std.specs.Prelude.{ℤ, pos, negsuc, ◌+ℤ◌, ◌-ℤ◌}
use Rattle.std.specs.Int.RustNames.{unsigned_abs}
use Rattle.std.proofs.lemmas.Int.{ints}
use Rattle.std.proofs.lemmas.Bool.Decides.{nat_tests}
use Rattle.fading_offset.specs.declared.fading.TheConstants.{GREATEST_MOST}
use Rattle.fading_offset.specs.Parts.{decayed, kept}
use Rattle.fading_offset.specs.Fading.{FadingEvent, Corrected, Faded, offset_by}

abs-neg : (k : ℕ) → unsigned_abs (pos 0 -ℤ pos k) ≡ k
abs-neg k = let e : (n : ℕ) → pos 0 -ℤ pos (suc n) ≡ negsuc n = λ n. omega (arith, ints) in
    elim k as (λ k. unsigned_abs (pos 0 -ℤ pos k) ≡ k) [ zero ↦ refl | suc n ↦ ap unsigned_abs (e n) ]

-- three quarters are left
pub abs-decayed : (z : ℤ) → unsigned_abs (decayed z) ≡ 3 * unsigned_abs z / 4
abs-decayed (pos n) = refl
abs-decayed (negsuc n) = abs-neg (3 * suc n / 4)

pub kept_within : (most : ℕ) (z : ℤ) → unsigned_abs (kept most z) ≤ most
kept_within most z = grind (arith, nat_tests)

kept_same : (most : ℕ) (z : ℤ) → unsigned_abs z ≤ most → kept most z ≡ z
kept_same most z h = grind (arith, nat_tests)

pub offset_within : (most : ℕ) (log : List FadingEvent) → unsigned_abs (offset_by most log) ≤ most
offset_within most [] = omega arith
offset_within most (Corrected was is ∷ log) = kept_within most (offset_by most log +ℤ was -ℤ is)
offset_within most (Faded ∷ log) = omega (arith, abs-decayed (offset_by most log), offset_within most log)

back_again : (o v : ℤ) → o +ℤ v -ℤ v ≡ o
back_again o v = omega (arith, ints)

pub same_offset : (most : ℕ) (log : List FadingEvent) (v : ℤ) → offset_by most (Corrected v v ∷ log) ≡ offset_by most log
same_offset most log v = ap (kept most) (back_again (offset_by most log) v) ∙ kept_same most (offset_by most log) (offset_within most log)

-- what so many steps leave of a number
shrunk : ℕ → ℕ → ℕ
shrunk zero n = n
shrunk (suc k) n = 3 * shrunk k n / 4

quarters : (a b : ℕ) → a ≤ b → 3 * a / 4 ≤ 3 * b / 4
quarters a b h = omega arith

fades_by : (most : ℕ) (log : List FadingEvent) (k : ℕ) → most ≤ GREATEST_MOST → unsigned_abs (offset_by most (replicate k Faded ++ log)) ≤ shrunk k GREATEST_MOST
unfolding shrunk
fades_by most log zero few = omega (arith, offset_within most log)
fades_by most log (suc k) few =
    let before = offset_by most (replicate k Faded ++ log) in
    omega (arith, abs-decayed before, quarters (unsigned_abs before) (shrunk k GREATEST_MOST) (fades_by most log k few))

at_56 : shrunk 56 GREATEST_MOST ≡ 0
unfolding shrunk
at_56 = refl

zero_stays : (n k : ℕ) → shrunk k n ≡ 0 → shrunk (suc k) n ≡ 0
unfolding shrunk
zero_stays n k e = omega (arith, e)

from_56 : (j : ℕ) → shrunk (j + 56) GREATEST_MOST ≡ 0
from_56 zero = at_56
from_56 (suc j) = let e : suc j + 56 ≡ suc (j + 56) = omega arith in rw e (zero_stays GREATEST_MOST (j + 56) (from_56 j))

none_left : (k : ℕ) → 56 ≤ k → shrunk k GREATEST_MOST ≡ 0
none_left k h = let e : k ≡ (k - 56) + 56 = omega arith in rw e (from_56 (k - 56))

is_zero : (z : ℤ) → unsigned_abs z ≤ 0 → z ≡ pos 0
is_zero (pos n) h = ap pos (omega arith)
is_zero (negsuc n) h = absurd (omega arith)

pub fades : (most : ℕ) (log : List FadingEvent) (k : ℕ) → most ≤ GREATEST_MOST → 56 ≤ k → offset_by most (replicate k Faded ++ log) ≡ pos 0
fades most log k few h =
    let none = none_left k h in
    is_zero (offset_by most (replicate k Faded ++ log)) (omega (arith, fades_by most log k few, none))
