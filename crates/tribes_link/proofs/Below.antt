-- A refusal's number is none from 0 on.
use Rattle.std.proofs.Common.{◌≡◌, ℕ, subst}
use Rattle.std.specs.Prelude.{ℤ, pos, true}
use mathlib.Core.Bool.{Bool, not}
use lib.Dec.{T}
use Rattle.tribes_ends.specs.Codes.{is_refusal}

pub is_below : (c : ℤ) (n : ℕ) → is_refusal c ≡ true → c ≡ pos n → ⊥
is_below c n is e = subst (λ (b : Bool). T (not b)) (subst (λ (x : ℤ). is_refusal x ≡ true) e is) tt
