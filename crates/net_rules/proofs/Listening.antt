-- The calls of `receive` in a turn, one after another, until one of them ends it.
use Rattle.std.proofs.Common.{◌≡◌, ℕ, suc, ◌+◌, ◌<◌, List, Option, sym, subst, refl, arith, add-zero, inl, inr}
use Rattle.std.proofs.lemmas.Bool.{cases_lt}
use Rattle.tn_outside.specs.Links.{Ahead}
use Rattle.net_rules.specs.declared.limits.TheConstants.{MAX_RECEIVES}
use Rattle.net_rules.specs.Turns.{IsDue, IsTurn}
use Rattle.net_rules.specs.Places.{IsPlace, Listens}

module _ (ahead : Ahead) (clock : List ℕ) (t behind n : ℕ) where
  pub nothing_yet : Listens ahead clock t behind 0
  nothing_yet = record { most = omega arith; waits = λ k lt. absurd (omega (arith, lt)) }

  pub goes_on : Listens ahead clock t behind n → n < MAX_RECEIVES → (IsDue ahead clock t (behind + n) → ⊥) → Listens ahead clock t behind (n + 1)
  goes_on l lt not = record {
    most = omega arith;
    waits = λ k less. elim (cases_lt k n) [
      | inl before ↦ l.waits k before
      | inr here ↦ let e : n ≡ k = omega arith in subst (λ (i : ℕ). IsDue ahead clock t (behind + i) → ⊥) e not
    ];
  }

  pub turn_over : Listens ahead clock t behind n → n < MAX_RECEIVES → IsDue ahead clock t (behind + n) → IsTurn ahead clock t behind (suc n)
  turn_over l lt due = record {
    some = omega arith;
    most = omega arith;
    waits = λ k less. l.waits k (omega (arith, less));
    ends = inr (n, refl, due);
  }

  pub turn_full : Listens ahead clock t behind n → n ≡ MAX_RECEIVES → IsTurn ahead clock t behind n
  turn_full l full = record {
    some = omega (arith, full);
    most = omega (arith, full);
    waits = λ k less. l.waits k (omega (arith, less));
    ends = inl full;
  }

  pub place_first : (a : Option Ahead) (c : Option (List ℕ)) → IsPlace ahead clock a c behind → IsPlace ahead clock a c (behind + 0)
  place_first a c p = subst (λ (k : ℕ). IsPlace ahead clock a c k) (sym (add-zero behind)) p

  pub place_on : (a : Option Ahead) (c : Option (List ℕ)) → IsPlace ahead clock a c (suc (behind + n)) → IsPlace ahead clock a c (behind + (n + 1))
  place_on a c p = subst (λ (k : ℕ). IsPlace ahead clock a c k) (let e : suc (behind + n) ≡ behind + (n + 1) = omega arith in e) p

  pub place_over : (a : Option Ahead) (c : Option (List ℕ)) → IsPlace ahead clock a c (suc (behind + n)) → IsPlace ahead clock a c (behind + suc n)
  place_over a c p = subst (λ (k : ℕ). IsPlace ahead clock a c k) (let e : suc (behind + n) ≡ behind + suc n = omega arith in e) p
