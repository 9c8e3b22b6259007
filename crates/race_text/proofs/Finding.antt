-- Looking for the first of a list that passes a test, one after the other.
use Rattle.std.proofs.Common.{◌≡◌, ℕ, zero, suc, ◌+◌, ◌<◌, Bool, true, false, cond, List, [], ◌∷◌, length, get_or, take, Some, None, ap, ◌∙◌, arith}
use Rattle.std.specs.Prelude.{find}

-- the next one passes, and none before it did
pub find-here : {X : Type 0} (p : X → Bool) (xs : List X) (i : ℕ) (d : X) → i < length xs → find p (take i xs) ≡ None
    → p (get_or xs i d) ≡ true → find p xs ≡ Some (get_or xs i d)
find-here p [] i d lt none is = absurd (omega arith)
find-here p (x ∷ xs) zero d lt none is = ap (λ b. cond b (Some x) (find p xs)) is
find-here p (x ∷ xs) (suc i) d lt none is = by (p x) none (λ e. find-here p xs i d (omega arith) e is)
  where
    by : (b : Bool) → cond b (Some x) (find p (take i xs)) ≡ None → (find p (take i xs) ≡ None → find p xs ≡ Some (get_or xs i d))
        → cond b (Some x) (find p xs) ≡ Some (get_or xs i d)
    by true e rest = absurd (cc)
    by false e rest = rest e

-- it doesn't pass either
none-yet : {X : Type 0} (p : X → Bool) (xs : List X) (i : ℕ) (d : X) → i < length xs → find p (take i xs) ≡ None
    → p (get_or xs i d) ≡ false → find p (take (suc i) xs) ≡ None
none-yet p [] i d lt none isnt = absurd (omega arith)
none-yet p (x ∷ xs) zero d lt none isnt = ap (λ b. cond b (Some x) None) isnt
none-yet p (x ∷ xs) (suc i) d lt none isnt = by (p x) none (λ e. none-yet p xs i d (omega arith) e isnt)
  where
    by : (b : Bool) → cond b (Some x) (find p (take i xs)) ≡ None → (find p (take i xs) ≡ None → find p (take (suc i) xs) ≡ None)
        → cond b (Some x) (find p (take (suc i) xs)) ≡ None
    by true e rest = absurd (cc)
    by false e rest = rest e

pub find-not : {X : Type 0} (p : X → Bool) (xs : List X) (i : ℕ) (d : X) → i < length xs → find p (take i xs) ≡ None
    → p (get_or xs i d) ≡ false → find p (take (i + 1) xs) ≡ None
find-not p xs i d lt none isnt =
    ap (λ k. find p (take k xs)) (let e : i + 1 ≡ suc i = omega arith in e) ∙ none-yet p xs i d lt none isnt
