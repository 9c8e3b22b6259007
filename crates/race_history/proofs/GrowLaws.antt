-- How a list of versions grows, by its newest one.
use Rattle.std.proofs.Common.{◌≡◌, ℕ, ◌<◌, ◌≤◌, ◌-◌, Bool, true, false, List, [], ◌∷◌, ◌++◌, length, get_or, refl, ap, subst, arith}
use Rattle.std.specs.Prelude.{ℤ, pos, ◌==◌, ◌||◌}
use Rattle.world_sim.specs.Rows.{differs}
use Rattle.race_history.specs.Growing.{grown, grown_later, is_new}

later_new : (v : ℤ) (xs : List ℤ) (now : ℤ) → differs (get_or (v ∷ xs) (length xs) (pos 0)) now ≡ true → grown_later v xs now ≡ xs ++ now ∷ []
later_new v [] now d = rw d refl
later_new v (u ∷ us) now d = ap (λ (xs : List ℤ). u ∷ xs) (later_new u us now d)

later_same : (v : ℤ) (xs : List ℤ) (now : ℤ) → differs (get_or (v ∷ xs) (length xs) (pos 0)) now ≡ false → grown_later v xs now ≡ xs
later_same v [] now d = rw d refl
later_same v (u ∷ us) now d = ap (λ (xs : List ℤ). u ∷ xs) (later_same u us now d)

pub grown_first : (xs : List ℤ) (now : ℤ) → length xs ≤ 0 → grown xs now ≡ xs ++ now ∷ []
grown_first [] now l = refl
grown_first (v ∷ xs) now l = absurd (omega (arith, l))

pub grown_new : (xs : List ℤ) (now : ℤ) → 0 < length xs → differs (get_or xs (length xs - 1) (pos 0)) now ≡ true → grown xs now ≡ xs ++ now ∷ []
grown_new [] now l d = absurd (omega (arith, l))
grown_new (v ∷ xs) now l d =
    let j : length (v ∷ xs) - 1 ≡ length xs = omega arith in
    let P : ℕ → Type 0 = λ k. differs (get_or (v ∷ xs) k (pos 0)) now ≡ true in
    ap (λ (ys : List ℤ). v ∷ ys) (later_new v xs now (subst P j d))

pub grown_same : (xs : List ℤ) (now : ℤ) → 0 < length xs → differs (get_or xs (length xs - 1) (pos 0)) now ≡ false → grown xs now ≡ xs
grown_same [] now l d = absurd (omega (arith, l))
grown_same (v ∷ xs) now l d =
    let j : length (v ∷ xs) - 1 ≡ length xs = omega arith in
    let P : ℕ → Type 0 = λ k. differs (get_or (v ∷ xs) k (pos 0)) now ≡ false in
    ap (λ (ys : List ℤ). v ∷ ys) (later_same v xs now (subst P j d))

without : (b x c : Bool) → b ≡ false → (b || x) ≡ c → x ≡ c
without true x c e h = absurd (cc)
without false x c e h = h

none_empty : (v : ℤ) (xs : List ℤ) → (length (v ∷ xs) == 0) ≡ false
none_empty v xs = grind (arith)

differing : (v : ℤ) (xs : List ℤ) (now : ℤ) (c : Bool) → is_new (v ∷ xs) now ≡ c → differs (get_or (v ∷ xs) (length (v ∷ xs) - 1) (pos 0)) now ≡ c
differing v xs now c d = without (length (v ∷ xs) == 0) (differs (get_or (v ∷ xs) (length (v ∷ xs) - 1) (pos 0)) now) c (none_empty v xs) d

pub news : (xs : List ℤ) (now : ℤ) → is_new xs now ≡ true → grown xs now ≡ xs ++ now ∷ []
news [] now d = refl
news (v ∷ xs) now d = grown_new (v ∷ xs) now (omega arith) (differing v xs now true d)

pub stays : (xs : List ℤ) (now : ℤ) → is_new xs now ≡ false → grown xs now ≡ xs
stays [] now d = absurd (cc)
stays (v ∷ xs) now d = grown_same (v ∷ xs) now (omega arith) (differing v xs now false d)
