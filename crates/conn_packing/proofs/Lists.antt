-- Facts of all items of a list, and items by their place.
use Rattle.std.proofs.Common.{◌≡◌, ℕ, zero, suc, ◌<◌, List, [], ◌∷◌, ◌++◌, length, take, drop, reverse, get_or, Some, refl, sym, subst, arith}
use Rattle.std.specs.Prelude.{slice_get}
use Rattle.std.specs.List.{AllByRecursion}
use Rattle.std.proofs.lemmas.Grind.{reverse_onto}

module _ {A : Type 0} (P : A → Type 0) where
  pub all-append : (xs ys : List A) → AllByRecursion P xs → AllByRecursion P ys → AllByRecursion P (xs ++ ys)
  all-append [] ys h k = k
  all-append (x ∷ xs) ys h k = (h.0, all-append xs ys h.1 k)

  pub all-take : (n : ℕ) (xs : List A) → AllByRecursion P xs → AllByRecursion P (take n xs)
  all-take zero xs h = tt
  all-take (suc n) [] h = tt
  all-take (suc n) (x ∷ xs) h = (h.0, all-take n xs h.1)

  pub all-drop : (n : ℕ) (xs : List A) → AllByRecursion P xs → AllByRecursion P (drop n xs)
  all-drop zero xs h = h
  all-drop (suc n) [] h = tt
  all-drop (suc n) (x ∷ xs) h = all-drop n xs h.1

  pub all-at : (xs : List A) (k : ℕ) (x : A) → AllByRecursion P xs → slice_get xs k ≡ Some x → P x
  all-at [] k x h e = cc
  all-at (y ∷ xs) zero x h e = subst-at y x (same y x e) h.0
    where
      same : (y x : A) → Some y ≡ Some x → y ≡ x
      same y x e = cc

      subst-at : (y x : A) → y ≡ x → P y → P x
      subst-at y x e p = subst P e p
  all-at (y ∷ xs) (suc k) x h e = all-at xs k x h.1 e

pub all-map : {A : Type 0} (P Q : A → Type 0) → ((x : A) → P x → Q x) → (xs : List A) → AllByRecursion P xs → AllByRecursion Q xs
all-map P Q f [] h = tt
all-map P Q f (x ∷ xs) h = (f x h.0, all-map P Q f xs h.1)

pub slice_get-at : {A : Type 0} (before : List A) (v : A) (after : List A) → slice_get (before ++ v ∷ after) (length before) ≡ Some v
slice_get-at [] v after = refl
slice_get-at (u ∷ before) v after = slice_get-at before v after

pub all-get : {A : Type 0} (P : A → Type 0) (xs : List A) (k : ℕ) (d : A) → k < length xs → AllByRecursion P xs → P (get_or xs k d)
all-get P [] k d lt h = absurd (omega arith)
all-get P (x ∷ xs) zero d lt h = h.0
all-get P (x ∷ xs) (suc k) d lt h = all-get P xs k d (omega arith) h.1

pub all-reverse : {A : Type 0} (P : A → Type 0) (xs : List A) → AllByRecursion P xs → AllByRecursion P (reverse xs)
all-reverse {A} P [] h = tt
all-reverse {A} P (x ∷ xs) h = subst (λ (l : List A). AllByRecursion P l) (sym (reverse_onto xs x [])) (all-append P (reverse xs) (x ∷ []) (all-reverse P xs h.1) (h.0, tt))

pub all-both : {A : Type 0} (P Q R : A → Type 0) → ((x : A) → P x → Q x → R x) → (xs : List A) → AllByRecursion P xs → AllByRecursion Q xs → AllByRecursion R xs
all-both P Q R f [] h k = tt
all-both P Q R f (x ∷ xs) h k = (f x h.0 k.0, all-both P Q R f xs h.1 k.1)
