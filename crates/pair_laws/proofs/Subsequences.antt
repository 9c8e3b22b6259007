-- Lists of which some items are left out.
use Rattle.std.proofs.Common.{◌≡◌, ℕ, zero, suc, ◌<◌, ◌≤◌, List, [], ◌∷◌, ◌++◌, take, drop, Some, refl, sym, ◌∙◌, ap, subst, arith, inl, inr, append_assoc}
use Rattle.std.specs.Prelude.{slice_get}
use Rattle.std.proofs.lemmas.List.{append-nil}
use Rattle.tn_types.specs.Subsequence.{IsSubsequenceOf}

module _ {A : Type 0} where
  sub-nil : (ys : List A) → IsSubsequenceOf [] ys
  sub-nil [] = refl
  sub-nil (y ∷ ys) = inl (sub-nil ys)

  pub sub-same : (xs : List A) → IsSubsequenceOf xs xs
  sub-same [] = refl
  sub-same (x ∷ xs) = inr (xs, refl, sub-same xs)

  pub sub-drop : (n : ℕ) (xs : List A) → IsSubsequenceOf (drop n xs) xs
  sub-drop zero xs = sub-same xs
  sub-drop (suc n) [] = refl
  sub-drop (suc n) (x ∷ xs) = inl (sub-drop n xs)

  sub-none : (xs ys : List A) → ys ≡ [] → IsSubsequenceOf xs ys → xs ≡ []
  sub-none xs ys e h = subst (λ (l : List A). IsSubsequenceOf xs l) e h

  pub sub-trans : (xs ys zs : List A) → IsSubsequenceOf xs ys → IsSubsequenceOf ys zs → IsSubsequenceOf xs zs
  sub-trans xs ys [] h k = sub-none xs ys k h
  sub-trans xs ys (z ∷ zs) h k = elim k [
    | inl out ↦ inl (sub-trans xs ys zs h out)
    | inr kept ↦ step kept.0 (λ (us : List A) g. sub-trans us kept.0 zs g kept.2) (subst (λ (l : List A). IsSubsequenceOf xs l) kept.1 h)
  ]
    where
      step : (rest : List A) → ((us : List A) → IsSubsequenceOf us rest → IsSubsequenceOf us zs) → IsSubsequenceOf xs (z ∷ rest) → IsSubsequenceOf xs (z ∷ zs)
      step rest onward h = elim h [
        | inl out ↦ inl (onward xs out)
        | inr kept ↦ inr (kept.0, kept.1, onward kept.0 kept.2)
      ]

  pub sub-append : (xs ys us vs : List A) → IsSubsequenceOf xs ys → IsSubsequenceOf us vs → IsSubsequenceOf (xs ++ us) (ys ++ vs)
  sub-append xs [] us vs h k = subst (λ (l : List A). IsSubsequenceOf (l ++ us) vs) (sym h) k
  sub-append xs (y ∷ ys) us vs h k = elim h [
    | inl out ↦ inl (sub-append xs ys us vs out k)
    | inr kept ↦ inr (kept.0 ++ us, ap (λ (l : List A). l ++ us) kept.1, sub-append kept.0 ys us vs kept.2 k)
  ]

  pub sub-front : (xs ys : List A) → IsSubsequenceOf xs (xs ++ ys)
  sub-front xs ys = subst (λ (l : List A). IsSubsequenceOf l (xs ++ ys)) (append-nil xs) (sub-append xs xs [] ys (sub-same xs) (sub-nil ys))

  -- the lists of a list, one behind the other
  abbrev pub joined : List (List A) → List A
  joined [] = []
  joined (x ∷ xs) = x ++ joined xs

  pub joined-append : (xs ys : List (List A)) → joined (xs ++ ys) ≡ joined xs ++ joined ys
  joined-append [] ys = refl
  joined-append (x ∷ xs) ys = ap (λ (l : List A). x ++ l) (joined-append xs ys) ∙ sym (append_assoc x (joined xs) (joined ys))

  pub joined-push : (xs : List (List A)) (x : List A) → joined (xs ++ x ∷ []) ≡ joined xs ++ x
  joined-push xs x = joined-append xs (x ∷ []) ∙ ap (λ (l : List A). joined xs ++ l) (append-nil x)

  -- fewer of the lists
  pub sub-take : (m n : ℕ) (xs : List (List A)) → m ≤ n → IsSubsequenceOf (joined (take m xs)) (joined (take n xs))
  sub-take zero n xs l = sub-nil (joined (take n xs))
  sub-take (suc m) zero xs l = absurd (omega arith)
  sub-take (suc m) (suc n) [] l = refl
  sub-take (suc m) (suc n) (x ∷ xs) l = sub-append x x (joined (take m xs)) (joined (take n xs)) (sub-same x) (sub-take m n xs (omega arith))

  pub sub-all : (n : ℕ) (xs : List (List A)) → IsSubsequenceOf (joined (take n xs)) (joined xs)
  sub-all zero xs = sub-nil (joined xs)
  sub-all (suc n) [] = refl
  sub-all (suc n) (x ∷ xs) = sub-append x x (joined (take n xs)) (joined xs) (sub-same x) (sub-all n xs)

  pub sub-push : (n : ℕ) (xs : List (List A)) (x : List A) → IsSubsequenceOf (joined (take n xs)) (joined (take n (xs ++ x ∷ [])))
  sub-push zero xs x = refl
  sub-push (suc n) [] x = sub-nil (joined (take (suc n) (x ∷ [])))
  sub-push (suc n) (y ∷ xs) x = sub-append y y (joined (take n xs)) (joined (take n (xs ++ x ∷ []))) (sub-same y) (sub-push n xs x)

  -- one list more
  pub joined-more : (k : ℕ) (xs : List (List A)) (x : List A) → slice_get xs k ≡ Some x → joined (take (suc k) xs) ≡ joined (take k xs) ++ x
  joined-more k [] x e = cc
  joined-more zero (y ∷ xs) x e = let same : y ≡ x = cc in append-nil y ∙ same
  joined-more (suc k) (y ∷ xs) x e = ap (λ (l : List A). y ++ l) (joined-more k xs x e) ∙ sym (append_assoc y (joined (take k xs)) x)

  pub get-push : (xs : List (List A)) (k : ℕ) (x y : List A) → slice_get xs k ≡ Some x → slice_get (xs ++ y ∷ []) k ≡ Some x
  get-push [] k x y e = cc
  get-push (z ∷ xs) zero x y e = e
  get-push (z ∷ xs) (suc k) x y e = get-push xs k x y e

-- 8 is left out
two_of_three : IsSubsequenceOf {A = ℕ} (7 ∷ 9 ∷ []) (7 ∷ 8 ∷ 9 ∷ [])
two_of_three = inr (9 ∷ [], refl, inl (inr ([], refl, refl)))

-- and no order is turned
never_turned : IsSubsequenceOf {A = ℕ} (9 ∷ 7 ∷ []) (7 ∷ 9 ∷ []) → ⊥
never_turned h = elim h [
  | inl out ↦ elim out [
    | inl none ↦ never (9 ∷ 7 ∷ []) 9 (7 ∷ []) refl none
    | inr kept ↦ (let e : 7 ∷ [] ≡ kept.0 = cc (kept.1) in never kept.0 7 [] (sym e) kept.2)
  ]
  | inr kept ↦ apart 9 7 (7 ∷ []) kept.0 kept.1 (omega arith)
]
  where
    never : (xs : List ℕ) (n : ℕ) (ns : List ℕ) → xs ≡ n ∷ ns → xs ≡ [] → ⊥
    never xs n ns e f = cc

    apart : (m n : ℕ) (ms ns : List ℕ) → m ∷ ms ≡ n ∷ ns → n < m → ⊥
    apart m n ms ns e l = let same : m ≡ n = cc in omega arith
