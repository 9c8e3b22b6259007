-- Lists of numbers that a partial function makes of other numbers.
use Rattle.std.proofs.Common.{◌≡◌, ◌∙◌, ℕ, zero, suc, ◌<◌, Bool, true, false, cond, List, [], ◌∷◌, ◌++◌, Option, Some, None, refl, sym, ap, subst, arith, ◌||◌}
use Rattle.std.specs.Prelude.{filter, nat_eq}
use Rattle.std.specs.List.{AllByRecursion, filter_map, cons_option}
use Rattle.std.proofs.lemmas.Bool.{eqb-true}
use Rattle.std.proofs.lemmas.Bool.Decides.{nat_tests}
use Rattle.ghost_model.specs.Words.{upto}
use Rattle.own_lists.proofs.ScanFacts.{IsNone, AreDifferent, all_on, different_further}
use Rattle.own_lists.proofs.ScanChanges.{has, has_itself, has_behind}

pub some_is : (n m : ℕ) → ◌≡◌ {A = Option ℕ} (Some n) (Some m) → n ≡ m
some_is n m e = cc (e)

-- what each is made of has P
module _ {Y : Type 0} (f : ℕ → Option Y) (Q : ℕ → Type 0) (P : Y → Type 0) (each : (x : ℕ) (y : Y) → Q x → f x ≡ Some y → P y) where
  pub all_mapped : (xs : List ℕ) → AllByRecursion Q xs → AllByRecursion P (filter_map f xs)
  all_mapped [] a = tt
  all_mapped (x ∷ xs) a = by (f x) refl (all_mapped xs a.1)
    where
      by : (o : Option Y) → f x ≡ o → AllByRecursion P (filter_map f xs) → AllByRecursion P (cons_option o (filter_map f xs))
      by None e rest = rest
      by (Some y) e rest = (each x y a.0 e, rest)

module _ (f : ℕ → Option ℕ) where
  -- what is among them was made of one of these
  pub has_from : (n : ℕ) (xs : List ℕ) → has n (filter_map f xs) ≡ true → (x : ℕ) × (f x ≡ Some n)
  has_from n [] h = absurd (cc)
  has_from n (x ∷ xs) h = by (λ g. has_from n xs g) (f x) refl h
    where
      at : (has n (filter_map f xs) ≡ true → (y : ℕ) × (f y ≡ Some n)) → (m : ℕ) → f x ≡ Some m → (b : Bool) → nat_eq m n ≡ b
          → (b || has n (filter_map f xs)) ≡ true → (y : ℕ) × (f y ≡ Some n)
      at rest m e true t g = (x, e ∙ ap (λ (k : ℕ). Some k) (eqb-true m n t))
      at rest m e false t g = rest g

      by : (has n (filter_map f xs) ≡ true → (y : ℕ) × (f y ≡ Some n)) → (o : Option ℕ) → f x ≡ o
          → has n (cons_option o (filter_map f xs)) ≡ true → (y : ℕ) × (f y ≡ Some n)
      by rest None e g = rest g
      by rest (Some m) e g = at rest m e (nat_eq m n) refl g

  -- and what is made of one of these is among them
  pub has_to : (x n : ℕ) (xs : List ℕ) → f x ≡ Some n → has x xs ≡ true → has n (filter_map f xs) ≡ true
  has_to x n [] e h = absurd (cc)
  has_to x n (y ∷ xs) e h = by (λ g. has_to x n xs e g) (nat_eq y x) refl h
    where
      behind : has n (filter_map f xs) ≡ true → (o : Option ℕ) → has n (cons_option o (filter_map f xs)) ≡ true
      behind rest None = rest
      behind rest (Some m) = has_behind m n (filter_map f xs) rest

      by : (has x xs ≡ true → has n (filter_map f xs) ≡ true) → (b : Bool) → nat_eq y x ≡ b → (b || has x xs) ≡ true
          → has n (filter_map f (y ∷ xs)) ≡ true
      by rest true t g =
          let made : f y ≡ Some n = ap f (eqb-true y x t) ∙ e in
          ap (λ (o : Option ℕ). has n (cons_option o (filter_map f xs))) made ∙ has_itself n (filter_map f xs)
      by rest false t g = behind (rest g) (f y)

  -- different ones are made of different ones
  module _ (apart : (x y n : ℕ) → f x ≡ Some n → f y ≡ Some n → x ≡ y) where
    none_mapped : (n x : ℕ) → f x ≡ Some n → (xs : List ℕ) → IsNone x xs → IsNone n (filter_map f xs)
    none_mapped n x e [] a = tt
    none_mapped n x e (y ∷ xs) a = by (f y) refl (none_mapped n x e xs a.1)
      where
        by : (o : Option ℕ) → f y ≡ o → IsNone n (filter_map f xs) → IsNone n (cons_option o (filter_map f xs))
        by None t rest = rest
        by (Some m) t rest = (λ same. a.0 (apart y x n (t ∙ ap (λ (k : ℕ). Some k) same) e), rest)

    pub different_mapped : (xs : List ℕ) → AreDifferent xs → AreDifferent (filter_map f xs)
    different_mapped [] d = tt
    different_mapped (x ∷ xs) d = by (f x) refl (different_mapped xs d.1)
      where
        by : (o : Option ℕ) → f x ≡ o → AreDifferent (filter_map f xs) → AreDifferent (cons_option o (filter_map f xs))
        by None e rest = rest
        by (Some n) e rest = (none_mapped n x e xs d.0, rest)

-- ---- the numbers below one

pub below_upto : (n : ℕ) → AllByRecursion (λ m. m < n) (upto n)
unfolding upto
below_upto zero = tt
below_upto (suc n) = all_on (λ m. m < suc n) (upto n) (n ∷ []) (weaker (upto n) (below_upto n)) (omega arith, tt)
  where
    weaker : (xs : List ℕ) → AllByRecursion (λ m. m < n) xs → AllByRecursion (λ m. m < suc n) xs
    weaker [] a = tt
    weaker (x ∷ xs) a = (let lt = a.0 in omega (arith, lt), weaker xs a.1)

none_below : (n : ℕ) (xs : List ℕ) → AllByRecursion (λ m. m < n) xs → IsNone n xs
none_below n [] a = tt
none_below n (x ∷ xs) a = (λ e. let lt = a.0 in absurd (omega (arith, e, lt)), none_below n xs a.1)

pub different_upto : (n : ℕ) → AreDifferent (upto n)
unfolding upto
different_upto zero = tt
different_upto (suc n) =
    different_further (upto n) (n ∷ []) (different_upto n) (tt, tt) (none_below n (upto n) (below_upto n), tt)

pub has_on : (n : ℕ) (xs ys : List ℕ) → has n xs ≡ true → has n (xs ++ ys) ≡ true
has_on n [] ys h = absurd (cc)
has_on n (x ∷ xs) ys h = by (λ g. has_on n xs ys g) (nat_eq x n) h
  where
    by : (has n xs ≡ true → has n (xs ++ ys) ≡ true) → (b : Bool) → (b || has n xs) ≡ true → (b || has n (xs ++ ys)) ≡ true
    by rest true g = refl
    by rest false g = rest g

has_last : (n : ℕ) (xs : List ℕ) → has n (xs ++ n ∷ []) ≡ true
has_last n [] = has_itself n []
has_last n (x ∷ xs) = has_behind x n (xs ++ n ∷ []) (has_last n xs)

pub has_upto : (m n : ℕ) → m < n → has m (upto n) ≡ true
unfolding upto
has_upto m zero lt = absurd (omega (arith, lt))
has_upto m (suc n) lt = by (λ less. has_upto m n less) (nat_eq m n) refl
  where
    by : (m < n → has m (upto n) ≡ true) → (b : Bool) → nat_eq m n ≡ b → has m (upto n ++ n ∷ []) ≡ true
    by rest true e = subst (λ k. has k (upto n ++ n ∷ []) ≡ true) (sym (eqb-true m n e)) (has_last n (upto n))
    by rest false e = has_on m (upto n) (n ∷ []) (rest (let less : m < n = grind (arith, nat_tests) in less))

-- those of different ones that pass a test are different
none_filter : (b : ℕ → Bool) (n : ℕ) (xs : List ℕ) → IsNone n xs → IsNone n (filter b xs)
none_filter b n [] a = tt
none_filter b n (x ∷ xs) a = by (b x) (none_filter b n xs a.1)
  where
    by : (c : Bool) → IsNone n (filter b xs) → IsNone n (cond c (x ∷ filter b xs) (filter b xs))
    by true rest = (a.0, rest)
    by false rest = rest

pub different_filter : (b : ℕ → Bool) (xs : List ℕ) → AreDifferent xs → AreDifferent (filter b xs)
different_filter b [] d = tt
different_filter b (x ∷ xs) d = by (b x) (different_filter b xs d.1)
  where
    by : (c : Bool) → AreDifferent (filter b xs) → AreDifferent (cond c (x ∷ filter b xs) (filter b xs))
    by true rest = (none_filter b x xs d.0, rest)
    by false rest = rest
