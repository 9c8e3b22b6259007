-- Things that stand by rising number, so that a search by halves finds them; and which numbers of periods are up.
use Rattle.std.proofs.Common.{◌≡◌, ◌≢◌, ◌∙◌, ℕ, zero, suc, ◌+◌, ◌<◌, ◌≤◌, ◌==◌, ◌||◌, inl, inr, Bool, true, false, not, cond, List, [], ◌∷◌, ◌++◌, length, map, filter, get_or, Option, Some, None, Result, Ok, Err, IfOk, IfErr, refl, sym, ap, subst, arith}
use Rattle.std.specs.Prelude.{IfSome, find, slice_get}
use Rattle.std.specs.List.{AllPairs}
use Rattle.std.specs.List.Sorted.{IsSearchInRange, IsBinarySearchResult, IsNonDecreasingBy}
use Rattle.std.specs.Ordering.{nat_cmp, ordering_index}
use Rattle.std.specs.Result.{result_ok}
use Rattle.std.proofs.lemmas.Cmp.{ranked}
use Rattle.std.proofs.lemmas.List.Sorted.{IsNonDecreasingBy-from_default}
use Rattle.std.proofs.lemmas.Option.{slice_get-get_or}
use Rattle.std.proofs.lemmas.Bool.{eqb-true, eq-eqb, ne_eqb, cases_eq}
use Rattle.std.proofs.lemmas.Bool.Decides.{nat_tests}
use Rattle.ghost_model.specs.Words.{upto}
use Rattle.match_laws.specs.pair_core.History.{PairStep}
use Rattle.match_laws.specs.own_lists.pair_steps.Steps.{shows_in, is_hidden_in, up_in}
use Rattle.match_laws.proofs.Below.own_lists.ScanFacts.{RiseTo}
use Rattle.match_laws.proofs.Below.own_lists.ScanChanges.{has, has_itself}

within : {X : Type 0} (xs : List X) (i : ℕ) (x : X) → slice_get xs i ≡ Some x → i < length xs
within [] i x e = absurd (cc)
within (y ∷ xs) zero x e = omega arith
within (y ∷ xs) (suc i) x e = (let rest = within xs i x e in omega (arith, rest))

module _ {X : Type 0} (key : X → ℕ) where
  -- they stand by rising number
  abbrev Rise : List X → Type 0
  Rise xs = AllPairs (λ x y. key x < key y) xs

  -- the one of this number, if there is one
  abbrev one_of : List X → ℕ → Option X
  one_of xs n = find (λ x. key x == n) xs

  -- ---- numbers that rise

  none_before : (least most : ℕ) (xs : List X) (i : ℕ) (d : X) → RiseTo least most (map key xs) → i < length xs → least ≤ key (get_or xs i d)
  none_before least most [] i d r lt = absurd (omega (arith, lt))
  none_before least most (x ∷ xs) zero d r lt = r.0
  none_before least most (x ∷ xs) (suc i) d r lt = (let rest = none_before (key x + 1) most xs i d r.2 (omega (arith, lt)) in omega (arith, r.0, rest))

  pub in_turn : (least most : ℕ) (xs : List X) → RiseTo least most (map key xs) → Rise xs
  in_turn least most [] r i j d lt within = absurd (omega (arith, within))
  in_turn least most (x ∷ xs) r i zero d lt within = absurd (omega (arith, lt))
  in_turn least most (x ∷ xs) r zero (suc j) d lt within = (let rest = none_before (key x + 1) most xs j d r.2 (omega (arith, within)) in omega (arith, rest))
  in_turn least most (x ∷ xs) r (suc i) (suc j) d lt within = in_turn (key x + 1) most xs r.2 i j d (omega (arith, lt)) (omega (arith, within))

  -- ---- what a search finds

  module _ (xs : List X) (rising : Rise xs) (n : ℕ) (d : X) where
    comparisons_rise : IsNonDecreasingBy (λ x. ordering_index (nat_cmp (key x) n)) xs
    comparisons_rise = IsNonDecreasingBy-from_default (λ x. ordering_index (nat_cmp (key x) n)) xs d (λ i j le within.
        let keys_rise : key (get_or xs i d) ≤ key (get_or xs j d) = grind (arith, rising i j d, λ (same : i ≡ j). ap (λ k. key (get_or xs k d)) same) in
        grind (arith, nat_tests))

    place_of : (r : Result ℕ ℕ) → IsSearchInRange r (length xs) → IsBinarySearchResult (λ x. nat_cmp (key x) n) xs r
        → record { found : IfOk r (λ i. (i < length xs) × (key (get_or xs i d) ≡ n)); absent : IfErr r (λ _. (i : ℕ) → i < length xs → key (get_or xs i d) ≢ n) }
    place_of (Ok at) within equal = record { found = (within, ranked _ n _ (sym (equal d))); absent = tt }
    place_of (Err at) within parted = record {
      found = tt;
      absent = λ j lt same.
          let below : j < at → key (get_or xs j d) < n = λ h. ranked _ n _ (sym ((parted comparisons_rise).0 j d (omega arith) h)) in
          let above : at ≤ j → n < key (get_or xs j d) = λ h. ranked _ n _ (sym ((parted comparisons_rise).1 j d h lt)) in
          grind (arith, below, above);
    }

  none_in : (xs : List X) (n : ℕ) (d : X) → ((i : ℕ) → i < length xs → key (get_or xs i d) ≢ n) → one_of xs n ≡ None
  none_in [] n d h = refl
  none_in (x ∷ xs) n d h =
      let no : (key x == n) ≡ false = ne_eqb (key x) n (h 0 (omega arith)) in
      ap (λ b. cond b (Some x) (one_of xs n)) no ∙ none_in xs n d (λ i lt. h (suc i) (omega (arith, lt)))

  -- what is said of a place where the one of this number stands is said of the place that is found
  module _ (n : ℕ) where
    pub searched : (xs : List X) → Rise xs → (At : ℕ → Type 0) → ((i : ℕ) (x : X) → slice_get xs i ≡ Some x → key x ≡ n → At i)
        → (r : Result ℕ ℕ) → IsSearchInRange r (length xs) → IsBinarySearchResult (λ x. nat_cmp (key x) n) xs r
        → record { found : IfOk r At; absent : IfErr r (λ _. one_of xs n ≡ None) }
    searched [] rising At is (Ok at) within result = absurd (omega (arith, within))
    searched [] rising At is (Err at) within result = record { found = tt; absent = refl }
    searched (x ∷ xs) rising At is (Ok at) within result =
        let h = place_of (x ∷ xs) rising n x (Ok at) within result in
        record { found = is at (get_or (x ∷ xs) at x) (slice_get-get_or (x ∷ xs) at x h.found.0) h.found.1; absent = tt }
    searched (x ∷ xs) rising At is (Err at) within result =
        let h = place_of (x ∷ xs) rising n x (Err at) within result in
        record { found = tt; absent = none_in (x ∷ xs) n x h.absent }

  -- the one that stands at a place is the one of its number: those before it have lesser ones
  pub found_at : (xs : List X) → Rise xs → (i : ℕ) (d : X) → i < length xs → one_of xs (key (get_or xs i d)) ≡ Some (get_or xs i d)
  found_at [] rising i d lt = absurd (omega (arith, lt))
  found_at (x ∷ xs) rising zero d lt = ap (λ b. cond b (Some x) (one_of xs (key x))) (eq-eqb (key x) (key x) refl)
  found_at (x ∷ xs) rising (suc i) d lt =
      let later = rising 0 (suc i) d (omega arith) lt in
      let no : (key x == key (get_or xs i d)) ≡ false = ne_eqb (key x) (key (get_or xs i d)) (λ e. absurd (omega (arith, later, e))) in
      ap (λ b. cond b (Some x) (one_of xs (key (get_or xs i d)))) no ∙ found_at xs (λ a b e less within. rising (suc a) (suc b) e (omega (arith, less)) (omega (arith, within))) i d (omega (arith, lt))

  -- ---- places

  module _ (xs : List X) (rising : Rise xs) (n i : ℕ) (x : X) (there : slice_get xs i ≡ Some x) (number : key x ≡ n) (d : X) where
    inside : i < length xs
    inside = within xs i x there

    pub here : slice_get xs i ≡ Some (get_or xs i d)
    here = slice_get-get_or xs i d inside

    pub number_is : key (get_or xs i d) ≡ n
    number_is = let same : x ≡ get_or xs i d = (let both : Some x ≡ Some (get_or xs i d) = sym there ∙ here in cc) in sym (ap key same) ∙ number

    pub found_place : one_of xs n ≡ Some (get_or xs i d)
    found_place = ap (one_of xs) (sym number_is) ∙ found_at xs rising i d inside

    -- one that is found by its number is the one that stands here
    pub found_same : (y : X) → one_of xs n ≡ Some y → y ≡ get_or xs i d
    found_same y found = let both : Some y ≡ Some (get_or xs i d) = sym found ∙ found_place in cc

-- the same of the place alone
pub found_some : (r : Result ℕ ℕ) (o : Option ℕ) (P : ℕ → Type 0) → o ≡ result_ok r → IfOk r P → IfSome o P
found_some (Ok i) o P e h = subst (λ (x : Option ℕ). IfSome x P) (sym e) h
found_some (Err i) o P e h = subst (λ (x : Option ℕ). IfSome x P) (sym e) tt

pub absent_none : (r : Result ℕ ℕ) (o : Option ℕ) (Q : Type 0) → o ≡ result_ok r → IfErr r (λ _. Q) → o ≡ None → Q
absent_none (Ok i) o Q e h none = absurd (cc)
absent_none (Err i) o Q e h none = h

-- ---- what is up is among the numbers

has_front : (n : ℕ) (xs ys : List ℕ) → has n xs ≡ true → has n (xs ++ ys) ≡ true
has_front n [] ys h = absurd (cc)
has_front n (x ∷ xs) ys h = go (λ rest. has_front n xs ys rest) (x == n) h
  where
    go : (has n xs ≡ true → has n (xs ++ ys) ≡ true) → (b : Bool) → (b || has n xs) ≡ true → (b || has n (xs ++ ys)) ≡ true
    go more true h = refl
    go more false h = more h

has_back : (n : ℕ) (xs ys : List ℕ) → has n ys ≡ true → has n (xs ++ ys) ≡ true
has_back n [] ys h = h
has_back n (x ∷ xs) ys h = go (has_back n xs ys h) (x == n)
  where
    go : has n (xs ++ ys) ≡ true → (b : Bool) → (b || has n (xs ++ ys)) ≡ true
    go rest true = refl
    go rest false = rest

has_upto : (n m : ℕ) → n < m → has n (upto m) ≡ true
unfolding upto
has_upto n zero lt = absurd (omega (arith, lt))
has_upto n (suc m) lt = elim (cases_eq n m) [
  | inl same ↦ has_back n (upto m) (m ∷ []) (subst (λ j. has j (m ∷ []) ≡ true) (sym same) (has_itself m []))
  | inr apart ↦ has_front n (upto m) (m ∷ []) (has_upto n m (omega (arith, lt, apart)))
]

has_filter : (n : ℕ) (b : ℕ → Bool) (xs : List ℕ) → b n ≡ true → has n xs ≡ true → has n (filter b xs) ≡ true
has_filter n b [] good h = absurd (cc)
has_filter n b (x ∷ xs) good h = go (λ rest. has_filter n b xs good rest) (x == n) refl (b x) refl h
  where
    go : (has n xs ≡ true → has n (filter b xs) ≡ true) → (c : Bool) → (x == n) ≡ c → (d : Bool) → b x ≡ d → (c || has n xs) ≡ true → has n (cond d (x ∷ filter b xs) (filter b xs)) ≡ true
    go more true is true px h = ap (λ c. c || has n (filter b xs)) is
    go more true is false px h = absurd (let no : b n ≡ false = ap b (sym (eqb-true x n is)) ∙ px in cc)
    go more false is true px h = ap (λ c. c || has n (filter b xs)) is ∙ more h
    go more false is false px h = more h

pub has_up : (steps : List PairStep) (n : ℕ) → n < shows_in steps → is_hidden_in steps n ≡ false → has n (up_in steps) ≡ true
has_up steps n shown up =
    has_filter n (λ m. not (is_hidden_in steps m)) (upto (shows_in steps)) (ap not up) (has_upto n (shows_in steps) shown)
