-- Lists of numbers of periods, and what a show and a hide leave true of them.
use Rattle.std.proofs.Common.{◌≡◌, ◌⊎◌, inl, inr, ⊎_elim, ℕ, Bool, true, false, ◌&&◌, ◌||◌, ◌==◌, List, [], ◌∷◌, ◌++◌, length, filter, refl, sym, ap, ◌∙◌, subst, arith, cond, length-append}
use Rattle.std.specs.Prelude.{slice_index}
use Rattle.std.proofs.lemmas.Bool.{eq-eqb, eqb-true}
use Rattle.std.proofs.lemmas.List.{get_or_append_left}
use Rattle.std.proofs.lemmas.List.Folds.{list_any-append}
use Rattle.std.proofs.Math.Seq.{get_or-append_seam}
use Rattle.lane_periods.specs.Periods.{has, has_object, ArePeriods}

pub same-number : (n : ℕ) → (n == n) ≡ true
same-number n = eq-eqb n n refl

pub or-cases : (a b : Bool) → (a || b) ≡ true → (a ≡ true) ⊎ (b ≡ true)
or-cases true b e = inl refl
or-cases false b e = inr e

pub or-second : (a : Bool) → (a || true) ≡ true
or-second true = refl
or-second false = refl

pub and-both : (a b : Bool) → (a && b) ≡ true → (a ≡ true) × (b ≡ true)
and-both true b e = (refl, e)
and-both false b e = absurd (cc)

-- what holds of each of the numbers holds of one that is among them
pub has-one : {P : ℕ → Type 0} (n : ℕ) (ns : List ℕ) → ((m : ℕ) → has m ns ≡ true → P m) → has n ns ≡ true → P n
has-one n ns h e = h n e

pub has-more : (m n : ℕ) (ns : List ℕ) → has m (ns ++ n ∷ []) ≡ true → (has m ns ≡ true) ⊎ (m ≡ n)
has-more m n ns e =
    ⊎_elim (λ (h : has m ns ≡ true). inl h)
    (λ (h : ((n == m) || false) ≡ true). ⊎_elim (λ (x : (n == m) ≡ true). inr (sym (eqb-true n m x))) (λ (x : false ≡ true). absurd (cc)) (or-cases (n == m) false h))
    (or-cases (has m ns) ((n == m) || false) (sym (list_any-append (λ k. k == m) ns (n ∷ [])) ∙ e))

pub has-fewer : (f : ℕ → Bool) (m : ℕ) (ns : List ℕ) → has m (filter f ns) ≡ true → has m ns ≡ true
has-fewer f m [] e = e
has-fewer f m (x ∷ xs) e = by (λ h. has-fewer f m xs h) (f x) e
  where
    by : (has m (filter f xs) ≡ true → has m xs ≡ true) → (b : Bool) → has m (cond b (x ∷ filter f xs) (filter f xs)) ≡ true → ((x == m) || has m xs) ≡ true
    by fewer true h =
        ⊎_elim (λ (y : (x == m) ≡ true). ap (λ b. b || has m xs) y) (λ (y : has m (filter f xs) ≡ true). ap (λ b. (x == m) || b) (fewer y) ∙ or-second (x == m))
        (or-cases (x == m) (has m (filter f xs)) h)
    by fewer false h = ap (λ b. (x == m) || b) (fewer h) ∙ or-second (x == m)

-- one of the numbers has the object
pub has-its-object : (objects : List ℕ) (m : ℕ) (ns : List ℕ) → has m ns ≡ true → has_object objects ns (slice_index objects m) ≡ true
has-its-object objects m [] e = absurd (cc)
has-its-object objects m (x ∷ xs) e =
    ⊎_elim
    (λ (y : (x == m) ≡ true). ap (λ b. b || has_object objects xs (slice_index objects m)) (ap (λ k. slice_index objects k == slice_index objects m) (eqb-true x m y) ∙ same-number (slice_index objects m)))
    (λ (y : has m xs ≡ true). ap (λ b. (slice_index objects x == slice_index objects m) || b) (has-its-object objects m xs y) ∙ or-second (slice_index objects x == slice_index objects m))
    (or-cases (x == m) (has m xs) e)

-- ---- a show

module _ (objects kinds up : List ℕ) (object kind : ℕ) (are : ArePeriods objects kinds up) (free : has_object objects up object ≡ false) where
  before : (n : ℕ) → has n up ≡ true → slice_index (objects ++ object ∷ []) n ≡ slice_index objects n
  before n h = get_or_append_left objects (object ∷ []) 0 n (are.shown n h)

  last : slice_index (objects ++ object ∷ []) (length objects) ≡ object
  last = get_or-append_seam objects object [] 0

  not-there : (n : ℕ) → has n up ≡ true → slice_index objects n ≡ object → ⊥
  not-there n h e = let t : has_object objects up object ≡ true = subst (λ o. has_object objects up o ≡ true) e (has-its-object objects n up h) in cc

  pub shown-periods : ArePeriods (objects ++ object ∷ []) (kinds ++ kind ∷ []) (up ++ length objects ∷ [])
  shown-periods = record {
    long = omega (arith, are.long, length-append objects (object ∷ []), length-append kinds (kind ∷ []));
    shown = λ n h.
        ⊎_elim (λ (y : has n up ≡ true). omega (arith, are.shown n y, length-append objects (object ∷ []))) (λ (y : n ≡ length objects). omega (arith, y, length-append objects (object ∷ [])))
        (has-more n (length objects) up h);
    apart = λ m n hm hn same.
        ⊎_elim
        (λ (x : has m up ≡ true).
        ⊎_elim (λ (y : has n up ≡ true). are.apart m n x y (sym (before m x) ∙ same ∙ before n y))
        (λ (y : n ≡ length objects). absurd (not-there m x (sym (before m x) ∙ same ∙ ap (slice_index (objects ++ object ∷ [])) y ∙ last)))
        (has-more n (length objects) up hn))
        (λ (x : m ≡ length objects).
        ⊎_elim (λ (y : has n up ≡ true). absurd (not-there n y (sym (before n y) ∙ sym same ∙ ap (slice_index (objects ++ object ∷ [])) x ∙ last)))
        (λ (y : n ≡ length objects). x ∙ sym y)
        (has-more n (length objects) up hn))
        (has-more m (length objects) up hm);
  }

-- ---- a hide

pub hidden-periods : (objects kinds up : List ℕ) (f : ℕ → Bool) → ArePeriods objects kinds up → ArePeriods objects kinds (filter f up)
hidden-periods objects kinds up f are = record {
  long = are.long;
  shown = λ n h. are.shown n (has-fewer f n up h);
  apart = λ m n hm hn same. are.apart m n (has-fewer f m up hm) (has-fewer f n up hn) same;
}
