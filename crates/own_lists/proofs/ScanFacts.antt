-- What holds of the periods of a client whatever its scans saw, as long as each scan saw objects of a match by rising number:
-- the shown periods rise by number, have different objects, and are as many as there are objects at the most.
use Rattle.std.proofs.Common.{◌≡◌, ◌≢◌, ℕ, suc, ◌+◌, ◌*◌, ◌<◌, ◌≤◌, Bool, true, false, not, cond, ◌||◌, nat_eq, List, [], ◌∷◌, ◌++◌, length, map, filter, Option, Some, None, refl, sym, ap, ◌∙◌, subst, arith, add-one, add-zero, append_assoc, append-nil, length-append}
use Rattle.std.specs.Prelude.{is_some, option_map}
use Rattle.std.specs.List.{All, AllByRecursion, filter_map, enumerate_from, cons_option, list_any, IsDistinct}
use Rattle.std.specs.List.Sorted.{IsStrictlyIncreasing}
use Rattle.std.proofs.lemmas.Bool.{ne_eqb, eqb-true}
use Rattle.std.proofs.lemmas.List.{length-map}
use Rattle.std.proofs.lemmas.List.Elements.{recursion_from_All}
use Rattle.std.proofs.lemmas.Map.Steps.{length-le_from_distinct_below}
use Rattle.tn_types.specs.declared.limits.TheConstants.{MAX_OBJECTS, MAX_DISTANCE_LEVEL}
use Rattle.client_scope.specs.world_scope.declared.viewer.Seen.{Seen}
use Rattle.client_scope.specs.declared.period.ShownPeriod.{ShownPeriod}
use Rattle.client_scope.specs.Scans.{level_in, last, is_new, new_ones, periods, comes_again, at_level, lasting, shown}
use Rattle.client_scope.specs.Changes.{shows}
use Rattle.client_scope.specs.Marks.{with_level, goes_on, begun}
use Rattle.client_scope.proofs.Apart.{rising_apart}
use Rattle.client_scope.proofs.Periods.{shown_by_step}

-- ---- what is asked of scans

-- a scan of a match sees objects of the match by rising number, each at a level of distance
pub record IsSight (seen : List Seen) : Type 0 where
  pub rising : IsStrictlyIncreasing (map (λ s. s.object) seen)
  pub below : All (λ s. s.object < MAX_OBJECTS) seen
  pub levels : All (λ s. s.level ≤ MAX_DISTANCE_LEVEL) seen

abbrev pub AreSights : List (List Seen) → Type 0
AreSights scans = AllByRecursion IsSight scans

-- ---- what is said of periods

-- numbers that rise, from this one on and below that one
abbrev pub RiseTo : ℕ → ℕ → List ℕ → Type 0
RiseTo least most [] = Unit {0}
RiseTo least most (n ∷ ns) = (least ≤ n) × (n < most) × RiseTo (n + 1) most ns

abbrev pub IsNone : ℕ → List ℕ → Type 0
IsNone n ns = AllByRecursion (λ m. m ≢ n) ns

abbrev pub AreDifferent : List ℕ → Type 0
AreDifferent [] = Unit {0}
AreDifferent (n ∷ ns) = IsNone n ns × AreDifferent ns

abbrev pub numbers : List ShownPeriod → List ℕ
numbers ps = map (λ p. p.n) ps

abbrev pub objects : List ShownPeriod → List ℕ
objects ps = map (λ p. p.object) ps

abbrev pub sights : List Seen → List ℕ
sights seen = map (λ s. s.object) seen

-- periods of which all that were begun are below this number
pub record AreShown (count : ℕ) (ps : List ShownPeriod) : Type 0 where
  pub rising : RiseTo 0 count (numbers ps)
  pub apart : AreDifferent (objects ps)
  pub below : AllByRecursion (λ o. o < MAX_OBJECTS) (objects ps)

-- sights with which periods may begin, beside these periods
pub record AreNew (ps : List ShownPeriod) (ss : List Seen) : Type 0 where
  pub rising : RiseTo 0 MAX_OBJECTS (sights ss)
  pub others : AllByRecursion (λ s. IsNone s.object (objects ps)) ss
  pub levels : AllByRecursion (λ s. s.level ≤ MAX_DISTANCE_LEVEL) ss

-- ---- numbers that rise

pub rise_sooner : (least from most : ℕ) (ns : List ℕ) → least ≤ from → RiseTo from most ns → RiseTo least most ns
rise_sooner least from most [] h r = tt
rise_sooner least from most (n ∷ ns) h r = (omega (arith, r.0), r.1, r.2)

pub rise_further : (least most more : ℕ) (ns : List ℕ) → most ≤ more → RiseTo least most ns → RiseTo least more ns
rise_further least most more [] h r = tt
rise_further least most more (n ∷ ns) h r = (r.0, omega (arith, r.1), rise_further (n + 1) most more ns h r.2)

pub rise_on : (a b c : ℕ) (xs ys : List ℕ) → a ≤ b → b ≤ c → RiseTo a b xs → RiseTo b c ys → RiseTo a c (xs ++ ys)
rise_on a b c [] ys h k r s = rise_sooner a b c ys h s
rise_on a b c (x ∷ xs) ys h k r s = (r.0, omega (arith, r.1), rise_on (x + 1) b c xs ys (omega (arith, r.1)) k r.2 s)

-- none of them is a lesser number
pub none_less : (n least most : ℕ) (ns : List ℕ) → n < least → RiseTo least most ns → IsNone n ns
none_less n least most [] h r = tt
none_less n least most (m ∷ ns) h r =
    (λ e. absurd (omega (arith, r.0, e)), none_less n (m + 1) most ns (omega (arith, r.0)) r.2)

pub different_rising : (least most : ℕ) (ns : List ℕ) → RiseTo least most ns → AreDifferent ns
different_rising least most [] r = tt
different_rising least most (n ∷ ns) r = (none_less n (n + 1) most ns (omega arith) r.2, different_rising (n + 1) most ns r.2)

pub below_rising : (least most : ℕ) (ns : List ℕ) → RiseTo least most ns → AllByRecursion (λ n. n < most) ns
below_rising least most [] r = tt
below_rising least most (n ∷ ns) r = (r.1, below_rising (n + 1) most ns r.2)

pub few_rising : (least most : ℕ) (ns : List ℕ) → least ≤ most → RiseTo least most ns → length ns + least ≤ most
few_rising least most [] h r = omega (arith, h)
few_rising least most (n ∷ ns) h r =
    let k = few_rising (n + 1) most ns (omega (arith, r.1)) r.2 in
    omega (arith, k, r.0)

pub next_rises : (n : ℕ) (ns : List ℕ) → IsStrictlyIncreasing (n ∷ ns) → IsStrictlyIncreasing ns
next_rises n ns h = λ k l. rw add-one (let r = h (suc k) (omega (arith, l)) in rw add-one at r)

rises : (most n : ℕ) (ns : List ℕ) → IsStrictlyIncreasing (n ∷ ns) → AllByRecursion (λ m. m < most) ns → RiseTo (n + 1) most ns
rises most n [] h b = tt
rises most n (m ∷ ns) h b = (let k = h 0 (omega arith) in omega (arith, k), b.0, rises most m ns (next_rises n (m ∷ ns) h) b.1)

rise_all : (most : ℕ) (ns : List ℕ) → IsStrictlyIncreasing ns → AllByRecursion (λ m. m < most) ns → RiseTo 0 most ns
rise_all most [] h b = tt
rise_all most (n ∷ ns) h b = (omega arith, b.0, rises most n ns h b.1)

-- ---- different numbers

pub none_further : (n : ℕ) (xs ys : List ℕ) → IsNone n xs → IsNone n ys → IsNone n (xs ++ ys)
none_further n [] ys h k = k
none_further n (x ∷ xs) ys h k = (h.0, none_further n xs ys h.1 k)

pub different_further : (xs ys : List ℕ) → AreDifferent xs → AreDifferent ys → AllByRecursion (λ y. IsNone y xs) ys
    → AreDifferent (xs ++ ys)
different_further [] ys h k o = k
different_further (x ∷ xs) ys h k o = (none_further x xs ys h.0 (heads ys o), different_further xs ys h.1 k (tails ys o))
  where
    heads : (zs : List ℕ) → AllByRecursion (λ z. IsNone z (x ∷ xs)) zs → IsNone x zs
    heads [] a = tt
    heads (z ∷ zs) a = (λ e. a.0.0 (sym e), heads zs a.1)

    tails : (zs : List ℕ) → AllByRecursion (λ z. IsNone z (x ∷ xs)) zs → AllByRecursion (λ z. IsNone z xs) zs
    tails [] a = tt
    tails (z ∷ zs) a = (a.0.1, tails zs a.1)

distinct : (ns : List ℕ) → AreDifferent ns → IsDistinct nat_eq ns
unfolding IsDistinct
distinct [] h = tt
distinct (n ∷ ns) h = (each ns h.0, distinct ns h.1)
  where
    each : (ms : List ℕ) → IsNone n ms → AllByRecursion (λ m. nat_eq n m ≡ false) ms
    each [] a = tt
    each (m ∷ ms) a = (ne_eqb n m (λ e. a.0 (sym e)), each ms a.1)

bound_any : (most q : ℕ) (ns : List ℕ) → AllByRecursion (λ n. n < most) ns → list_any (nat_eq q) ns ≡ true → q < most
bound_any most q [] a e = absurd (cc)
bound_any most q (n ∷ ns) a e = by (bound_any most q ns a.1) (nat_eq q n) refl e
  where
    by : (list_any (nat_eq q) ns ≡ true → q < most) → (b : Bool) → nat_eq q n ≡ b → (b || list_any (nat_eq q) ns) ≡ true → q < most
    by later true t f = let s = eqb-true q n t in omega (arith, s, a.0)
    by later false t f = later f

pub few_different : (most : ℕ) (ns : List ℕ) → AreDifferent ns → AllByRecursion (λ n. n < most) ns → length ns ≤ most
few_different most ns h b = length-le_from_distinct_below ns most (distinct ns h) (λ q e. bound_any most q ns b e)

-- ---- the periods that go on

pub kept_rising : (now : ℕ → Option ℕ) (least most : ℕ) (ps : List ShownPeriod) → RiseTo least most (numbers ps)
    → RiseTo least most (numbers (filter_map (goes_on now) ps))
kept_rising now least most [] r = tt
kept_rising now least most (p ∷ ps) r = by (now p.object) (kept_rising now (p.n + 1) most ps r.2)
  where
    by : (o : Option ℕ) → RiseTo (p.n + 1) most (numbers (filter_map (goes_on now) ps))
        → RiseTo least most (numbers (cons_option (option_map (with_level p) o) (filter_map (goes_on now) ps)))
    by None t = rise_sooner least (p.n + 1) most _ (omega (arith, r.0)) t
    by (Some l) t = (r.0, r.1, t)

pub kept_all : (P : ℕ → Type 0) (now : ℕ → Option ℕ) (ps : List ShownPeriod) → AllByRecursion P (objects ps)
    → AllByRecursion P (objects (filter_map (goes_on now) ps))
kept_all P now [] a = tt
kept_all P now (p ∷ ps) a = by (now p.object) (kept_all P now ps a.1)
  where
    by : (o : Option ℕ) → AllByRecursion P (objects (filter_map (goes_on now) ps))
        → AllByRecursion P (objects (cons_option (option_map (with_level p) o) (filter_map (goes_on now) ps)))
    by None t = t
    by (Some l) t = (a.0, t)

pub kept_apart : (now : ℕ → Option ℕ) (ps : List ShownPeriod) → AreDifferent (objects ps)
    → AreDifferent (objects (filter_map (goes_on now) ps))
kept_apart now [] a = tt
kept_apart now (p ∷ ps) a = by (now p.object) (kept_apart now ps a.1)
  where
    by : (o : Option ℕ) → AreDifferent (objects (filter_map (goes_on now) ps))
        → AreDifferent (objects (cons_option (option_map (with_level p) o) (filter_map (goes_on now) ps)))
    by None t = t
    by (Some l) t = (kept_all (λ m. m ≢ p.object) now ps a.0, t)

pub kept_shown : (now : ℕ → Option ℕ) (count : ℕ) (ps : List ShownPeriod) → AreShown count ps → AreShown count (filter_map (goes_on now) ps)
kept_shown now count ps a = record {
  rising = kept_rising now 0 count ps a.rising;
  apart = kept_apart now ps a.apart;
  below = kept_all (λ o. o < MAX_OBJECTS) now ps a.below;
}

others_kept : (now : ℕ → Option ℕ) (ps : List ShownPeriod) (ss : List Seen) → AllByRecursion (λ s. IsNone s.object (objects ps)) ss
    → AllByRecursion (λ s. IsNone s.object (objects (filter_map (goes_on now) ps))) ss
others_kept now ps [] a = tt
others_kept now ps (s ∷ ss) a = (kept_all (λ m. m ≢ s.object) now ps a.0, others_kept now ps ss a.1)

-- what may begin beside these may begin beside those of them that go on
pub new_beside_kept : (now : ℕ → Option ℕ) (ps : List ShownPeriod) (ss : List Seen) → AreNew ps ss → AreNew (filter_map (goes_on now) ps) ss
new_beside_kept now ps ss a = record { rising = a.rising; others = others_kept now ps ss a.others; levels = a.levels }

-- ---- one more period

pub numbers_on : (ps qs : List ShownPeriod) → numbers (ps ++ qs) ≡ numbers ps ++ numbers qs
numbers_on [] qs = refl
numbers_on (p ∷ ps) qs = ap (λ (ns : List ℕ). p.n ∷ ns) (numbers_on ps qs)

pub objects_on : (ps qs : List ShownPeriod) → objects (ps ++ qs) ≡ objects ps ++ objects qs
objects_on [] qs = refl
objects_on (p ∷ ps) qs = ap (λ (ns : List ℕ). p.object ∷ ns) (objects_on ps qs)

-- the period that begins with this sight
abbrev pub first_of : ℕ → Seen → ShownPeriod
first_of n s = record { n = n; object = s.object; level = s.level }

pub all_on : {X : Type 0} (P : X → Type 0) (xs ys : List X) → AllByRecursion P xs → AllByRecursion P ys → AllByRecursion P (xs ++ ys)
all_on P [] ys h k = k
all_on P (x ∷ xs) ys h k = (h.0, all_on P xs ys h.1 k)

pub shown_more : (count : ℕ) (ps : List ShownPeriod) (s : Seen) → AreShown count ps → s.object < MAX_OBJECTS → IsNone s.object (objects ps)
    → AreShown (count + 1) (ps ++ first_of count s ∷ [])
shown_more count ps s a b o = record {
  rising = rw numbers_on
      (rise_on 0 count (count + 1) (numbers ps) (count ∷ []) (omega arith) (omega arith) a.rising (omega arith, omega arith, tt));
  apart = rw objects_on (different_further (objects ps) (s.object ∷ []) a.apart (tt, tt) (o, tt));
  below = rw objects_on (all_on (λ m. m < MAX_OBJECTS) (objects ps) (s.object ∷ []) a.below (b, tt));
}

others_more : (n least : ℕ) (ps : List ShownPeriod) (s : Seen) (ss : List Seen) → s.object < least → RiseTo least MAX_OBJECTS (sights ss)
    → AllByRecursion (λ t. IsNone t.object (objects ps)) ss → AllByRecursion (λ t. IsNone t.object (objects (ps ++ first_of n s ∷ []))) ss
others_more n least ps s [] l r a = tt
others_more n least ps s (t ∷ ss) l r a =
    let here : IsNone t.object (s.object ∷ []) = (λ e. absurd (omega (arith, l, r.0, e)), tt) in (
      rw objects_on (none_further t.object (objects ps) (s.object ∷ []) a.0 here),
      others_more n (t.object + 1) ps s ss (omega (arith, r.0))
          r.2 a.1,
    )

-- the other sights may begin periods beside it
pub new_more : (n : ℕ) (ps : List ShownPeriod) (s : Seen) (ss : List Seen) → AreNew ps (s ∷ ss) → AreNew (ps ++ first_of n s ∷ []) ss
new_more n ps s ss a = record {
  rising = rise_sooner 0 (s.object + 1) MAX_OBJECTS (sights ss) (omega arith) a.rising.2;
  others = others_more n (s.object + 1) ps s ss (omega arith) a.rising.2 a.others.1;
  levels = a.levels.1;
}

-- one period after the other
pub step_on : (n : ℕ) (ps : List ShownPeriod) (s : Seen) (ss : List Seen)
    → ps ++ begun n (s ∷ ss) ≡ (ps ++ first_of n s ∷ []) ++ begun (n + 1) ss
step_on n ps s ss = sym (append_assoc ps (first_of n s ∷ []) (begun (n + 1) ss))

pub shown_all : (count : ℕ) (ps : List ShownPeriod) (ss : List Seen) → AreShown count ps → AreNew ps ss
    → AreShown (count + length ss) (ps ++ begun count ss)
shown_all count ps [] a n = rw (append-nil ps, add-zero count) a
shown_all count ps (s ∷ ss) a n =
    let more = shown_all (count + 1) (ps ++ first_of count s ∷ []) ss (shown_more count ps s a n.rising.1 n.others.0)
    (new_more count ps s ss n) in
    let many : count + 1 + length ss ≡ count + suc (length ss) = omega arith in
    subst (λ k. AreShown k (ps ++ begun count (s ∷ ss))) many (rw (step_on count ps s ss) more)

-- ---- what a scan saw and the one before it didn't

pub sights_rise : (seen : List Seen) → IsSight seen → RiseTo 0 MAX_OBJECTS (sights seen)
sights_rise seen h =
    rise_all MAX_OBJECTS (sights seen) h.rising (below seen (recursion_from_All (λ s. s.object < MAX_OBJECTS) seen h.below))
  where
    below : (ss : List Seen) → AllByRecursion (λ s. s.object < MAX_OBJECTS) ss → AllByRecursion (λ n. n < MAX_OBJECTS) (sights ss)
    below [] a = tt
    below (s ∷ ss) a = (a.0, below ss a.1)

filtered_rise : (p : Seen → Bool) (least most : ℕ) (seen : List Seen) → RiseTo least most (sights seen)
    → RiseTo least most (sights (filter p seen))
filtered_rise p least most [] r = tt
filtered_rise p least most (s ∷ seen) r = by (p s) (filtered_rise p (s.object + 1) most seen r.2)
  where
    by : (b : Bool) → RiseTo (s.object + 1) most (sights (filter p seen))
        → RiseTo least most (sights (cond b (s ∷ filter p seen) (filter p seen)))
    by true t = (r.0, r.1, t)
    by false t = rise_sooner least (s.object + 1) most _ (omega (arith, r.0)) t

filtered_all : (P : Seen → Type 0) (p : Seen → Bool) (seen : List Seen) → AllByRecursion P seen → AllByRecursion P (filter p seen)
filtered_all P p [] a = tt
filtered_all P p (s ∷ seen) a = by (p s) (filtered_all P p seen a.1)
  where
    by : (b : Bool) → AllByRecursion P (filter p seen) → AllByRecursion P (cond b (s ∷ filter p seen) (filter p seen))
    by true t = (a.0, t)
    by false t = t

unseen_before : (before : ℕ → Option ℕ) (seen : List Seen) → AllByRecursion (λ s. before s.object ≡ None) (filter (is_new before) seen)
unseen_before before [] = tt
unseen_before before (s ∷ seen) = by (before s.object) refl (unseen_before before seen)
  where
    by : (o : Option ℕ) → before s.object ≡ o → AllByRecursion (λ t. before t.object ≡ None) (filter (is_new before) seen)
        → AllByRecursion (λ t. before t.object ≡ None)
        (cond (not (is_some o)) (s ∷ filter (is_new before) seen) (filter (is_new before) seen))
    by None e t = (e, t)
    by (Some l) e t = t

-- ---- each shown period was seen by the last scan

seen_in : (os : List ℕ) (now : ℕ → Option ℕ) (es : List (ℕ × ℕ))
    → AllByRecursion (λ (p : ShownPeriod). now p.object ≡ Some p.level) (filter_map (lasting os now) es)
seen_in os now [] = tt
seen_in os now (e ∷ es) = by (comes_again os e.0 e.1) (now e.1) refl (seen_in os now es)
  where
    by : (again : Bool) (o : Option ℕ) → now e.1 ≡ o
        → AllByRecursion (λ (p : ShownPeriod). now p.object ≡ Some p.level) (filter_map (lasting os now) es)
        → AllByRecursion (λ (p : ShownPeriod). now p.object ≡ Some p.level)
        (cons_option (cond again None (option_map (at_level e) o)) (filter_map (lasting os now) es))
    by true o q t = t
    by false None q t = t
    by false (Some l) q t = (q, t)

pub shown_were_seen : (scans : List (List Seen))
    → AllByRecursion (λ (p : ShownPeriod). level_in (last scans) p.object ≡ Some p.level) (shown scans)
shown_were_seen scans = seen_in (periods scans) (level_in (last scans)) (enumerate_from 0 (periods scans))

not_among : (before : ℕ → Option ℕ) (o : ℕ) (ps : List ShownPeriod) → before o ≡ None
    → AllByRecursion (λ (p : ShownPeriod). before p.object ≡ Some p.level) ps → IsNone o (objects ps)
not_among before o [] h a = tt
not_among before o (p ∷ ps) h a =
    (λ e. absurd (let same : before p.object ≡ before o = ap before e in let f = a.0 in cc), not_among before o ps h a.1)

all_others : (before : ℕ → Option ℕ) (ps : List ShownPeriod) (ss : List Seen)
    → AllByRecursion (λ (p : ShownPeriod). before p.object ≡ Some p.level) ps → AllByRecursion (λ s. before s.object ≡ None) ss
    → AllByRecursion (λ s. IsNone s.object (objects ps)) ss
all_others before ps [] a b = tt
all_others before ps (s ∷ ss) a b = (not_among before s.object ps b.0 a, all_others before ps ss a b.1)

-- a period that begins is of an object that no shown period has
pub shows_are_new : (seen : List Seen) (scans : List (List Seen)) → IsSight seen → AreNew (shown scans) (shows (seen ∷ scans))
shows_are_new seen scans h =
    let before = level_in (last scans) in
    record {
      rising = filtered_rise (is_new before) 0 MAX_OBJECTS seen (sights_rise seen h);
      others = all_others before (shown scans) (filter (is_new before) seen) (shown_were_seen scans) (unseen_before before seen);
      levels = filtered_all (λ s. s.level ≤ MAX_DISTANCE_LEVEL) (is_new before) seen
          (recursion_from_All (λ s. s.level ≤ MAX_DISTANCE_LEVEL) seen h.levels);
    }

-- ---- scan by scan

pub many_periods : (seen : List Seen) (scans : List (List Seen))
    → length (periods (seen ∷ scans)) ≡ length (periods scans) + length (shows (seen ∷ scans))
many_periods seen scans = length-append (periods scans) _ ∙ ap (λ k. length (periods scans) + k) (length-map (new_ones (last scans) seen) _)

-- the shown periods after one more scan: those that go on, and those that begin
pub shown_next : (seen : List Seen) (scans : List (List Seen)) → IsSight seen
    → shown (seen ∷ scans) ≡ filter_map (goes_on (level_in seen)) (shown scans) ++ begun (length (periods scans)) (shows (seen ∷ scans))
shown_next seen scans h = shown_by_step seen scans (rising_apart seen h.rising)

-- the shown periods rise by number below the number of periods there were, and have different objects
pub shown_are_shown : (scans : List (List Seen)) → AreSights scans → AreShown (length (periods scans)) (shown scans)
shown_are_shown [] h = record { rising = tt; apart = tt; below = tt }
shown_are_shown (seen ∷ scans) h =
    let count = length (periods scans) in
    let now = level_in seen in
    let old = kept_shown now count (shown scans) (shown_are_shown scans h.1) in
    let new = new_beside_kept now (shown scans) (shows (seen ∷ scans)) (shows_are_new seen scans h.0) in
    rw (shown_next seen scans h.0, many_periods seen scans)
    (shown_all count (filter_map (goes_on now) (shown scans)) (shows (seen ∷ scans)) old new)

pub few_shown : (count : ℕ) (ps : List ShownPeriod) → AreShown count ps → length ps ≤ MAX_OBJECTS
few_shown count ps a =
    let few = few_different MAX_OBJECTS (objects ps) a.apart a.below in
    let many : length (objects ps) ≡ length ps = length-map ps _ in
    omega (arith, few, many)

-- so there are no more of them than objects of a match
pub shown_few : (scans : List (List Seen)) → AreSights scans → length (shown scans) ≤ MAX_OBJECTS
shown_few scans h = few_shown (length (periods scans)) (shown scans) (shown_are_shown scans h)

-- a scan begins no more periods than there are objects of a match
pub shows_few : (ps : List ShownPeriod) (ss : List Seen) → AreNew ps ss → length ss ≤ MAX_OBJECTS
shows_few ps ss a =
    let few = few_rising 0 MAX_OBJECTS (sights ss) (omega arith) a.rising in
    let many : length (sights ss) ≡ length ss = length-map ss _ in
    omega (arith, few, many)

pub periods_few : (scans : List (List Seen)) → AreSights scans → length (periods scans) ≤ MAX_OBJECTS * length scans
periods_few [] h = omega arith
periods_few (seen ∷ scans) h =
    let before = periods_few scans h.1 in
    let new = shows_few (shown scans) (shows (seen ∷ scans)) (shows_are_new seen scans h.0) in
    let many = many_periods seen scans in
    omega (arith, before, new, many)
