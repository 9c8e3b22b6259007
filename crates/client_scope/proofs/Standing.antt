-- A scope stands for one more scan.
use Rattle.std.proofs.Common.{◌≡◌, ℕ, ◌+◌, ◌<◌, List, [], ◌∷◌, ◌++◌, length, filter, Bool, not, cond, Option, refl, sym, ap, ◌∙◌, length-append}
use Rattle.std.specs.Prelude.{is_some, option_map}
use Rattle.std.specs.List.{All, AllByRecursion, filter_map, cons_option}
use Rattle.std.proofs.lemmas.List.{length-map}
use Rattle.std.proofs.lemmas.List.Elements.{All-from_recursion, recursion_from_All}
use Rattle.world_scope.specs.declared.viewer.Seen.{Seen}
use Rattle.client_scope.specs.declared.period.ShownPeriod.{ShownPeriod}
use Rattle.client_scope.specs.Scans.{level_in, last, is_new, new_ones, periods, shown}
use Rattle.client_scope.specs.Changes.{hidden, moved, moved_to}
use Rattle.client_scope.specs.Marks.{marked, AreOf, with_level, goes_on, begun}
use Rattle.client_scope.specs.StandsFor.{Table, StandsFor}
use Rattle.client_scope.proofs.Apart.{AreApart}
use Rattle.client_scope.proofs.Periods.{shown_by_step}

same_mapped : {X Y : Type 0} (f g : X → Option Y) → ((x : X) → f x ≡ g x) → (xs : List X) → filter_map f xs ≡ filter_map g xs
same_mapped f g h [] = refl
same_mapped f g h (x ∷ xs) = rw (h x, same_mapped f g h xs) refl

same_filtered : {X : Type 0} (p q : X → Bool) → ((x : X) → p x ≡ q x) → (xs : List X) → filter p xs ≡ filter q xs
same_filtered p q h [] = refl
same_filtered p q h (x ∷ xs) = rw (h x, same_filtered p q h xs) refl

-- what the two walks of a scan left
pub record IsScanned (t : Table) (seen : List Seen) (fresh : List ℕ) (u : Table) : Type 0 where
  pub hides : u.hides ≡ filter_map (hidden (marked fresh)) t.shown
  pub nears : u.nears ≡ filter_map (moved (marked fresh)) t.shown
  pub shows : u.shows ≡ filter (is_new (marked t.marks)) seen
  pub shown : u.shown ≡ filter_map (goes_on (marked fresh)) t.shown ++ begun t.count (filter (is_new (marked t.marks)) seen)
  pub count : u.count ≡ t.count + length (filter (is_new (marked t.marks)) seen)
  pub marks : u.marks ≡ fresh

pub one_more_scan : (t u : Table) (seen : List Seen) (fresh : List ℕ) → AreApart seen → AreOf seen fresh → IsScanned t seen fresh u → (scans : List (List Seen)) → StandsFor t scans → StandsFor u (seen ∷ scans)
one_more_scan t u seen fresh a m d scans st =
    let now = level_in seen in
    let new : filter (is_new (marked t.marks)) seen ≡ new_ones (last scans) seen = same_filtered (is_new (marked t.marks)) (is_new (level_in (last scans))) (λ s. ap (λ o. not (is_some o)) (st.marks s.object)) seen in
    let hidden_same = same_mapped (hidden (marked fresh)) (hidden now) (λ p. ap (λ o. cond (is_some o) Option.None (Option.Some p.n)) (m p.object)) (shown scans) in
    let moved_same = same_mapped (moved (marked fresh)) (moved now) (λ p. ap (moved_to p) (m p.object)) (shown scans) in
    let kept_same = same_mapped (goes_on (marked fresh)) (goes_on now) (λ p. ap (option_map (with_level p)) (m p.object)) (shown scans) in
    record {
      count = d.count ∙ rw (new, st.count) (sym (length-append (periods scans) _ ∙ ap (λ k. length (periods scans) + k) (length-map (new_ones (last scans) seen) _)));
      shown = d.shown ∙ rw (new, st.count, st.shown, kept_same) (sym (shown_by_step seen scans a));
      hides = d.hides ∙ rw st.shown hidden_same;
      nears = d.nears ∙ rw st.shown moved_same;
      shows = d.shows ∙ new;
      marks = rw d.marks m;
    }

-- ---- the objects of shown periods are those of a match

abbrev IsBelow : ℕ → ShownPeriod → Type 0
IsBelow k p = p.object < k

gone_on : (k : ℕ) (level : ℕ → Option ℕ) (ps : List ShownPeriod) → AllByRecursion (IsBelow k) ps → AllByRecursion (IsBelow k) (filter_map (goes_on level) ps)
gone_on k level [] a = tt
gone_on k level (p ∷ ps) a = by (level p.object) (gone_on k level ps a.1)
  where
    by : (o : Option ℕ) → AllByRecursion (IsBelow k) (filter_map (goes_on level) ps) → AllByRecursion (IsBelow k) (cons_option (option_map (with_level p) o) (filter_map (goes_on level) ps))
    by Option.None r = r
    by (Option.Some l) r = (a.0, r)

all_begun : (k n : ℕ) (p : Seen → Bool) (seen : List Seen) → AllByRecursion (λ s. s.object < k) seen → AllByRecursion (IsBelow k) (begun n (filter p seen))
all_begun k n p [] a = tt
all_begun k n p (s ∷ seen) a = by (p s) (λ m. all_begun k m p seen a.1)
  where
    by : (b : Bool) → ((m : ℕ) → AllByRecursion (IsBelow k) (begun m (filter p seen))) → AllByRecursion (IsBelow k) (begun n (cond b (s ∷ filter p seen) (filter p seen)))
    by Bool.true r = (a.0, r (n + 1))
    by Bool.false r = r n

all_of_both : (k : ℕ) (ps qs : List ShownPeriod) → AllByRecursion (IsBelow k) ps → AllByRecursion (IsBelow k) qs → AllByRecursion (IsBelow k) (ps ++ qs)
all_of_both k [] qs a b = b
all_of_both k (p ∷ ps) qs a b = (a.0, all_of_both k ps qs a.1 b)

pub still_there : (k n : ℕ) (level : ℕ → Option ℕ) (p : Seen → Bool) (ps qs : List ShownPeriod) (seen : List Seen) → All (λ x. x.object < k) ps → All (λ s. s.object < k) seen → qs ≡ filter_map (goes_on level) ps ++ begun n (filter p seen) → All (λ x. x.object < k) qs
still_there k n level p ps qs seen a b e =
    let x = gone_on k level ps (recursion_from_All (IsBelow k) ps a) in
    let y = all_begun k n p seen (recursion_from_All (λ s. s.object < k) seen b) in
    rw e (All-from_recursion (IsBelow k) _ (all_of_both k _ _ x y))
