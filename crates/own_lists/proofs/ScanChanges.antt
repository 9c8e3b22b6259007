-- What a scan hides and brings nearer, whatever the scans before it saw: periods that were shown, each once, and at levels of distance.
use Rattle.std.proofs.Common.{◌≡◌, ◌≢◌, ℕ, suc, ◌+◌, ◌*◌, ◌<◌, ◌≤◌, Bool, true, false, not, cond, ◌||◌, nat_eq, List, [], ◌∷◌, ◌++◌, length, map, filter, Option, Some, None, refl, sym, ap, ◌∙◌, subst, arith, add-one, add-zero, append_assoc, append-nil, length-append}
use Rattle.std.specs.Prelude.{is_some, option_map}
use Rattle.std.specs.List.{All, AllByRecursion, filter_map, enumerate_from, cons_option, list_any, IsDistinct}
use Rattle.std.specs.List.Sorted.{IsStrictlyIncreasing}
use Rattle.std.proofs.lemmas.Bool.{ne_eqb, eqb-true, eq-eqb, or_right}
use Rattle.std.proofs.lemmas.List.{length-map}
use Rattle.std.proofs.lemmas.List.Elements.{recursion_from_All}
use Rattle.std.proofs.lemmas.Map.Steps.{length-le_from_distinct_below}
use Rattle.tn_types.specs.declared.limits.TheConstants.{MAX_OBJECTS, MAX_DISTANCE_LEVEL}
use Rattle.client_scope.specs.world_scope.declared.viewer.Seen.{Seen}
use Rattle.client_scope.specs.declared.period.ShownPeriod.{ShownPeriod}
use Rattle.client_scope.specs.declared.period.Near.{Near}
use Rattle.client_scope.specs.Scans.{level_in, last, is_new, new_ones, periods, comes_again, at_level, lasting, shown}
use Rattle.client_scope.specs.Changes.{hidden, moved, moved_to, hides, nears, shows}
use Rattle.client_scope.specs.Marks.{with_level, goes_on, begun}
use Rattle.client_scope.proofs.Apart.{rising_apart}
use Rattle.client_scope.proofs.Periods.{shown_by_step}
use Rattle.own_lists.proofs.ScanFacts.{IsSight, AreSights, RiseTo, IsNone, numbers, rise_sooner, none_less, shown_are_shown}

-- ---- what a scan hides and brings nearer

pub hidden_rise : (level : ℕ → Option ℕ) (least most : ℕ) (ps : List ShownPeriod) → RiseTo least most (numbers ps)
    → RiseTo least most (filter_map (hidden level) ps)
hidden_rise level least most [] r = tt
hidden_rise level least most (p ∷ ps) r = by (is_some (level p.object)) (hidden_rise level (p.n + 1) most ps r.2)
  where
    by : (b : Bool) → RiseTo (p.n + 1) most (filter_map (hidden level) ps)
        → RiseTo least most (cons_option (cond b None (Some p.n)) (filter_map (hidden level) ps))
    by true t = rise_sooner least (p.n + 1) most _ (omega (arith, r.0)) t
    by false t = (r.0, r.1, t)

-- they rise, and are numbers of shown periods
pub hides_rise : (seen : List Seen) (scans : List (List Seen)) → AreSights scans → RiseTo 0 (length (periods scans)) (hides (seen ∷ scans))
hides_rise seen scans h = hidden_rise (level_in seen) 0 (length (periods scans)) (shown scans) (shown_are_shown scans h).rising

-- whether a number is among these
abbrev pub has : ℕ → List ℕ → Bool
has n ns = list_any (λ m. nat_eq m n) ns

-- what holds of each of them holds of one that is among them
pub held_at : (P : ℕ → Type 0) (n : ℕ) (ns : List ℕ) → AllByRecursion P ns → has n ns ≡ true → P n
held_at P n [] a e = absurd (cc)
held_at P n (m ∷ ns) a e = by (held_at P n ns a.1) (nat_eq m n) refl e
  where
    by : (has n ns ≡ true → P n) → (b : Bool) → nat_eq m n ≡ b → (b || has n ns) ≡ true → P n
    by later true t f = subst P (eqb-true m n t) a.0
    by later false t f = later f

pub has_itself : (n : ℕ) (ns : List ℕ) → has n (n ∷ ns) ≡ true
has_itself n ns = let t : nat_eq n n ≡ true = eq-eqb n n refl in rw t refl

pub has_behind : (m n : ℕ) (ns : List ℕ) → has n ns ≡ true → has n (m ∷ ns) ≡ true
has_behind m n ns h = or_right (nat_eq m n) (has n ns) h

pub has_not : (n : ℕ) (ns : List ℕ) → IsNone n ns → has n ns ≡ false
has_not n [] a = refl
has_not n (m ∷ ns) a = let t : nat_eq m n ≡ false = ne_eqb m n a.0 in rw t (has_not n ns a.1)

has_sooner : (m n : ℕ) (ns : List ℕ) → m ≢ n → has n (m ∷ ns) ≡ has n ns
has_sooner m n ns h = let t : nat_eq m n ≡ false = ne_eqb m n h in rw t refl

-- of what rises, the later ones are not the first
pub later_differ : (n least most : ℕ) (ps : List ShownPeriod) → n < least → RiseTo least most (numbers ps)
    → AllByRecursion (λ (p : ShownPeriod). n ≢ p.n) ps
later_differ n least most [] h r = tt
later_differ n least most (p ∷ ps) h r = (λ e. absurd (omega (arith, r.0, e)), later_differ n (p.n + 1) most ps (omega (arith, r.0)) r.2)

-- the periods that a scan hides are exactly those whose object it doesn't see
pub hidden_tells : (level : ℕ → Option ℕ) (least most : ℕ) (ps : List ShownPeriod) → RiseTo least most (numbers ps)
    → AllByRecursion (λ (p : ShownPeriod). has p.n (filter_map (hidden level) ps) ≡ not (is_some (level p.object))) ps
hidden_tells level least most [] r = tt
hidden_tells level least most (p ∷ ps) r =
    let rest = filter_map (hidden level) ps in
    let none : has p.n rest ≡ false =
    has_not p.n rest (none_less p.n (p.n + 1) most rest (omega arith) (hidden_rise level (p.n + 1) most ps r.2)) in (
      here (is_some (level p.object)) none,
      later ps (later_differ p.n (p.n + 1) most ps (omega arith) r.2)
          (hidden_tells level (p.n + 1) most ps r.2),
    )
  where
    here : (b : Bool) → has p.n (filter_map (hidden level) ps) ≡ false
        → has p.n (cons_option (cond b None (Some p.n)) (filter_map (hidden level) ps)) ≡ not b
    here true e = e
    here false e = has_itself p.n (filter_map (hidden level) ps)

    one : (b : Bool) (n : ℕ) → p.n ≢ n
        → has n (cons_option (cond b None (Some p.n)) (filter_map (hidden level) ps)) ≡ has n (filter_map (hidden level) ps)
    one true n h = refl
    one false n h = has_sooner p.n n (filter_map (hidden level) ps) h

    later : (qs : List ShownPeriod) → AllByRecursion (λ (q : ShownPeriod). p.n ≢ q.n) qs
        → AllByRecursion (λ (q : ShownPeriod). has q.n (filter_map (hidden level) ps) ≡ not (is_some (level q.object))) qs
        → AllByRecursion (λ (q : ShownPeriod). has q.n (filter_map (hidden level) (p ∷ ps)) ≡ not (is_some (level q.object))) qs
    later [] a b = tt
    later (q ∷ qs) a b = (one (is_some (level p.object)) q.n a.0 ∙ b.0, later qs a.1 b.1)

-- those that go on are the others
pub kept_are : (level : ℕ → Option ℕ) (hs : List ℕ) (ps : List ShownPeriod)
    → AllByRecursion (λ (p : ShownPeriod). has p.n hs ≡ not (is_some (level p.object))) ps
    → filter (λ n. not (has n hs)) (numbers ps) ≡ numbers (filter_map (goes_on level) ps)
kept_are level hs [] a = refl
kept_are level hs (p ∷ ps) a = rw a.0 (by (level p.object) (kept_are level hs ps a.1))
  where
    by : (o : Option ℕ) → filter (λ n. not (has n hs)) (numbers ps) ≡ numbers (filter_map (goes_on level) ps)
        → cond (not (not (is_some o))) (p.n ∷ filter (λ n. not (has n hs)) (numbers ps))
        (filter (λ n. not (has n hs)) (numbers ps)) ≡ numbers (cons_option (option_map (with_level p) o) (filter_map (goes_on level) ps))
    by None e = e
    by (Some l) e = ap (λ (ns : List ℕ). p.n ∷ ns) e

-- what a scan hides was shown
pub hidden_were_shown : (level : ℕ → Option ℕ) (ps : List ShownPeriod)
    → AllByRecursion (λ n. has n (numbers ps) ≡ true) (filter_map (hidden level) ps)
hidden_were_shown level [] = tt
hidden_were_shown level (p ∷ ps) = by (is_some (level p.object)) (later (filter_map (hidden level) ps) (hidden_were_shown level ps))
  where
    later : (ns : List ℕ) → AllByRecursion (λ n. has n (numbers ps) ≡ true) ns → AllByRecursion (λ n. has n (numbers (p ∷ ps)) ≡ true) ns
    later [] a = tt
    later (n ∷ ns) a = (has_behind p.n n (numbers ps) a.0, later ns a.1)

    by : (b : Bool) → AllByRecursion (λ n. has n (numbers (p ∷ ps)) ≡ true) (filter_map (hidden level) ps)
        → AllByRecursion (λ n. has n (numbers (p ∷ ps)) ≡ true) (cons_option (cond b None (Some p.n)) (filter_map (hidden level) ps))
    by true a = a
    by false a = (has_itself p.n (numbers ps), a)

pub hides_were_shown : (seen : List Seen) (scans : List (List Seen))
    → AllByRecursion (λ n. has n (numbers (shown scans)) ≡ true) (hides (seen ∷ scans))
hides_were_shown seen scans = hidden_were_shown (level_in seen) (shown scans)

-- ---- levels

level_among : (most : ℕ) (seen : List Seen) (object : ℕ) (l : ℕ) → AllByRecursion (λ s. s.level ≤ most) seen → level_in seen object ≡ Some l
    → l ≤ most
level_among most [] object l a e = absurd (cc)
level_among most (s ∷ seen) object l a e = by (level_among most seen object l a.1) (nat_eq s.object object) e
  where
    by : (level_in seen object ≡ Some l → l ≤ most) → (b : Bool) → cond b (Some s.level) (level_in seen object) ≡ Some l → l ≤ most
    by later true f = let same : s.level ≡ l = cc in omega (arith, same, a.0)
    by later false f = later f

-- of a period that goes on, at a level of distance
pub record IsNear (ps : List ShownPeriod) (q : Near) : Type 0 where
  pub shown : has q.n (numbers ps) ≡ true
  pub level : q.level ≤ MAX_DISTANCE_LEVEL

near_behind : (p : ShownPeriod) (ps : List ShownPeriod) (qs : List Near) → AllByRecursion (IsNear ps) qs
    → AllByRecursion (IsNear (p ∷ ps)) qs
near_behind p ps [] a = tt
near_behind p ps (q ∷ qs) a = (record { shown = has_behind p.n q.n (numbers ps) a.0.shown; level = a.0.level }, near_behind p ps qs a.1)

moved_by : (level : ℕ → Option ℕ) → ((object l : ℕ) → level object ≡ Some l → l ≤ MAX_DISTANCE_LEVEL) → (ps : List ShownPeriod)
    → AllByRecursion (IsNear (filter_map (goes_on level) ps)) (filter_map (moved level) ps)
moved_by level h [] = tt
moved_by level h (p ∷ ps) = by (level p.object) refl (moved_by level h ps)
  where
    one : (l : ℕ) (b : Bool) → level p.object ≡ Some l
        → AllByRecursion (IsNear (filter_map (goes_on level) ps)) (filter_map (moved level) ps)
        → AllByRecursion (IsNear (with_level p l ∷ filter_map (goes_on level) ps))
        (cons_option (cond b None (Some (record { n = p.n; level = l }))) (filter_map (moved level) ps))
    one l true e a = near_behind (with_level p l) (filter_map (goes_on level) ps) (filter_map (moved level) ps) a
    one l false e a = (
      record { shown = has_itself p.n (numbers (filter_map (goes_on level) ps)); level = h p.object l e },
      near_behind
          (with_level p l) (filter_map (goes_on level) ps) (filter_map (moved level) ps) a,
    )

    by : (o : Option ℕ) → level p.object ≡ o → AllByRecursion (IsNear (filter_map (goes_on level) ps)) (filter_map (moved level) ps)
        → AllByRecursion (IsNear (cons_option (option_map (with_level p) o) (filter_map (goes_on level) ps)))
        (cons_option (moved_to p o) (filter_map (moved level) ps))
    by None e a = a
    by (Some l) e a = one l (nat_eq l p.level) e a

pub nears_go_on : (seen : List Seen) (scans : List (List Seen)) → IsSight seen
    → AllByRecursion (IsNear (filter_map (goes_on (level_in seen)) (shown scans))) (nears (seen ∷ scans))
nears_go_on seen scans h =
    let few = recursion_from_All (λ s. s.level ≤ MAX_DISTANCE_LEVEL) seen h.levels in
    moved_by (level_in seen) (λ object l e. level_among MAX_DISTANCE_LEVEL seen object l few e) (shown scans)

-- what goes on was shown
pub kept_were_shown : (n : ℕ) (level : ℕ → Option ℕ) (ps : List ShownPeriod) → has n (numbers (filter_map (goes_on level) ps)) ≡ true
    → has n (numbers ps) ≡ true
kept_were_shown n level [] e = e
kept_were_shown n level (p ∷ ps) e = by (kept_were_shown n level ps) (level p.object) e
  where
    one : (has n (numbers (filter_map (goes_on level) ps)) ≡ true → has n (numbers ps) ≡ true) → (b : Bool)
        → (b || has n (numbers (filter_map (goes_on level) ps))) ≡ true → (b || has n (numbers ps)) ≡ true
    one later true f = refl
    one later false f = later f

    by : (has n (numbers (filter_map (goes_on level) ps)) ≡ true → has n (numbers ps) ≡ true) → (o : Option ℕ)
        → has n (numbers (cons_option (option_map (with_level p) o) (filter_map (goes_on level) ps))) ≡ true
        → has n (numbers (p ∷ ps)) ≡ true
    by later None f = has_behind p.n n (numbers ps) (later f)
    by later (Some l) f = one later (nat_eq p.n n) f

pub nears_were_shown : (seen : List Seen) (scans : List (List Seen)) → IsSight seen
    → AllByRecursion (IsNear (shown scans)) (nears (seen ∷ scans))
nears_were_shown seen scans h = each (nears (seen ∷ scans)) (nears_go_on seen scans h)
  where
    each : (qs : List Near) → AllByRecursion (IsNear (filter_map (goes_on (level_in seen)) (shown scans))) qs
        → AllByRecursion (IsNear (shown scans)) qs
    each [] a = tt
    each (q ∷ qs) a = (record { shown = kept_were_shown q.n (level_in seen) (shown scans) a.0.shown; level = a.0.level }, each qs a.1)
