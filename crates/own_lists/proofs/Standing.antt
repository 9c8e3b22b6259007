-- What the steps of a scan and of lines say of periods, one after the other; and what stands between an own list and the world.
use Rattle.std.proofs.Common.{◌≡◌, ℕ, zero, suc, ◌+◌, ◌<◌, ◌≤◌, Bool, true, false, not, cond, ◌||◌, nat_eq, List, [], ◌∷◌, ◌++◌, map, filter, refl, sym, ap, ◌∙◌, subst, arith}
use Rattle.std.specs.List.{AllByRecursion}
use Rattle.std.proofs.lemmas.Bool.{ne_eqb}
use Rattle.std.proofs.lemmas.List.Elements.{filter_agree}
use Rattle.tn_types.specs.declared.limits.TheConstants.{MAX_DISTANCE_LEVEL}
use Rattle.ghost_model.specs.Words.{upto}
use Rattle.ghost_model.specs.Scope.{Traits}
use Rattle.pair_steps.specs.stream_manager.Limits.{Terms}
use Rattle.pair_steps.specs.pair_core.History.{PairStep, Hide, Near}
use Rattle.world_sim.specs.Worlds.{Worlds}
use Rattle.client_scope.specs.declared.period.ShownPeriod.{ShownPeriod}
use Rattle.client_scope.specs.declared.period.Near.{Near as NearPeriod}
use Rattle.pair_steps.specs.Steps.{shows_in, is_hidden_in, up_in, traits_in}
use Rattle.own_lists.specs.Course.{onto, hide_step, near_step}
use Rattle.own_lists.specs.Kept.{Kept}
use Rattle.own_lists.specs.Conditions.{MeetEach}
use Rattle.own_lists.specs.Agreement.{IsPeriodOf}
use Rattle.pair_steps.proofs.Journals.{up_to, filter_twice}
use Rattle.own_lists.proofs.ScanFacts.{RiseTo, IsNone, AreShown, numbers, none_less, all_on}
use Rattle.own_lists.proofs.ScanChanges.{has}

-- ---- steps one after the other

pub onto_on : (xs ys steps : List PairStep) → onto (xs ++ ys) steps ≡ onto ys (onto xs steps)
onto_on [] ys steps = refl
onto_on (x ∷ xs) ys steps = onto_on xs ys (x ∷ steps)

pub meet_on : (t : Terms) (xs ys steps : List PairStep) → MeetEach t xs steps → MeetEach t ys (onto xs steps) → MeetEach t (xs ++ ys) steps
meet_on t [] ys steps h k = k
meet_on t (x ∷ xs) ys steps h k = (h.0, meet_on t xs ys (x ∷ steps) h.1 k)

pub all_weaker : {X : Type 0} (P Q : X → Type 0) → ((x : X) → P x → Q x) → (xs : List X) → AllByRecursion P xs → AllByRecursion Q xs
all_weaker P Q f [] a = tt
all_weaker P Q f (x ∷ xs) a = (f x a.0, all_weaker P Q f xs a.1)

all_both : {X : Type 0} (P Q : X → Type 0) (xs : List X) → AllByRecursion P xs → AllByRecursion Q xs → AllByRecursion (λ x. P x × Q x) xs
all_both P Q [] a b = tt
all_both P Q (x ∷ xs) a b = ((a.0, b.0), all_both P Q xs a.1 b.1)

-- ---- what is up

below_upto : (n : ℕ) → AllByRecursion (λ m. m < n) (upto n)
unfolding upto
below_upto zero = tt
below_upto (suc n) =
    all_on (λ m. m < suc n) (upto n) (n ∷ []) (all_weaker (λ m. m < n) (λ m. m < suc n) (λ m l. omega (arith, l)) (upto n) (below_upto n))
    (omega arith, tt)

filter_says : (P : ℕ → Type 0) (b : ℕ → Bool) (xs : List ℕ) → AllByRecursion P xs → AllByRecursion (λ x. P x × (b x ≡ true)) (filter b xs)
filter_says P b [] a = tt
filter_says P b (x ∷ xs) a = by (b x) refl (filter_says P b xs a.1)
  where
    by : (c : Bool) → b x ≡ c → AllByRecursion (λ y. P y × (b y ≡ true)) (filter b xs)
        → AllByRecursion (λ y. P y × (b y ≡ true)) (cond c (x ∷ filter b xs) (filter b xs))
    by true e r = ((a.0, e), r)
    by false e r = r

abbrev pub IsShownIn : List PairStep → ℕ → Type 0
IsShownIn steps n = (n < shows_in steps) × (is_hidden_in steps n ≡ false)

not_true : (b : Bool) → not b ≡ true → b ≡ false
not_true true e = sym e
not_true false e = refl

pub up_are_shown : (steps : List PairStep) → AllByRecursion (IsShownIn steps) (up_in steps)
up_are_shown steps =
    all_weaker (λ n. (n < shows_in steps) × (not (is_hidden_in steps n) ≡ true)) (IsShownIn steps)
    (λ n h. (h.0, not_true (is_hidden_in steps n) h.1)) (up_in steps)
    (filter_says (λ n. n < shows_in steps) (λ n. not (is_hidden_in steps n)) (upto (shows_in steps)) (below_upto (shows_in steps)))

pub mapped_all : {X : Type 0} (P : ℕ → Type 0) (f : X → ℕ) (xs : List X) → AllByRecursion P (map f xs) → AllByRecursion (λ x. P (f x)) xs
mapped_all P f [] a = tt
mapped_all P f (x ∷ xs) a = (a.0, mapped_all P f xs a.1)

-- ---- hides

pub shows_hides : (hs : List ℕ) (steps : List PairStep) → shows_in (onto (map hide_step hs) steps) ≡ shows_in steps
shows_hides [] steps = refl
shows_hides (h ∷ hs) steps = shows_hides hs (Hide h ∷ steps)

turned : (a b c : Bool) → (b || (a || c)) ≡ ((a || b) || c)
turned true true c = refl
turned true false c = refl
turned false b c = refl

pub hidden_hides : (hs : List ℕ) (steps : List PairStep) (n : ℕ)
    → is_hidden_in (onto (map hide_step hs) steps) n ≡ (has n hs || is_hidden_in steps n)
hidden_hides [] steps n = refl
hidden_hides (h ∷ hs) steps n = hidden_hides hs (Hide h ∷ steps) n ∙ turned (nat_eq h n) (has n hs) (is_hidden_in steps n)

pub traits_hides : (hs : List ℕ) (steps : List PairStep) (n : ℕ) → traits_in (onto (map hide_step hs) steps) n ≡ traits_in steps n
traits_hides [] steps n = refl
traits_hides (h ∷ hs) steps n = traits_hides hs (Hide h ∷ steps) n

pub up_hides : (hs : List ℕ) (steps : List PairStep) → up_in (onto (map hide_step hs) steps) ≡ filter (λ n. not (has n hs)) (up_in steps)
up_hides hs steps =
    ap (λ m. filter (λ n. not (is_hidden_in (onto (map hide_step hs) steps) n)) (upto m)) (shows_hides hs steps)
    ∙ filter_agree (λ n. not (is_hidden_in (onto (map hide_step hs) steps) n)) (λ n. not (has n hs || is_hidden_in steps n))
    (λ n. ap not (hidden_hides hs steps n)) (upto (shows_in steps))
    ∙ filter_twice (λ n. has n hs) (is_hidden_in steps) (upto (shows_in steps))

-- each may be made after the others, as they are of different periods
later_up : (h : ℕ) (steps : List PairStep) (hs : List ℕ) → IsNone h hs → AllByRecursion (IsShownIn steps) hs
    → AllByRecursion (IsShownIn (Hide h ∷ steps)) hs
later_up h steps [] a b = tt
later_up h steps (n ∷ hs) a b =
    let other : nat_eq h n ≡ false = ne_eqb h n (λ e. a.0 (sym e)) in
    ((b.0.0, rw other b.0.1), later_up h steps hs a.1 b.1)

pub meet_hides : (t : Terms) (least most : ℕ) (hs : List ℕ) (steps : List PairStep) → RiseTo least most hs
    → AllByRecursion (IsShownIn steps) hs → MeetEach t (map hide_step hs) steps
meet_hides t least most [] steps r a = tt
meet_hides t least most (h ∷ hs) steps r a = (
  up_to t steps h a.0.0 a.0.1,
  meet_hides t (h + 1) most hs (Hide h ∷ steps) r.2 (later_up h steps hs (none_less h (h + 1) most hs (omega arith) r.2) a.1),
)

-- ---- nears

pub shows_nears : (qs : List NearPeriod) (steps : List PairStep) → shows_in (onto (map near_step qs) steps) ≡ shows_in steps
shows_nears [] steps = refl
shows_nears (q ∷ qs) steps = shows_nears qs (Near q.n q.level ∷ steps)

pub hidden_nears : (qs : List NearPeriod) (steps : List PairStep) (n : ℕ)
    → is_hidden_in (onto (map near_step qs) steps) n ≡ is_hidden_in steps n
hidden_nears [] steps n = refl
hidden_nears (q ∷ qs) steps n = hidden_nears qs (Near q.n q.level ∷ steps) n

pub up_nears : (qs : List NearPeriod) (steps : List PairStep) → up_in (onto (map near_step qs) steps) ≡ up_in steps
up_nears [] steps = refl
up_nears (q ∷ qs) steps = up_nears qs (Near q.n q.level ∷ steps)

-- traits but for the level
abbrev pub AreSame : Traits → Traits → Type 0
AreSame x y = (x.kind ≡ y.kind) × (x.control ≡ y.control)

near_same : (q : NearPeriod) (steps : List PairStep) (n : ℕ) → AreSame (traits_in (Near q.n q.level ∷ steps) n) (traits_in steps n)
near_same q steps n = by (nat_eq q.n n)
  where
    by : (b : Bool) → AreSame (cond b (record (traits_in steps n) { level = q.level }) (traits_in steps n)) (traits_in steps n)
    by true = (refl, refl)
    by false = (refl, refl)

pub traits_nears : (qs : List NearPeriod) (steps : List PairStep) (n : ℕ)
    → AreSame (traits_in (onto (map near_step qs) steps) n) (traits_in steps n)
traits_nears [] steps n = (refl, refl)
traits_nears (q ∷ qs) steps n =
    let rest = traits_nears qs (Near q.n q.level ∷ steps) n in
    let here = near_same q steps n in
    (rest.0 ∙ here.0, rest.1 ∙ here.1)

pub record IsNearIn (steps : List PairStep) (q : NearPeriod) : Type 0 where
  pub shown : IsShownIn steps q.n
  pub level : q.level ≤ MAX_DISTANCE_LEVEL

nears_later : (q : NearPeriod) (steps : List PairStep) (qs : List NearPeriod) → AllByRecursion (IsNearIn steps) qs
    → AllByRecursion (IsNearIn (Near q.n q.level ∷ steps)) qs
nears_later q steps [] a = tt
nears_later q steps (p ∷ qs) a = (record { shown = a.0.shown; level = a.0.level }, nears_later q steps qs a.1)

pub meet_nears : (t : Terms) (qs : List NearPeriod) (steps : List PairStep) → AllByRecursion (IsNearIn steps) qs
    → MeetEach t (map near_step qs) steps
meet_nears t [] steps a = tt
meet_nears t (q ∷ qs) steps a = (
  record { up = up_to t steps q.n a.0.shown.0 a.0.shown.1; level = a.0.level },
  meet_nears t qs (Near q.n q.level ∷ steps) (nears_later q steps qs a.1),
)

-- ---- what holds of a client

-- these periods are shown of as many as were, and are of the world's objects
pub record Stands (w : Worlds) (c count : ℕ) (ps : List ShownPeriod) (k : Kept) : Type 0 where
  pub shown : AreShown count ps
  pub many : shows_in k.course.steps ≡ count
  pub up : up_in k.course.steps ≡ numbers ps
  pub later : (n : ℕ) → count ≤ n → is_hidden_in k.course.steps n ≡ false
  pub each : AllByRecursion (IsPeriodOf w c k) ps

pub numbers_shown : (w : Worlds) (c count : ℕ) (ps : List ShownPeriod) (k : Kept) → Stands w c count ps k
    → AllByRecursion (IsShownIn k.course.steps) (numbers ps)
numbers_shown w c count ps k st = subst (λ (ns : List ℕ). AllByRecursion (IsShownIn k.course.steps) ns) st.up (up_are_shown k.course.steps)

-- where nothing of the periods is another thing
pub same_periods : (w : Worlds) (c : ℕ) (k j : Kept) → ((n : ℕ) → traits_in j.course.steps n ≡ traits_in k.course.steps n)
    → ((n : ℕ) → j.values n ≡ k.values n) → (ps : List ShownPeriod)
    → AllByRecursion (IsPeriodOf w c k) ps → AllByRecursion (IsPeriodOf w c j) ps
same_periods w c k j f g [] a = tt
same_periods w c k j f g (p ∷ ps) a = (
  record {
    object = a.0.object;
    there = a.0.there;
    kind = ap (λ (x : Traits). x.kind) (f p.n) ∙ a.0.kind;
    control = ap (λ (x : Traits). x.control) (f p.n) ∙ a.0.control;
    values = g p.n ∙ a.0.values;
  },
  same_periods w c k j f g ps a.1,
)

pub same_stands : (w : Worlds) (c count : ℕ) (ps : List ShownPeriod) (k j : Kept) → shows_in j.course.steps ≡ shows_in k.course.steps
    → up_in j.course.steps ≡ up_in k.course.steps
    → ((n : ℕ) → is_hidden_in j.course.steps n ≡ is_hidden_in k.course.steps n)
    → ((n : ℕ) → traits_in j.course.steps n ≡ traits_in k.course.steps n) → ((n : ℕ) → j.values n ≡ k.values n)
    → Stands w c count ps k → Stands w c count ps j
same_stands w c count ps k j s u h f g st = record {
  shown = st.shown;
  many = s ∙ st.many;
  up = u ∙ st.up;
  later = λ n l. h n ∙ st.later n l;
  each = same_periods w c k j f g ps st.each;
}
