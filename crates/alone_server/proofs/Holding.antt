-- What is held of the shown periods is what the own list left of them, after each step.
use Rattle.std.proofs.Common.{◌≡◌, ◌≢◌, ◌∙◌, ℕ, zero, suc, ◌+◌, ◌<◌, ◌≤◌, ◌==◌, ◌||◌, Bool, true, false, not, cond, List, [], ◌∷◌, ◌++◌, length, map, filter, get_or, set, Some, refl, sym, ap, subst, arith}
use Rattle.std.specs.Prelude.{ℤ, bit_or, ◌^◌, slice_get, slice_set}
use Rattle.std.specs.List.{AllByRecursion}
use Rattle.std.proofs.lemmas.Bool.{eqb-true, eq-eqb, ne_eqb, or_from}
use Rattle.std.proofs.lemmas.List.Elements.{filter-append}
use Rattle.std.proofs.Math.ListN.{length-set}
use Rattle.ghost_model.specs.Words.{upto}
use Rattle.ghost_model.specs.Scope.{Traits}
use Rattle.client_scope.specs.declared.period.Near.{Near as NearPeriod}
use Rattle.pair_core.specs.History.{PairStep, Show}
use Rattle.pair_steps.specs.Steps.{shows_in, is_hidden_in, up_in, traits_in}
use Rattle.own_lists.specs.Own.{OwnShow, OwnWrite}
use Rattle.own_lists.specs.Course.{Course, onto, hide_step, near_step, scan_steps, with_steps}
use Rattle.own_lists.specs.Kept.{Kept, begins, all_begin, wrote, wrote_all, with_course, undrained}
use Rattle.own_items.proofs.Below.match_engine.Rising.{in_turn, has_up}
use Rattle.own_lists.proofs.ScanFacts.{RiseTo, below_rising}
use Rattle.own_lists.proofs.ScanChanges.{has, has_not}
use Rattle.own_lists.proofs.Standing.{onto_on, shows_hides, hidden_hides, traits_hides, up_hides, shows_nears, hidden_nears, up_nears, traits_nears, all_weaker}
use Rattle.alone_server.specs.declared.periods.OwnPeriod.{OwnPeriod}
use Rattle.alone_server.specs.Periods.{numbers, Rise, period_in, HasField, is_among, drain_of, unwritten, Table, IsHeld, Holds, MayWrite}
use Rattle.alone_server.proofs.Numbers.{up_rises}

-- the numbers rise
pub holds_rise : (x : Table) (k : Kept) → Holds x k → RiseTo 0 x.shows (numbers x.periods)
holds_rise x k h = rw (h.numbers, h.shows) (up_rises k.course.steps)

pub holds_rising : (x : Table) (k : Kept) → Holds x k → Rise x.periods
holds_rising x k h = in_turn (λ (p : OwnPeriod). p.n) 0 x.shows x.periods (holds_rise x k h)

-- where nothing that is held of periods is another thing
pub held_same : (k j : Kept) → ((n : ℕ) → (traits_in j.course.steps n).kind ≡ (traits_in k.course.steps n).kind)
    → ((n : ℕ) → j.values n ≡ k.values n) → ((n : ℕ) → j.written n ≡ k.written n)
    → (ps : List OwnPeriod) → AllByRecursion (IsHeld k) ps → AllByRecursion (IsHeld j) ps
held_same k j kinds values written [] h = tt
held_same k j kinds values written (p ∷ ps) h = (
  record { kind = h.0.kind ∙ sym (kinds p.n); values = h.0.values ∙ sym (values p.n); written = h.0.written ∙ sym (written p.n) },
  held_same k j kinds values written ps h.1,
)

-- ---- steps that begin and end no period

-- the course says the same of periods
pub record SaysSame (old new : Course) : Type 0 where
  pub shows : shows_in new.steps ≡ shows_in old.steps
  pub hidden : (n : ℕ) → is_hidden_in new.steps n ≡ is_hidden_in old.steps n
  pub up : up_in new.steps ≡ up_in old.steps
  pub kinds : (n : ℕ) → (traits_in new.steps n).kind ≡ (traits_in old.steps n).kind

pub holds_same : (x : Table) (k : Kept) (course : Course) → SaysSame k.course course → Holds x k → Holds x (with_course course k)
holds_same x k course same h = record {
  shows = h.shows ∙ sym same.shows;
  few = h.few;
  numbers = h.numbers ∙ sym same.up;
  each = held_same k (with_course course k) same.kinds (λ n. refl) (λ n. refl) x.periods h.each;
  fresh = λ n le. same.hidden n ∙ h.fresh n le;
}

-- ---- a scan

all_filtered : (P : OwnPeriod → Type 0) (b : OwnPeriod → Bool) (ps : List OwnPeriod) → AllByRecursion P ps → AllByRecursion P (filter b ps)
all_filtered P b [] h = tt
all_filtered P b (p ∷ ps) h = go (all_filtered P b ps h.1) (b p)
  where
    go : AllByRecursion P (filter b ps) → (c : Bool) → AllByRecursion P (cond c (p ∷ filter b ps) (filter b ps))
    go rest true = (h.0, rest)
    go rest false = rest

numbers_filtered : (b : ℕ → Bool) (ps : List OwnPeriod) → numbers (filter (λ p. b p.n) ps) ≡ filter b (numbers ps)
numbers_filtered b [] = refl
numbers_filtered b (p ∷ ps) = go (b p.n) (numbers_filtered b ps)
  where
    go : (c : Bool) → numbers (filter (λ q. b q.n) ps) ≡ filter b (numbers ps)
        → numbers (cond c (p ∷ filter (λ q. b q.n) ps) (filter (λ q. b q.n) ps)) ≡ cond c (p.n ∷ filter b (numbers ps)) (filter b (numbers ps))
    go true e = ap (λ ns. p.n ∷ ns) e
    go false e = e

-- the numbers that are left, where these end and those are at other levels
module _ (x : Table) (k : Kept) (h : Holds x k) (hides : List ℕ) (nears : List NearPeriod) (shown : AllByRecursion (λ n. n < x.shows) hides) where
  abbrev pub changed : Course
  changed = with_steps (scan_steps hides nears []) k.course

  abbrev hid : List PairStep
  hid = onto (map hide_step hides) k.course.steps

  steps_are : changed.steps ≡ onto (map near_step nears) hid
  steps_are =
      onto_on (map hide_step hides) (map near_step nears ++ []) k.course.steps
      ∙ onto_on (map near_step nears) [] hid

  kinds_stay : (n : ℕ) → (traits_in changed.steps n).kind ≡ (traits_in k.course.steps n).kind
  kinds_stay n =
      ap (λ (ss : List PairStep). (traits_in ss n).kind) steps_are ∙ (traits_nears nears hid n).0
      ∙ ap (λ (t : Traits). t.kind) (traits_hides hides k.course.steps n)

  pub holds_changed : Holds (record { shows = x.shows; periods = filter (λ p. not (is_among p.n hides)) x.periods }) (with_course changed k)
  holds_changed = record {
    shows = h.shows ∙ sym (ap shows_in steps_are ∙ shows_nears nears hid ∙ shows_hides hides k.course.steps);
    few = h.few;
    numbers =
        numbers_filtered (λ n. not (is_among n hides)) x.periods ∙ ap (filter (λ n. not (is_among n hides))) h.numbers
        ∙ sym (ap up_in steps_are ∙ up_nears nears hid ∙ up_hides hides k.course.steps);
    each = all_filtered (IsHeld (with_course changed k)) (λ p. not (is_among p.n hides)) x.periods
        (held_same k (with_course changed k) kinds_stay (λ n. refl) (λ n. refl) x.periods h.each);
    fresh = λ n le.
        let none : has n hides ≡ false =
        has_not n hides (all_weaker (λ m. m < x.shows) (λ m. m ≢ n) (λ m s q. absurd (omega (arith, le, s, q))) hides shown) in
        ap (λ (ss : List PairStep). is_hidden_in ss n) steps_are ∙ hidden_nears nears hid n ∙ hidden_hides hides k.course.steps n
        ∙ or_from (has n hides) (is_hidden_in k.course.steps n) none (h.fresh n le);
  }

-- one more is up
up_begun : (kind block level : ℕ) (control : Bool) (steps : List PairStep) (count : ℕ) → shows_in steps ≡ count
    → is_hidden_in steps count ≡ false
    → up_in (Show kind block level control ∷ steps) ≡ up_in steps ++ count ∷ []
unfolding upto
up_begun kind block level control steps count e h =
    let f : ℕ → Bool = λ n. not (is_hidden_in steps n) in
    let last : filter f (shows_in steps ∷ []) ≡ count ∷ [] = rw (e, h) refl in
    let next : shows_in steps + 1 ≡ suc (shows_in steps) = omega arith in
    ap (λ m. filter f (upto m)) next ∙ filter-append f (upto (shows_in steps)) (shows_in steps ∷ [])
    ∙ ap (λ (ns : List ℕ). up_in steps ++ ns) last

numbers_on : (ps qs : List OwnPeriod) → numbers (ps ++ qs) ≡ numbers ps ++ numbers qs
numbers_on [] qs = refl
numbers_on (p ∷ ps) qs = ap (λ ns. p.n ∷ ns) (numbers_on ps qs)

all_on : (P : OwnPeriod → Type 0) (ps qs : List OwnPeriod) → AllByRecursion P ps → AllByRecursion P qs → AllByRecursion P (ps ++ qs)
all_on P [] qs h k = k
all_on P (p ∷ ps) qs h k = (h.0, all_on P ps qs h.1 k)

below_all : (most : ℕ) (ps : List OwnPeriod) → AllByRecursion (λ n. n < most) (numbers ps) → AllByRecursion (λ p. p.n < most) ps
below_all most [] h = tt
below_all most (p ∷ ps) h = (h.0, below_all most ps h.1)

module _ (x : Table) (k : Kept) (h : Holds x k) (s : OwnShow) where
  abbrev count : ℕ
  count = shows_in k.course.steps

  earlier : (ps : List OwnPeriod) → AllByRecursion (λ p. p.n < x.shows) ps → AllByRecursion (IsHeld k) ps → AllByRecursion (IsHeld (begins s k)) ps
  earlier [] lt held = tt
  earlier (p ∷ ps) lt held =
      let first = lt.0 in
      let no : (p.n == count) ≡ false = ne_eqb p.n count (λ e. absurd (omega (arith, first, e, h.shows))) in (
        record {
          kind = held.0.kind ∙ sym (ap (λ (b : Bool). (cond b (record { kind = s.how.kind; block = s.how.block; level = s.how.level; control = s.how.control }) (traits_in k.course.steps p.n)).kind) no);
          values = held.0.values ∙ sym (ap (λ (b : Bool). cond b s.values (k.values p.n)) no);
          written = held.0.written ∙ sym (ap (λ (b : Bool). cond b 0 (k.written p.n)) no);
        },
        earlier ps lt.1 held.1,
      )

  pub holds_begun : (p : OwnPeriod) → p.n ≡ x.shows → p.kind ≡ s.how.kind → p.values.items ≡ s.values → p.written ≡ 0 → x.shows < 4294967295
      → Holds (record { shows = x.shows + 1; periods = x.periods ++ p ∷ [] }) (begins s k)
  holds_begun p number kind values written few =
      let at : p.n ≡ count = number ∙ h.shows in
      let yes : (p.n == count) ≡ true = eq-eqb p.n count at in
      record {
        shows = ap (λ n. n + 1) h.shows;
        few = omega (arith, few);
        numbers = numbers_on x.periods (p ∷ []) ∙ ap (λ (z : List ℕ × ℕ). z.0 ++ z.1 ∷ []) (λ j. (h.numbers j, at j))
            ∙ sym (up_begun s.how.kind s.how.block s.how.level s.how.control k.course.steps count refl (h.fresh count (omega (arith, h.shows))));
        each = all_on (IsHeld (begins s k)) x.periods (p ∷ [])
            (earlier x.periods (below_all x.shows x.periods (below_rising 0 x.shows (numbers x.periods) (holds_rise x k h))) h.each) (
              record {
                kind = kind ∙ sym (ap (λ (b : Bool). (cond b (record { kind = s.how.kind; block = s.how.block; level = s.how.level; control = s.how.control }) (traits_in k.course.steps p.n)).kind) yes);
                values = values ∙ sym (ap (λ (b : Bool). cond b s.values (k.values p.n)) yes);
                written = written ∙ sym (ap (λ (b : Bool). cond b 0 (k.written p.n)) yes);
              },
              tt,
            );
        fresh = λ n le. h.fresh n (omega (arith, le));
      }

-- ---- writes

-- one period of these is another one, of the same number
module _ (x : Table) (k : Kept) (h : Holds x k) (w : OwnWrite) (at : ℕ) (old new : OwnPeriod)
    (is_old : slice_get x.periods at ≡ Some old) (number : old.n ≡ w.n) (same_number : new.n ≡ old.n) (same_kind : new.kind ≡ old.kind)
    (values : new.values.items ≡ slice_set old.values.items w.field w.value) (written : new.written ≡ bit_or old.written (2 ^ w.field)) where
  same_numbers : (ps : List OwnPeriod) (i : ℕ) → slice_get ps i ≡ Some old → numbers (set ps i new) ≡ numbers ps
  same_numbers [] i e = refl
  same_numbers (p ∷ ps) zero e = let same : p ≡ old = cc in ap (λ n. n ∷ numbers ps) (same_number ∙ sym (ap (λ (q : OwnPeriod). q.n) same))
  same_numbers (p ∷ ps) (suc i) e = ap (λ ns. p.n ∷ ns) (same_numbers ps i e)

  others : (ps : List OwnPeriod) → AllByRecursion (λ p. p.n ≢ w.n) ps → AllByRecursion (IsHeld k) ps → AllByRecursion (IsHeld (wrote w k)) ps
  others [] apart held = tt
  others (p ∷ ps) apart held =
      let no : (p.n == w.n) ≡ false = ne_eqb p.n w.n apart.0 in (
        record {
          kind = held.0.kind;
          values = held.0.values ∙ sym (ap (λ (b : Bool). cond b (slice_set (k.values w.n) w.field w.value) (k.values p.n)) no);
          written = held.0.written ∙ sym (ap (λ (b : Bool). cond b (bit_or (k.written w.n) (2 ^ w.field)) (k.written p.n)) no);
        },
        others ps apart.1 held.1,
      )

  this : IsHeld k old → IsHeld (wrote w k) new
  this held =
      let at_w : new.n ≡ w.n = same_number ∙ number in
      let yes : (new.n == w.n) ≡ true = eq-eqb new.n w.n at_w in
      record {
        kind = same_kind ∙ held.kind ∙ ap (λ n. (traits_in k.course.steps n).kind) (sym same_number);
        values = values ∙ ap (λ vs. slice_set vs w.field w.value) (held.values ∙ ap k.values number)
            ∙ sym (ap (λ (b : Bool). cond b (slice_set (k.values w.n) w.field w.value) (k.values new.n)) yes);
        written = written ∙ ap (λ bits. bit_or bits (2 ^ w.field)) (held.written ∙ ap k.written number)
            ∙ sym (ap (λ (b : Bool). cond b (bit_or (k.written w.n) (2 ^ w.field)) (k.written new.n)) yes);
      }

  apart_later : (least most : ℕ) (ps : List OwnPeriod) → w.n < least → RiseTo least most (numbers ps) → AllByRecursion (λ p. p.n ≢ w.n) ps
  apart_later least most [] lt r = tt
  apart_later least most (p ∷ ps) lt r = (λ e. absurd (omega (arith, lt, r.0, e)), apart_later (p.n + 1) most ps (omega (arith, lt, r.0)) r.2)

  later_old : (least most : ℕ) (ps : List OwnPeriod) (i : ℕ) → slice_get ps i ≡ Some old → RiseTo least most (numbers ps) → least ≤ old.n
  later_old least most [] i e r = absurd (cc)
  later_old least most (p ∷ ps) zero e r = let same : p ≡ old = cc in (let n = ap (λ (q : OwnPeriod). q.n) same in omega (arith, r.0, n))
  later_old least most (p ∷ ps) (suc i) e r = (let rest = later_old (p.n + 1) most ps i e r.2 in omega (arith, r.0, rest))

  each_held : (least most : ℕ) (ps : List OwnPeriod) (i : ℕ) → slice_get ps i ≡ Some old → RiseTo least most (numbers ps) → AllByRecursion (IsHeld k) ps
      → AllByRecursion (IsHeld (wrote w k)) (set ps i new)
  each_held least most [] i e r held = tt
  each_held least most (p ∷ ps) zero e r held =
      let same : p ≡ old = cc in
      let n = ap (λ (q : OwnPeriod). q.n) same in
      (this (subst (IsHeld k) same held.0), others ps (apart_later (p.n + 1) most ps (omega (arith, n, number)) r.2) held.1)
  each_held least most (p ∷ ps) (suc i) e r held =
      let rest = later_old (p.n + 1) most ps i e r.2 in
      let no : (p.n == w.n) ≡ false = ne_eqb p.n w.n (λ e. absurd (omega (arith, rest, number, e))) in (
        (others (p ∷ []) (λ e. absurd (omega (arith, rest, number, e)), tt) (held.0, tt)).0,
        each_held (p.n + 1) most ps i e r.2 held.1,
      )

  pub holds_wrote : Holds (record { shows = x.shows; periods = set x.periods at new }) (wrote w k)
  holds_wrote = record {
    shows = h.shows;
    few = h.few;
    numbers = same_numbers x.periods at is_old ∙ h.numbers;
    each = each_held 0 x.shows x.periods at is_old (holds_rise x k h) h.each;
    fresh = h.fresh;
  }

-- what is held of a period that is up
pub held_in : (k : Kept) (ps : List OwnPeriod) (n : ℕ) → AllByRecursion (IsHeld k) ps → has n (numbers ps) ≡ true
    → (p : OwnPeriod) × (period_in ps n ≡ Some p) × (p.n ≡ n) × IsHeld k p
held_in k [] n each h = absurd (cc)
held_in k (q ∷ ps) n each h = go (λ rest. held_in k ps n each.1 rest) (q.n == n) refl h
  where
    go : (has n (numbers ps) ≡ true → (p : OwnPeriod) × (period_in ps n ≡ Some p) × (p.n ≡ n) × IsHeld k p) → (b : Bool) → (q.n == n) ≡ b → (b || has n (numbers ps)) ≡ true → (p : OwnPeriod) × (cond b (Some q) (period_in ps n) ≡ Some p) × (p.n ≡ n) × IsHeld k p
    go more true e f = (q, refl, eqb-true q.n n e, each.0)
    go more false e f = more f

-- ---- lists of writes and of shows

pub wrote_on : (xs : List OwnWrite) (w : OwnWrite) (k : Kept) → wrote_all (xs ++ w ∷ []) k ≡ wrote w (wrote_all xs k)
wrote_on [] w k = refl
wrote_on (x ∷ xs) w k = wrote_on xs w (wrote x k)

pub begin_on : (xs : List OwnShow) (s : OwnShow) (k : Kept) → all_begin (xs ++ s ∷ []) k ≡ begins s (all_begin xs k)
begin_on [] s k = refl
begin_on (x ∷ xs) s k = begin_on xs s (begins x k)

pub each_of : {X : Type 0} (P : X → Type 0) (xs : List X) (i : ℕ) (d : X) → AllByRecursion P xs → i < length xs → P (get_or xs i d)
each_of P [] i d h lt = absurd (omega (arith, lt))
each_of P (x ∷ xs) zero d h lt = h.0
each_of P (x ∷ xs) (suc i) d h lt = each_of P xs i d h.1 (omega (arith, lt))

as_long : (w : OwnWrite) (k : Kept) (n : ℕ) → length ((wrote w k).values n) ≡ length (k.values n)
as_long w k n = go (n == w.n) refl
  where
    go : (b : Bool) → (n == w.n) ≡ b → length (cond b (slice_set (k.values w.n) w.field w.value) (k.values n)) ≡ length (k.values n)
    go true e = length-set (k.values w.n) w.field w.value ∙ ap (λ m. length (k.values m)) (sym (eqb-true n w.n e))
    go false e = refl

-- a write may be made after others
pub may_later : (xs : List OwnWrite) (k : Kept) (w : OwnWrite) → MayWrite k w → MayWrite (wrote_all xs k) w
may_later [] k w may = may
may_later (x ∷ xs) k w may =
    may_later xs (wrote x k) w (record { shown = may.shown; up = may.up; value = (let long = as_long x k w.n in let v = may.value in omega (arith, long, v)) })

pub has_field : (x : Table) (k : Kept) (w : OwnWrite) → Holds x k → MayWrite k w → HasField x.periods w.n w.field
has_field x k w h may =
    let among : has w.n (numbers x.periods) ≡ true = ap (has w.n) h.numbers ∙ has_up k.course.steps w.n may.shown may.up in
    let p = held_in k x.periods w.n h.each among in
    let values : p.0.values.items ≡ k.values w.n = p.3.values ∙ ap k.values p.2 in
    record { period = p.0; found = p.1; value = subst (λ (vs : List ℤ). w.field < length vs) (sym values) may.value }

-- ---- drains

pub drains_are : (k : Kept) (ps : List OwnPeriod) → AllByRecursion (IsHeld k) ps → map drain_of ps ≡ map (λ n. record { n = n; bits = k.written n }) (numbers ps)
drains_are k [] h = refl
drains_are k (p ∷ ps) h = λ j. record { n = p.n; bits = h.0.written j } ∷ drains_are k ps h.1 j

pub undrained_is : (x : Table) (k : Kept) → Holds x k → map drain_of x.periods ≡ undrained k
undrained_is x k h = drains_are k x.periods h.each ∙ ap (map (λ n. record { n = n; bits = k.written n })) h.numbers

-- nothing is left as written
abbrev pub drained_all : Kept → Kept
drained_all k = record { course = k.course; values = k.values; written = λ n. 0 }

held_unwritten : (k : Kept) (ps : List OwnPeriod) → AllByRecursion (IsHeld k) ps → AllByRecursion (IsHeld (drained_all k)) (map unwritten ps)
held_unwritten k [] h = tt
held_unwritten k (p ∷ ps) h = (record { kind = h.0.kind; values = h.0.values; written = refl }, held_unwritten k ps h.1)

same_when_unwritten : (ps : List OwnPeriod) → numbers (map unwritten ps) ≡ numbers ps
same_when_unwritten [] = refl
same_when_unwritten (p ∷ ps) = ap (λ ns. p.n ∷ ns) (same_when_unwritten ps)

pub holds_drained : (x : Table) (k : Kept) → Holds x k → Holds (record { shows = x.shows; periods = map unwritten x.periods }) (drained_all k)
holds_drained x k h = record {
  shows = h.shows;
  few = h.few;
  numbers = same_when_unwritten x.periods ∙ h.numbers;
  each = held_unwritten k x.periods h.each;
  fresh = h.fresh;
}
