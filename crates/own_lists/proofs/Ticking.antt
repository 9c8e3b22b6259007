-- What a tick of a match adds to an own list may follow, and keeps what the list says of the world.
use Rattle.std.proofs.Common.{◌≡◌, ◌≢◌, ℕ, ◌+◌, ◌≤◌, Bool, true, false, cond, nat_eq, List, [], ◌∷◌, ◌++◌, length, Some, None, refl, sym, ap, ◌∙◌, arith}
use Rattle.std.specs.Prelude.{ℤ, slice_get, slice_set, is_some}
use Rattle.std.specs.List.{AllByRecursion, filter_map, cons_option}
use Rattle.std.proofs.lemmas.Bool.{ne_eqb, eqb-true, eq-eqb}
use Rattle.tn_types.specs.declared.moves.MoveBits.{MoveBits}
use Rattle.ghost_model.specs.Scope.{Traits}
use Rattle.pair_steps.specs.ghost_masks.Plan.{fields_of}
use Rattle.pair_steps.specs.pair_core.History.{PairStep}
use Rattle.match_script.specs.declared.types.Head.{Head}
use Rattle.world_rules.specs.declared.object.Object.{Object}
use Rattle.world_rules.specs.Kinds.{kind_of, match_kinds}
use Rattle.world_rules.specs.Identity.{Identity}
use Rattle.world_sim.specs.declared.rows.Write.{Write}
use Rattle.world_sim.specs.Worlds.{Worlds, IsWorld, next}
use Rattle.client_scope.specs.declared.period.ShownPeriod.{ShownPeriod}
use Rattle.pair_steps.specs.Steps.{shows_in, is_hidden_in, up_in, traits_in}
use Rattle.own_lists.specs.Own.{OwnWrite}
use Rattle.own_lists.specs.Course.{Course, waiting_in}
use Rattle.own_lists.specs.Kept.{Kept, wrote, wrote_all, after_tick}
use Rattle.own_lists.specs.Conditions.{IsOwnWrite, IsOwnTick}
use Rattle.own_lists.specs.Past.{Past, client_terms, kept_by, write_of, own_writes, moves_of, taken_from}
use Rattle.own_lists.specs.Agreement.{IsPeriodOf}
use Rattle.own_lists.proofs.ScanFacts.{RiseTo, numbers, all_on}
use Rattle.own_lists.proofs.ScanChanges.{later_differ}
use Rattle.own_lists.proofs.WorldFacts.{put_in, IsFieldWrite, tick_writes_fit, GoesOn, object_goes_on, same_player}
use Rattle.own_lists.proofs.Standing.{all_weaker, mapped_all, IsShownIn, Stands, numbers_shown}

-- ---- what own writes make of values

course_wrote : (ws : List OwnWrite) (k : Kept) → (wrote_all ws k).course ≡ k.course
course_wrote [] k = refl
course_wrote (w ∷ ws) k = course_wrote ws (wrote w k)

-- the values of a period with the writes to it put in
abbrev own_put : ℕ → List OwnWrite → List ℤ → List ℤ
own_put n [] values = values
own_put n (w ∷ ws) values = own_put n ws (cond (nat_eq n w.n) (slice_set values w.field w.value) values)

values_wrote : (ws : List OwnWrite) (k : Kept) (n : ℕ) → (wrote_all ws k).values n ≡ own_put n ws (k.values n)
values_wrote [] k n = refl
values_wrote (w ∷ ws) k n = values_wrote ws (wrote w k) n ∙ ap (own_put n ws) (by (nat_eq n w.n) refl)
  where
    by : (b : Bool) → nat_eq n w.n ≡ b
        → cond b (slice_set (k.values w.n) w.field w.value) (k.values n) ≡ cond b (slice_set (k.values n) w.field w.value) (k.values n)
    by true e = ap (λ m. slice_set (k.values m) w.field w.value) (sym (eqb-true n w.n e))
    by false e = refl

own_on : (n : ℕ) (xs ys : List OwnWrite) (values : List ℤ) → own_put n (xs ++ ys) values ≡ own_put n ys (own_put n xs values)
own_on n [] ys values = refl
own_on n (x ∷ xs) ys values = own_on n xs ys _

own_none : (n : ℕ) (ws : List OwnWrite) (values : List ℤ) → AllByRecursion (λ (w : OwnWrite). n ≢ w.n) ws → own_put n ws values ≡ values
own_none n [] values a = refl
own_none n (w ∷ ws) values a = let t : nat_eq n w.n ≡ false = ne_eqb n w.n a.0 in rw t (own_none n ws values a.1)

-- ---- the writes to one period

own_by : (P : OwnWrite → Type 0) (p : ShownPeriod) (ws : List Write)
    → AllByRecursion (λ (w : Write). nat_eq w.object p.object ≡ true → P (record { n = p.n; field = w.field; value = w.value })) ws
    → AllByRecursion P (filter_map (write_of p) ws)
own_by P p [] a = tt
own_by P p (w ∷ ws) a = by (nat_eq w.object p.object) refl (own_by P p ws a.1)
  where
    by : (b : Bool) → nat_eq w.object p.object ≡ b → AllByRecursion P (filter_map (write_of p) ws)
        → AllByRecursion P (cons_option (cond b (Some (record { n = p.n; field = w.field; value = w.value })) None)
        (filter_map (write_of p) ws))
    by true e r = (a.0 e, r)
    by false e r = r

any_write : (P : Write → Type 0) → ((w : Write) → P w) → (ws : List Write) → AllByRecursion P ws
any_write P f [] = tt
any_write P f (w ∷ ws) = (f w, any_write P f ws)

own_numbers : (P : ℕ → Type 0) (p : ShownPeriod) (ws : List Write) → P p.n
    → AllByRecursion (λ (w : OwnWrite). P w.n) (filter_map (write_of p) ws)
own_numbers P p ws h =
    own_by (λ (w : OwnWrite). P w.n) p ws (any_write (λ (w : Write). nat_eq w.object p.object ≡ true → P p.n) (λ w e. h) ws)

one_put : (p : ShownPeriod) (ws : List Write) (values : List ℤ)
    → own_put p.n (filter_map (write_of p) ws) values ≡ put_in p.object ws values
one_put p [] values = refl
one_put p (w ∷ ws) values = by (one_put p ws) (nat_eq w.object p.object)
  where
    by : ((vs : List ℤ) → own_put p.n (filter_map (write_of p) ws) vs ≡ put_in p.object ws vs) → (b : Bool)
        → own_put p.n (cons_option (cond b (Some (record { n = p.n; field = w.field; value = w.value })) None) (filter_map (write_of p) ws))
        values ≡ put_in p.object ws (cond b (slice_set values w.field w.value) values)
    by h true =
        let t : nat_eq p.n p.n ≡ true = eq-eqb p.n p.n refl in
        ap (λ b. own_put p.n (filter_map (write_of p) ws) (cond b (slice_set values w.field w.value) values)) t
        ∙ h (slice_set values w.field w.value)
    by h false = h values

-- ---- the writes to all periods

own_each : (P : OwnWrite → Type 0) (w : Worlds) (ps : List ShownPeriod)
    → AllByRecursion (λ (p : ShownPeriod). AllByRecursion P (filter_map (write_of p) w.writes)) ps → AllByRecursion P (own_writes w ps)
own_each P w [] a = tt
own_each P w (p ∷ ps) a = all_on P (filter_map (write_of p) w.writes) (own_writes w ps) a.0 (own_each P w ps a.1)

later_writes : (n : ℕ) (w : Worlds) (ps : List ShownPeriod) → AllByRecursion (λ (p : ShownPeriod). n ≢ p.n) ps
    → AllByRecursion (λ (x : OwnWrite). n ≢ x.n) (own_writes w ps)
later_writes n w ps a =
    own_each (λ (x : OwnWrite). n ≢ x.n) w ps
    (all_weaker (λ (p : ShownPeriod). n ≢ p.n)
    (λ (p : ShownPeriod). AllByRecursion (λ (x : OwnWrite). n ≢ x.n) (filter_map (write_of p) w.writes))
    (λ p h. own_numbers (λ m. n ≢ m) p w.writes h) ps a)

-- each period's values become what the world's writes make of them
abbrev IsPut : Worlds → List OwnWrite → ShownPeriod → Type 0
IsPut w ws p = (values : List ℤ) → own_put p.n ws values ≡ put_in p.object w.writes values

behind : (w : Worlds) (p : ShownPeriod) (rest : List OwnWrite) (ps : List ShownPeriod) → AllByRecursion (λ (q : ShownPeriod). p.n ≢ q.n) ps
    → AllByRecursion (IsPut w rest) ps
    → AllByRecursion (IsPut w (filter_map (write_of p) w.writes ++ rest)) ps
behind w p rest [] a b = tt
behind w p rest (q ∷ ps) a b =
    let first = filter_map (write_of p) w.writes in
    let none = own_numbers (λ m. q.n ≢ m) p w.writes (λ e. a.0 (sym e)) in (
      λ values. own_on q.n first rest values ∙ ap (own_put q.n rest) (own_none q.n first values none)
          ∙ b.0 values,
      behind w p rest ps a.1 b.1,
    )

own_all : (w : Worlds) (least most : ℕ) (ps : List ShownPeriod) → RiseTo least most (numbers ps)
    → AllByRecursion (IsPut w (own_writes w ps)) ps
own_all w least most [] r = tt
own_all w least most (p ∷ ps) r =
    let first = filter_map (write_of p) w.writes in
    let rest = own_writes w ps in
    let differ = later_differ p.n (p.n + 1) most ps (omega arith) r.2 in
    let none = later_writes p.n w ps differ in (
      λ values. own_on p.n first rest values ∙ own_none p.n rest (own_put p.n first values) none
          ∙ one_put p w.writes values,
      behind w p rest ps differ (own_all w (p.n + 1) most ps r.2),
    )

-- ---- a tick

moved_periods : (w now : Worlds) (c : ℕ) (k j : Kept) (ws : List OwnWrite)
    → ((n : ℕ) → traits_in j.course.steps n ≡ traits_in k.course.steps n) → ((n : ℕ) → j.values n ≡ own_put n ws (k.values n))
    → ((n : ℕ) (o : Object) → slice_get w.objects n ≡ Some o → GoesOn w now n o) → (ps : List ShownPeriod)
    → AllByRecursion (IsPut now ws) ps → AllByRecursion (IsPeriodOf w c k) ps → AllByRecursion (IsPeriodOf now c j) ps
moved_periods w now c k j ws f g go [] b a = tt
moved_periods w now c k j ws f g go (p ∷ ps) b a =
    let to : GoesOn w now p.object a.0.object = go p.object a.0.object a.0.there in (
      record {
        object = to.object;
        there = to.there;
        kind = ap (λ (x : Traits). x.kind) (f p.n) ∙ a.0.kind ∙ sym (ap (λ (i : Identity). i.kind) to.same);
        control = ap (λ (x : Traits). x.control) (f p.n) ∙ a.0.control ∙ sym (same_player c to.object a.0.object to.same);
        values = g p.n ∙ b.0 (k.values p.n) ∙ ap (put_in p.object now.writes) a.0.values ∙ to.values;
      },
      moved_periods w now c k j ws f g go ps b.1 a.1,
    )

period_writes : (head : Head) (w : Worlds) (c : ℕ) (k : Kept) (ws : List Write) (p : ShownPeriod) → IsShownIn k.course.steps p.n
    → IsPeriodOf w c k p
    → AllByRecursion (λ (x : Write). (o : Object) → slice_get w.objects x.object ≡ Some o → IsFieldWrite (kind_of o.state) x) ws
    → AllByRecursion (IsOwnWrite (client_terms head c) k.course.steps) (filter_map (write_of p) ws)
period_writes head w c k ws p up of fit =
    own_by (IsOwnWrite (client_terms head c) k.course.steps) p ws
    (all_weaker (λ (x : Write). (o : Object) → slice_get w.objects x.object ≡ Some o → IsFieldWrite (kind_of o.state) x)
    (λ (x : Write). nat_eq x.object p.object ≡ true
    → IsOwnWrite (client_terms head c) k.course.steps (record { n = p.n; field = x.field; value = x.value }))
    (λ x f e.
    let same : x.object ≡ p.object = eqb-true x.object p.object e in
    let is : IsFieldWrite (kind_of of.object.state) x = f of.object (ap (slice_get w.objects) same ∙ of.there) in
    record {
      shown = up.0;
      up = up.1;
      spec = is.spec;
      field = ap (λ kind. slice_get (fields_of match_kinds kind) x.field) of.kind ∙ is.field;
      least = is.least;
      most = is.most;
    }) ws fit)

all_writes : (head : Head) (w : Worlds) (c : ℕ) (k : Kept) (ws : List Write)
    → AllByRecursion (λ (x : Write). (o : Object) → slice_get w.objects x.object ≡ Some o → IsFieldWrite (kind_of o.state) x) ws
    → (ps : List ShownPeriod)
    → AllByRecursion (λ (p : ShownPeriod). IsShownIn k.course.steps p.n) ps → AllByRecursion (IsPeriodOf w c k) ps
    → AllByRecursion (λ (p : ShownPeriod). AllByRecursion (IsOwnWrite (client_terms head c) k.course.steps) (filter_map (write_of p) ws)) ps
all_writes head w c k ws fit [] b a = tt
all_writes head w c k ws fit (p ∷ ps) b a = (period_writes head w c k ws p b.0 a.0 fit, all_writes head w c k ws fit ps b.1 a.1)

-- a tick takes a move where one waits
taken_one : (moves : List MoveBits) → cond (is_some (slice_get moves 0)) 1 0 ≤ 1
taken_one [] = omega arith
taken_one (m ∷ moves) = omega arith

taken_waits : (moves : List MoveBits) → cond (is_some (slice_get moves 0)) 1 0 ≤ length moves
taken_waits [] = omega arith
taken_waits (m ∷ moves) = omega arith

pub record IsTicked (head : Head) (p : Past) (c count : ℕ) (ps : List ShownPeriod) (now : Worlds) : Type 0 where
  pub follows : IsOwnTick (client_terms head c) (kept_by head p c) (own_writes now ps) (taken_from head p c)
  pub stands : Stands now c count ps (after_tick (own_writes now ps) (taken_from head p c) (kept_by head p c))

pub tick_stands : (head : Head) (p : Past) (c count : ℕ) (ps : List ShownPeriod) → IsWorld p.world
    → Stands p.world c count ps (kept_by head p c) → IsTicked head p c count ps (next p.world (moves_of head p))
tick_stands head p c count ps world st =
    let w = p.world in
    let now = next w (moves_of head p) in
    let t = client_terms head c in
    let k = kept_by head p c in
    let ws = own_writes now ps in
    let fit = tick_writes_fit w (moves_of head p) world in
    let up = mapped_all (IsShownIn k.course.steps) (λ (q : ShownPeriod). q.n) ps (numbers_shown w c count ps k st) in
    let j = after_tick ws (taken_from head p c) k in
    let same : j.course.steps ≡ k.course.steps = ap (λ (x : Course). x.steps) (course_wrote ws k) in
    record {
      follows = record {
        of_periods = own_each (IsOwnWrite t k.course.steps) now ps (all_writes head w c k now.writes fit ps up st.each);
        one = taken_one (waiting_in t k.course);
        waits = taken_waits (waiting_in t k.course);
      };
      stands = record {
        shown = st.shown;
        many = ap shows_in same ∙ st.many;
        up = ap up_in same ∙ st.up;
        later = λ n l. ap (λ (steps : List PairStep). is_hidden_in steps n) same ∙ st.later n l;
        each = moved_periods w now c k j ws (λ n. ap (λ (steps : List PairStep). traits_in steps n) same) (values_wrote ws k)
            (λ n o at. object_goes_on w (moves_of head p) n o world at) ps (own_all now 0 count ps st.shown.rising) st.each;
      };
    }
