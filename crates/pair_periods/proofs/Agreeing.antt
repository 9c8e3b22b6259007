-- Each step keeps the agreement of a list of periods with the steps: a show adds one, a hide takes one from those that are up, and
-- no other step changes any.
use Rattle.std.proofs.Common.{◌≡◌, ⊎_elim, ℕ, zero, suc, ◌<◌, ◌==◌, ◌||◌, ◌&&◌, Bool, true, false, not, cond, List, [], ◌∷◌, ◌++◌, length, filter, Option, Some, None, refl, sym, ap, ◌∙◌, subst, arith, length-append}
use Rattle.std.specs.Prelude.{slice_get, slice_index, option_map}
use Rattle.std.specs.Option.{option_and_then}
use Rattle.std.proofs.lemmas.Bool.{eqb-true, eq-eqb, ne_eqb, cases_eq, lt-ltb}
use Rattle.std.proofs.lemmas.List.Elements.{filter_agree}
use Rattle.std.proofs.lemmas.List.Folds.{list_any-append}
use Rattle.quantised_fields.specs.declared.field.FieldSpec.{FieldSpec}
use Rattle.quantised_fields.specs.declared.kind.Kind.{Kind}
use Rattle.ghost_model.specs.Words.{upto}
use Rattle.ghost_model.specs.Legal.{IsUp}
use Rattle.ghost_model.proofs.Free.{passing_more, passing_yes}
use Rattle.ghost_masks.specs.Plan.{kind_of, fields_in}
use Rattle.stream_manager.specs.Limits.{Terms}
use Rattle.stream_manager.specs.Server.{ghost_log}
use Rattle.pair_steps.specs.pair_core.History.{PairStep, Show, Hide, Near, history}
use Rattle.pair_steps.specs.conn_packing.Reads.{HasRanges}
use Rattle.pair_steps.specs.pair_core.Conditions.{AreMet}
use Rattle.lane_periods.specs.Periods.{PeriodList, has, spec_at}
use Rattle.lane_periods.specs.Views.{ranges}
use Rattle.pair_steps.specs.Steps.{shows_in, is_hidden_in, up_in, traits_in}
use Rattle.pair_periods.specs.Agreement.{Agree}
use Rattle.lane_periods.proofs.Numbers.{or-cases, or-second}
use Rattle.pair_steps.proofs.Journals.{IsQuiet, filter_twice, up_from, up_to, kind_told}

-- ---- what is up

eqb-turned : (m n : ℕ) → (m == n) ≡ (n == m)
eqb-turned m n =
    ⊎_elim (λ (same : m ≡ n). eq-eqb m n same ∙ sym (eq-eqb n m (sym same))) (λ (apart : m ≡ n → ⊥). ne_eqb m n apart ∙ sym (ne_eqb n m (λ e. apart (sym e)))) (cases_eq m n)

-- only what was shown was hidden
pub hidden-below : (t : Terms) (steps : List PairStep) → AreMet t steps → (n : ℕ) → is_hidden_in steps n ≡ true → n < shows_in steps
hidden-below t [] met n e = absurd (cc)
hidden-below t (Hide m ∷ steps) met n e =
    ⊎_elim (λ (is : (m == n) ≡ true). subst (λ k. k < shows_in steps) (eqb-true m n is) (up_from t steps m met.0).0)
    (λ (h : is_hidden_in steps n ≡ true). hidden-below t steps met.1 n h) (or-cases (m == n) (is_hidden_in steps n) e)
hidden-below t (Show k b l c ∷ steps) met n e = let h = hidden-below t steps met.1 n e in omega arith
hidden-below t (step ∷ steps) met n e = hidden-below t steps met.1 n e

pub fresh : (t : Terms) (steps : List PairStep) → AreMet t steps → is_hidden_in steps (shows_in steps) ≡ false
fresh t steps met = by (is_hidden_in steps (shows_in steps)) refl
  where
    by : (b : Bool) → is_hidden_in steps (shows_in steps) ≡ b → b ≡ false
    by true e = absurd (let lt = hidden-below t steps met (shows_in steps) e in omega arith)
    by false e = refl

pub passing_none : (f : ℕ → Bool) → filter f (upto 0) ≡ []
unfolding upto
passing_none f = refl

get-last : (xs : List ℕ) (x k : ℕ) → k ≡ length xs → slice_get (xs ++ x ∷ []) k ≡ Some x
get-last [] x zero e = refl
get-last [] x (suc k) e = absurd (omega arith)
get-last (y ∷ ys) x zero e = absurd (omega arith)
get-last (y ∷ ys) x (suc k) e = get-last ys x k (omega arith)

get-before : (xs ys : List ℕ) (k : ℕ) → k < length xs → slice_get (xs ++ ys) k ≡ slice_get xs k
get-before [] ys k h = absurd (omega arith)
get-before (x ∷ xs) ys zero h = refl
get-before (x ∷ xs) ys (suc k) h = get-before xs ys k (omega arith)

-- the numbers that pass are those below the count that pass
pub has-passing : (f : ℕ → Bool) (k n : ℕ) → n < k → f n ≡ true → has n (filter f (upto k)) ≡ true
has-passing f zero n lt e = absurd (omega arith)
has-passing f (suc k) n lt e =
    ap (has n) (passing_more f k) ∙ list_any-append (λ m. m == n) (filter f (upto k)) (cond (f k) (k ∷ []) [])
    ∙ ⊎_elim
    (λ (same : n ≡ k).
    ap (λ b. has n (filter f (upto k)) || has n (cond b (k ∷ []) [])) (ap f (sym same) ∙ e)
    ∙ ap (λ b. has n (filter f (upto k)) || (b || false)) (eq-eqb k n (sym same)) ∙ or-second (has n (filter f (upto k))))
    (λ (apart : n ≡ k → ⊥). ap (λ b. b || has n (cond (f k) (k ∷ []) [])) (has-passing f k n (omega (arith, lt, apart)) e)) (cases_eq n k)

pub passing-has : (f : ℕ → Bool) (k n : ℕ) → has n (filter f (upto k)) ≡ true → (n < k) × (f n ≡ true)
passing-has f zero n e = none (sym (ap (has n) (passing_none f)) ∙ e)
  where
    none : false ≡ true → (n < zero) × (f n ≡ true)
    none e = absurd (cc)
passing-has f (suc k) n e =
    ⊎_elim (λ (h : has n (filter f (upto k)) ≡ true). let r = passing-has f k n h in (omega (arith, r.0), r.1))
    (λ (h : has n (cond (f k) (k ∷ []) []) ≡ true). last (f k) refl h)
    (or-cases (has n (filter f (upto k))) (has n (cond (f k) (k ∷ []) [])) (sym (ap (has n) (passing_more f k) ∙ list_any-append (λ m. m == n) (filter f (upto k)) (cond (f k) (k ∷ []) [])) ∙ e))
  where
    last : (b : Bool) → f k ≡ b → has n (cond b (k ∷ []) []) ≡ true → (n < suc k) × (f n ≡ true)
    last true is h = ⊎_elim (λ (x : (k == n) ≡ true). let same = eqb-true k n x in (omega (arith, same), ap f (sym same) ∙ is)) (λ (x : false ≡ true). absurd (cc)) (or-cases (k == n) false h)
    last false is h = absurd (cc)

module _ (t : Terms) (steps : List PairStep) where
  -- what is up is listed, and the other way
  pub up-listed : (n : ℕ) → IsUp (ghost_log (history t steps).server) n → has n (up_in steps) ≡ true
  up-listed n up = let told = up_from t steps n up in has-passing (λ m. not (is_hidden_in steps m)) (shows_in steps) n told.0 (ap not told.1)

  pub listed-up : (n : ℕ) → has n (up_in steps) ≡ true → IsUp (ghost_log (history t steps).server) n
  listed-up n h = let told = passing-has (λ m. not (is_hidden_in steps m)) (shows_in steps) n h in up_to t steps n told.0 (not-true (is_hidden_in steps n) told.1)
    where
      not-true : (b : Bool) → not b ≡ true → b ≡ false
      not-true true e = sym e
      not-true false e = refl

-- ---- steps

pub agree-show : (t : Terms) (steps : List PairStep) (p q : PeriodList) (object kind block level : ℕ) (control : Bool) → AreMet t steps → Agree steps p
    → length p.kinds ≡ length p.objects
    → q.objects ≡ p.objects ++ object ∷ [] → q.kinds ≡ p.kinds ++ kind ∷ [] → q.up ≡ p.up ++ length p.objects ∷ [] → Agree (Show kind block level control ∷ steps) q
agree-show t steps p q object kind block level control met a long objects kinds up = record {
  count = omega (arith, ap length objects, length-append p.objects (object ∷ []), a.count);
  up =
      up ∙ (λ j. a.up j ++ a.count j ∷ [])
      ∙ sym (passing_yes (λ n. not (is_hidden_in steps n)) (shows_in steps) (ap not (fresh t steps met)))
      ∙ ap (λ k. filter (λ n. not (is_hidden_in steps n)) (upto k)) (omega arith);
  kinds = λ n lt.
      ⊎_elim
      (λ (same : n ≡ shows_in steps).
      ap (λ l. slice_get l n) kinds ∙ get-last p.kinds kind n (omega (arith, same, a.count, long))
      ∙ ap (λ b. Some (cond b (record { kind = kind; block = block; level = level; control = control }) (traits_in steps n)).kind) (sym (eq-eqb n (shows_in steps) same)))
      (λ (apart : n ≡ shows_in steps → ⊥).
      ap (λ l. slice_get l n) kinds ∙ get-before p.kinds (kind ∷ []) n (omega (arith, apart, lt, a.count, long)) ∙ a.kinds n (omega (arith, apart, lt))
      ∙ ap (λ b. Some (cond b (record { kind = kind; block = block; level = level; control = control }) (traits_in steps n)).kind) (sym (ne_eqb n (shows_in steps) apart)))
      (cases_eq n (shows_in steps));
}

pub agree-hide : (steps : List PairStep) (p q : PeriodList) (n : ℕ) → Agree steps p
    → q.objects ≡ p.objects → q.kinds ≡ p.kinds → q.up ≡ filter (λ m. not (m == n)) p.up → Agree (Hide n ∷ steps) q
agree-hide steps p q n a objects kinds up = record {
  count = ap length objects ∙ a.count;
  up =
      up ∙ ap (filter (λ m. not (m == n))) a.up
      ∙ sym (filter_twice (λ m. m == n) (is_hidden_in steps) (upto (shows_in steps)))
      ∙ filter_agree (λ m. not ((m == n) || is_hidden_in steps m)) (λ m. not ((n == m) || is_hidden_in steps m)) (λ m. ap (λ b. not (b || is_hidden_in steps m)) (eqb-turned m n)) (upto (shows_in steps));
  kinds = λ m lt. ap (λ l. slice_get l m) kinds ∙ a.kinds m lt;
}

pub agree-near : (steps : List PairStep) (p : PeriodList) (n level : ℕ) → Agree steps p → Agree (Near n level ∷ steps) p
agree-near steps p n level a = record {
  count = a.count;
  up = a.up;
  kinds = λ m lt. a.kinds m lt ∙ same m (n == m);
}
  where
    same : (m : ℕ) (b : Bool) → Some (traits_in steps m).kind ≡ Some (cond b (record (traits_in steps m) { level = level }) (traits_in steps m)).kind
    same m true = refl
    same m false = refl

pub agree-quiet : (steps : List PairStep) (step : PairStep) (p : PeriodList) → IsQuiet step → Agree steps p → Agree (step ∷ steps) p
agree-quiet steps (Show kind block level control) p quiet a = absurd quiet
agree-quiet steps (Hide n) p quiet a = absurd quiet
agree-quiet steps (Near n level) p quiet a = absurd quiet
agree-quiet steps step p quiet a = record { count = a.count; up = a.up; kinds = a.kinds }

-- ---- what is read

pub agree-ranges : (t : Terms) (steps : List PairStep) (p : PeriodList) (objects : ℕ) → Agree steps p → p.table ≡ t.kinds → ((n : ℕ) → has n p.up ≡ true → slice_index p.objects n < objects)
    → HasRanges t (ghost_log (history t steps).server) (ranges objects p)
agree-ranges t steps p objects a table there n f spec up own =
    let here : has n p.up ≡ true = subst (λ l. has n l ≡ true) (sym a.up) (up-listed t steps n up) in
    let kind : slice_get p.kinds n ≡ Some (kind_of (ghost_log (history t steps).server) n) = a.kinds n (up_from t steps n up).0 ∙ ap (λ k. Some k) (sym (kind_told t steps n)) in
    let is : spec_at p.table p.kinds n f ≡ Some spec =
    (λ j. option_and_then (λ k. option_and_then (λ (x : Kind). slice_get x.fields f) (slice_get (table j) k)) (kind j))
    ∙ in-kind (slice_get t.kinds (kind_of (ghost_log (history t steps).server) n)) own in
    ap (λ b. cond b (option_map (λ (x : FieldSpec). (x.lo, x.hi)) (spec_at p.table p.kinds n f)) None) ((λ j. here j && lt-ltb (slice_index p.objects n) objects (there n here) j))
    ∙ ap (option_map (λ (x : FieldSpec). (x.lo, x.hi))) is
  where
    in-kind : (o : Option Kind) → slice_get (fields_in o) f ≡ Some spec → option_and_then (λ (x : Kind). slice_get x.fields f) o ≡ Some spec
    in-kind None e = e
    in-kind (Some x) e = e
