-- Where the mark of a settled field stands; and the laws on settled and changed fields, in the words of looking back.
use Rattle.std.proofs.Common.{◌≡◌, ℕ, ℤ, ◌<◌, ◌==◌, ◌&&◌, ◌||◌, Bool, true, false, not, cond, nat_lt, List, [], ◌∷◌, Option, Some, None, length, refl, sym, ap, subst, ◌∙◌, inl, inr}
use Rattle.std.specs.Prelude.{◌⊎◌, find, map, slice_get, option_map}
use Rattle.std.specs.Option.{option_map_or, option_and_then}
use Rattle.std.specs.List.{AllByRecursion, list_any}
use Rattle.std.proofs.lemmas.Bool.{and_parts, and_from, eqb-true, eq-eqb, ltb-true, lt-ltb}
use Rattle.std.proofs.lemmas.List.Elements.{recursion_from_All}
use Rattle.tn_types.specs.declared.choices.Drain.{Drain}
use Rattle.tn_types.specs.BitWords.{has_bit}
use Rattle.ghost_model.specs.Ghosts.{GhostEvent, slot, carries, unjudged, is_due, is_settled}
use Rattle.ghost_client.specs.declared.copy.GhostCopy.{GhostCopy}
use Rattle.ghost_client.specs.State.{field_value}
use Rattle.pair_core.specs.stream_manager.Limits.{Terms}
use Rattle.pair_core.specs.ghost_masks.Plan.{kind_of, fields_of, is_slot}
use Rattle.pair_core.specs.History.{PairStep}
use Rattle.world_rules.specs.Kinds.{match_kinds}
use Rattle.world_sim.specs.Worlds.{values_at}
use Rattle.match_script.specs.declared.types.Script.{Script}
use Rattle.match_script.specs.Ranges.{HasRanges}
use Rattle.match_report.specs.declared.copies.FieldTold.{FieldTold}
use Rattle.client_scope.specs.declared.period.ShownPeriod.{ShownPeriod}
use Rattle.client_scope.specs.Scans.{shown}
use Rattle.own_lists.specs.pair_steps.Steps.{up_in}
use Rattle.own_lists.specs.Kept.{Kept, undrained}
use Rattle.own_lists.specs.Past.{client_terms, after}
use Rattle.own_lists.specs.Agreement.{OwnListsHold}
use Rattle.own_lists.proofs.ScanChanges.{has, held_at}
use Rattle.own_lists.proofs.Standing.{IsShownIn, up_are_shown}
use Rattle.match_laws.specs.client_seat.Told.{holder_at, is_newest}
use Rattle.match_laws.specs.Laws.{first}
use Rattle.match_laws.specs.Values.{ClientMoment, moment_of, kept_then, ghosts_then, HasValue, HasLevel, IsShownField, IsRecovered, FieldsRecover, AllRecover, SettledIsNewest, ChangesRecover}
use Rattle.match_laws.proofs.InOrder.{are_lines}
use Rattle.match_laws.proofs.ValuesTold.{up_has}
use Rattle.match_laws.proofs.ValuesRead.{up_at}
use Rattle.match_laws.proofs.ValuesHad.{listed, agreed}
use Rattle.match_laws.proofs.FieldsTold.{found, slot-is}
use Rattle.report_laws.specs.Settled.{own_then, IsUpThen, is_written_then, IsSettledAt, MarkedWhereSettled, HasLast, SettledIsLast, Catches, ChangesAreCaught}
use Rattle.report_laws.proofs.Honesty.{one_holder}
use Rattle.report_laws.proofs.Looking.{written, newest}

-- ---- tests and lists

is-false : (b : Bool) → not b ≡ true → b ≡ false
is-false true e = absurd cc
is-false false e = refl

-- where one passes, one is found
record IsFound {X : Type 0} (p : X → Bool) (xs : List X) : Type 0 where
  pub x : X
  pub there : find p xs ≡ Some x

finds : {X : Type 0} (p : X → Bool) (f : ℕ → X) (n : ℕ) (ns : List ℕ) → p (f n) ≡ true → has n ns ≡ true → IsFound p (map f ns)
finds p f n [] passes h = absurd cc
finds p f n (m ∷ ns) passes h = go (λ rest. finds p f n ns passes rest) (p (f m)) refl (m == n) refl h
  where
    go : (has n ns ≡ true → IsFound p (map f ns)) → (a : Bool) → p (f m) ≡ a → (b : Bool) → (m == n) ≡ b → (b || has n ns) ≡ true
        → IsFound p (f m ∷ map f ns)
    go later true is b same h = record { x = f m; there = ap (λ a. cond a (Some (f m)) (find p (map f ns))) is }
    go later false is true same h =
        absurd (let never : true ≡ false = sym passes ∙ ap (λ i. p (f i)) (sym (eqb-true m n same)) ∙ is in cc)
    go later false is false same h =
        let rest = later h in record { x = rest.x; there = ap (λ a. cond a (Some (f m)) (find p (map f ns))) is ∙ rest.there }

is-slot : (at : ℕ) (o : Option ℕ) → o ≡ Some at → is_slot at o ≡ true
is-slot at None e = absurd (cc)
is-slot at (Some s) e = let same : s ≡ at = cc in eq-eqb s at same

mark-of : {S : Bool} (o : Option ℤ) (told : FieldTold) → option_map (λ value. record { value = value; settled = S }) o ≡ Some told
    → S ≡ told.settled
mark-of None told e = absurd cc
mark-of {S} (Some v) told e = same e
  where
    same : Some (record { value = v; settled = S }) ≡ Some told → S ≡ told.settled
    same e = let is : record { value = v; settled = S } ≡ told = cc in ap (λ (x : FieldTold). x.settled) is

-- ---- one client at one line

module _ (own : OwnListsHold) (s : Script) (c i : ℕ) (h : HasRanges s) (below : c < s.head.clients) where
  abbrev m : ClientMoment
  m = moment_of s c i

  abbrev t : Terms
  t = client_terms s.head c

  abbrev k : Kept
  k = kept_then m

  abbrev steps : List PairStep
  steps = k.course.steps

  abbrev log : List GhostEvent
  log = ghosts_then m

  -- the drain of a period
  abbrev drain_of : ℕ → Drain
  drain_of n = record { n = n; bits = k.written n }

  abbrev IsUpDrain : Drain → Type 0
  IsUpDrain d = IsShownIn steps d.n × (d.bits ≡ k.written d.n)

  all-up : (ns : List ℕ) → AllByRecursion (IsShownIn steps) ns → AllByRecursion IsUpDrain (map drain_of ns)
  all-up [] all = tt
  all-up (n ∷ ns) all = ((all.0, refl), all-up ns all.1)

  abbrev holds_slot : ℕ → Drain → Bool
  holds_slot at d = is_slot at (slot log d.n)

  marked-settled : (at f : ℕ) (o : Option Drain) → holder_at t steps (undrained k) at ≡ o
      → option_map_or (is_newest t steps f) o false ≡ true → IsSettledAt m at f
  marked-settled at f None is e = absurd cc
  marked-settled at f (Some d) is e =
      let d_is = found IsUpDrain (holds_slot at) (undrained k) d (all-up (up_in steps) (up_are_shown steps)) is in
      let w = and_parts (nat_lt f (length (fields_of match_kinds (kind_of log d.n))) && is_settled log d.n f) (not (has_bit d.bits f)) e in
      let b = and_parts (nat_lt f (length (fields_of match_kinds (kind_of log d.n)))) (is_settled log d.n f) w.0 in
      record {
        n = d.n;
        up = record { shown = d_is.0.0.0; not_hidden = d_is.0.0.1 };
        holds = slot-is at (slot log d.n) d_is.1;
        field = ltb-true f (length (fields_of match_kinds (kind_of log d.n))) b.0;
        settled = b.1;
        unwritten = sym (written t d.n f (own_then m)) ∙ ap (λ bits. has_bit bits f) (sym d_is.0.1) ∙ is-false (has_bit d.bits f) w.1;
      }

  settled-newest : (at f : ℕ) (at_is : IsSettledAt m at f) (d : Drain) → d.n ≡ at_is.n → d.bits ≡ k.written d.n → is_newest t steps f d ≡ true
  settled-newest at f x d same bits =
      let lt : f < length (fields_of match_kinds (kind_of log d.n)) =
      subst (λ n. f < length (fields_of match_kinds (kind_of log n))) (sym same) x.field in
      let none : has_bit d.bits f ≡ false =
      ap (λ b. has_bit b f) bits ∙ ap (λ n. has_bit (k.written n) f) same ∙ written t x.n f (own_then m) ∙ x.unwritten in
      and_from (nat_lt f (length (fields_of match_kinds (kind_of log d.n))) && is_settled log d.n f) (not (has_bit d.bits f))
      (and_from (nat_lt f (length (fields_of match_kinds (kind_of log d.n)))) (is_settled log d.n f)
      (lt-ltb f (length (fields_of match_kinds (kind_of log d.n))) lt) (ap (λ n. is_settled log n f) same ∙ x.settled))
      (ap not none)

  settled-marked : (at f : ℕ) → IsSettledAt m at f → option_map_or (is_newest t steps f) (holder_at t steps (undrained k) at) false ≡ true
  settled-marked at f x =
      let there = finds (holds_slot at) drain_of x.n (up_in steps) (is-slot at (slot log x.n) x.holds)
      (up_has steps x.n (x.up.shown, x.up.not_hidden)) in
      let d_is = found IsUpDrain (holds_slot at) (undrained k) there.x (all-up (up_in steps) (up_are_shown steps)) there.there in
      let same : there.x.n ≡ x.n = one_holder own s c i h below there.x.n x.n at (slot-is at (slot log there.x.n) d_is.1) x.holds in
      ap (λ (o : Option Drain). option_map_or (is_newest t steps f) o false) there.there
      ∙ settled-newest at f x there.x same d_is.0.1

  pub marked : (at f : ℕ) (copy : GhostCopy) (told : FieldTold) → IsShownField m at f copy told
      → (told.settled ≡ true → IsSettledAt m at f) × (IsSettledAt m at f → told.settled ≡ true)
  marked at f copy told is =
      let same = mark-of (field_value match_kinds f copy) told is.shown in (
        λ e. marked-settled at f (holder_at t steps (undrained k) at) refl (same ∙ e),
        λ x. sym same ∙ settled-marked at f x,
      )

  -- ---- the newest value

  object-same : {a b : ℕ} → Some a ≡ Some b → a ≡ b
  object-same {a} {b} e = cc

  -- what a period that is up has in the world is the newest that the own list tells
  pub has_last : (n kind f : ℕ) (value : ℤ) → IsUpThen m n → HasValue m (record { period = n; kind = kind; field = f }) value
      → HasLast m n kind f value
  has_last n kind f value up there =
      let past = first i s in
      let w = (after s.head past).world in
      let at = up_at w c ((after s.head past).scans c) k (agreed own s.head c below past (are_lines s i h)) n (up.shown, up.not_hidden) in
      let same : there.object ≡ at.object = object-same (sym there.begun ∙ at.begun) in
      let here : slice_get (k.values n) f ≡ Some value =
      ap (option_and_then (λ (values : List ℤ). slice_get values f)) (sym at.values)
      ∙ ap (λ o. option_and_then (λ (values : List ℤ). slice_get values f) (values_at w o)) (sym same) ∙ there.value_is in
      record {
        last = sym (newest t n f (own_then m) (listed own s.head c below past (are_lines s i h))) ∙ here;
        has = there;
      }

  -- ---- recovery

  all-recover : (ps : List ShownPeriod) → AllByRecursion (λ (p : ShownPeriod). FieldsRecover m p.n (kind_of log p.n)) ps
      → AllByRecursion (λ n. FieldsRecover m n (kind_of log n)) (map (λ (p : ShownPeriod). p.n) ps)
  all-recover [] all = tt
  all-recover (p ∷ ps) all = (all.0, all-recover ps all.1)

  pub caught : AllRecover m → (n f : ℕ) → IsUpThen m n → f < length (fields_of match_kinds (kind_of log n)) → Catches m n (kind_of log n) f
  caught all n f up lt =
      let past = first i s in
      let scans = (after s.head past).scans c in
      let each = all-recover (shown scans) (recursion_from_All (λ (p : ShownPeriod). FieldsRecover m p.n (kind_of log p.n)) (shown scans) all) in
      let here = ap (has n) (sym (agreed own s.head c below past (are_lines s i h)).up) ∙ up_has steps n (up.shown, up.not_hidden) in
      let r = held_at (λ n. FieldsRecover m n (kind_of log n)) n (map (λ (p : ShownPeriod). p.n) (shown scans)) each here f lt in
      record { value = r.value; newest = has_last n (kind_of log n) f r.value up r.has; caught = go r.value r.recovered }
    where
      go : (value : ℤ) → IsRecovered m (record { period = n; kind = kind_of log n; field = f }) value
          → (is_due log n f ≡ true) ⊎ ((is_written_then m n f ≡ true)
          ⊎ ((list_any (carries n f) (unjudged log) ≡ true) ⊎ HasLevel m (record { period = n; kind = kind_of log n; field = f }) value))
      go value (inl due) = inl due
      go value (inr (inl bit)) = inr (inl (sym (written t n f (own_then m)) ∙ bit))
      go value (inr (inr rest)) = inr (inr rest)

-- ---- the laws

pub marked_where_settled : OwnListsHold → MarkedWhereSettled
marked_where_settled own s c n h below at f copy told is = marked own s c n h below at f copy told is

pub settled_is_last : OwnListsHold → SettledIsNewest → SettledIsLast
settled_is_last own settled s c n h below honest at f copy told is mark =
    let shows = settled s c n h below honest at f copy told is mark in
    let x = (marked own s c n h below at f copy told is).0 mark in
    let same : x.n ≡ shows.n = one_holder own s c n h below x.n shows.n at x.holds shows.holds in
    record {
      n = shows.n;
      holds = shows.holds;
      value = shows.value;
      newest = has_last own s c n h below shows.n copy.kind f shows.value (subst (IsUpThen (moment_of s c n)) same x.up) shows.has;
      shown_for = shows.shown_for;
    }

pub changes_are_caught : OwnListsHold → ChangesRecover → ChangesAreCaught
changes_are_caught own recover s c i h below honest n f up lt =
    caught own s c i h below (recover s c i h below honest) n f up lt
