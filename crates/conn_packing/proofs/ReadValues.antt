-- What is asked for a data packet is what its ghosts carry: one value for each field, in its range.
use Rattle.std.proofs.Common.{◌≡◌, ℕ, zero, suc, ◌+◌, ◌-◌, ◌/◌, ◌^◌, ◌==◌, ◌<◌, ◌≤◌, Bool, true, false, not, cond, List, [], ◌∷◌, ◌++◌, ◌∙◌, Option, Some, None, length, refl, sym, ap, subst, arith, inl, inr, append-nil}
use Rattle.std.specs.Prelude.{ℤ, ◌≤ℤ◌, IfSome, IsSome, is_some, map, filter, slice_get}
use Rattle.std.specs.List.{AllByRecursion}
use Rattle.std.proofs.Math.Nat.{div-div-eq-div-mul, pow-suc}
use Rattle.std.proofs.lemmas.Bool.{cases_lt}
use Rattle.std.proofs.lemmas.List.{map-append}
use Rattle.std.proofs.lemmas.List.Elements.{filter-append}
use Rattle.std.proofs.lemmas.Nat.Bits.{bit_at_ones, bit_at-zero}
use Rattle.tn_types.specs.BitWords.{has_bit}
use Rattle.tn_types.specs.declared.choices.Op.{Op}
use Rattle.tn_types.specs.declared.choices.Op.TheVariants.{Kill, Create, Update}
use Rattle.tn_types.specs.declared.choices.Choice.{Choice}
use Rattle.tn_types.specs.declared.choices.Read.{Read}
use Rattle.quantised_fields.specs.declared.field.FieldSpec.{FieldSpec}
use Rattle.quantised_fields.specs.declared.kind.Kind.{Kind}
use Rattle.quantised_fields.specs.Kinds.{table_fault}
use Rattle.ghost_model.specs.Words.{is_kill, upto}
use Rattle.ghost_model.specs.declared.phase.Phase.{Phase}
use Rattle.ghost_model.specs.declared.phase.Phase.TheVariants.{Wanted, Live}
use Rattle.ghost_model.specs.Phases.{is_up, IsWriteStep}
use Rattle.ghost_model.specs.Scope.{ScopeEvent, table, given, is_hidden, has_received, has_unjudged}
use Rattle.ghost_model.specs.Scope as scope
use Rattle.ghost_model.specs.Ghosts.{GhostEvent, Grant, scope_log, phase}
use Rattle.ghost_model.specs.Legal.{IsItsMask}
use Rattle.ghost_model.proofs.Bits.{no_bit}
use Rattle.ghost_scope.specs.Table.{Table, IsOrdered}
use Rattle.ghost_scope.specs.StandsFor.{StandsFor as PeriodsStandFor}
use Rattle.ghost_scope.proofs.Told.{kind_told}
use Rattle.stream_manager.specs.ghost_masks.Plan.{sizes, fields_of, kind_of, masked, carried_by, IsItem}
use Rattle.stream_manager.specs.ghost_masks.Carried.{fields_carried, all_carried, AreValues}
use Rattle.stream_manager.proofs.Below.ghost_masks.Items.{few_fields, of_period}
use Rattle.stream_manager.specs.Limits.{Terms}
use Rattle.conn_packing.specs.Packs.{values_of}
use Rattle.conn_packing.specs.Reads.{fields_in, asked_by, asked_by_all, field_of, HasRanges}
use Rattle.conn_packing.specs.Asking.{IsInRange}

-- ---- the fields of a mask

-- n numbers from k on
abbrev from : ℕ → ℕ → List ℕ
from k zero = []
from k (suc n) = k ∷ from (suc k) n

from-push : (k n : ℕ) → from k (suc n) ≡ from k n ++ (k + n) ∷ []
from-push k zero = ap (λ (m : ℕ). m ∷ []) (let e : k ≡ k + 0 = omega arith in e)
from-push k (suc n) = ap (λ (l : List ℕ). k ∷ l) (from-push (suc k) n ∙ ap (λ (m : ℕ). from (suc k) n ++ m ∷ []) (let e : suc k + n ≡ k + suc n = omega arith in e))

upto-from : (n : ℕ) → upto n ≡ from 0 n
unfolding upto
upto-from zero = refl
upto-from (suc n) = ap (λ (l : List ℕ). l ++ n ∷ []) (upto-from n) ∙ ap (λ (m : ℕ). from 0 n ++ m ∷ []) (let e : n ≡ 0 + n = omega arith in e) ∙ sym (from-push 0 n)

from-split : (k a b : ℕ) → from k (a + b) ≡ from k a ++ from (k + a) b
from-split k zero b = ap (λ (m : ℕ). from k m) (let e : 0 + b ≡ b = omega arith in e) ∙ ap (λ (m : ℕ). from m b) (let e : k ≡ k + 0 = omega arith in e)
from-split k (suc a) b =
    ap (from k) (let e : suc a + b ≡ suc (a + b) = omega arith in e)
    ∙ ap (λ (l : List ℕ). k ∷ l) (from-split (suc k) a b ∙ ap (λ (m : ℕ). from (suc k) a ++ from m b) (let e : suc k + a ≡ k + suc a = omega arith in e))

none-above : (mask k n : ℕ) → ((f : ℕ) → k ≤ f → has_bit mask f ≡ false) → filter (has_bit mask) (from k n) ≡ []
none-above mask k zero h = refl
none-above mask k (suc n) h = ap (λ b. cond b (k ∷ filter (has_bit mask) (from (suc k) n)) (filter (has_bit mask) (from (suc k) n))) (h k (omega arith)) ∙ none-above mask (suc k) n (λ f le. h f (omega arith))

fields-are : (mask count : ℕ) → mask < 2 ^ count → count ≤ 16 → fields_in mask ≡ filter (has_bit mask) (from 0 count)
fields-are mask count small few =
    let parts : from 0 16 ≡ from 0 count ++ from (0 + count) (16 - count) = ap (from 0) (let e : 16 ≡ count + (16 - count) = omega arith in e) ∙ from-split 0 count (16 - count) in
    ap (filter (has_bit mask)) (upto-from 16 ∙ parts) ∙ filter-append (has_bit mask) (from 0 count) (from (0 + count) (16 - count))
    ∙ ap (λ (l : List ℕ). filter (has_bit mask) (from 0 count) ++ l) (none-above mask (0 + count) (16 - count) (λ f le. no_bit mask count f small (omega arith)))
    ∙ append-nil (filter (has_bit mask) (from 0 count))

-- ---- the values of an item

halved : (mask k : ℕ) → mask / 2 ^ k / 2 ≡ mask / 2 ^ suc k
halved mask k = div-div-eq-div-mul mask (2 ^ k) 2 ∙ ap (λ n. mask / n) (sym (pow-suc 2 k))

whole-mask : (mask : ℕ) → mask / 2 ^ 0 ≡ mask
whole-mask mask = omega arith

abbrev HasSpecs : (ℕ → ℕ → Option (ℤ × ℤ)) → ℕ → ℕ → List FieldSpec → Type 0
HasSpecs ranges n k fs = (j : ℕ) (spec : FieldSpec) → slice_get fs j ≡ Some spec → ranges n (k + j) ≡ Some (spec.lo, spec.hi)

specs-later : (ranges : ℕ → ℕ → Option (ℤ × ℤ)) (n k : ℕ) (g : FieldSpec) (fs : List FieldSpec) → HasSpecs ranges n k (g ∷ fs) → HasSpecs ranges n (suc k) fs
specs-later ranges n k g fs h j spec e = subst (λ m. ranges n m ≡ Some (spec.lo, spec.hi)) (let e : k + suc j ≡ suc k + j = omega arith in e) (h (suc j) spec e)

specs-own : (ranges : ℕ → ℕ → Option (ℤ × ℤ)) (n k : ℕ) (g : FieldSpec) (fs : List FieldSpec) → HasSpecs ranges n k (g ∷ fs) → ranges n k ≡ Some (g.lo, g.hi)
specs-own ranges n k g fs specs = subst (λ m. ranges n m ≡ Some (g.lo, g.hi)) (let e : k + 0 ≡ k = omega arith in e) (specs 0 g refl)

abbrev pub front-of : ℕ × ℕ → List (ℕ × ℕ) → ℕ × ℕ
front-of d [] = d
front-of d (x ∷ xs) = x

abbrev pub behind-of : List (ℕ × ℕ) → List (ℕ × ℕ)
behind-of [] = []
behind-of (x ∷ xs) = xs

-- the first field and the later ones, by whether the mask has its bit
by-bit : (ranges : ℕ → ℕ → Option (ℤ × ℤ)) (n mask k : ℕ) (g : FieldSpec) (fs : List FieldSpec) → ranges n k ≡ Some (g.lo, g.hi)
    → ((rs : List Read) → map field_of rs ≡ map (λ f. (n, f)) (filter (has_bit mask) (from (suc k) (length fs))) → AllByRecursion (IsInRange ranges) rs → AreValues (masked (mask / 2 ^ k / 2) fs) (values_of rs))
    → (b : Bool) (rs : List Read) → map field_of rs ≡ map (λ f. (n, f)) (cond b (k ∷ filter (has_bit mask) (from (suc k) (length fs))) (filter (has_bit mask) (from (suc k) (length fs)))) → AllByRecursion (IsInRange ranges) rs
    → AreValues (cond b (g ∷ masked (mask / 2 ^ k / 2) fs) (masked (mask / 2 ^ k / 2) fs)) (values_of rs)
by-bit ranges n mask k g fs own later false rs e f = later rs e f
by-bit ranges n mask k g fs own later true [] e f = absurd (cc)
by-bit ranges n mask k g fs own later true (r ∷ rs) e f =
    let at_n : r.n ≡ n = ap (λ (l : List (ℕ × ℕ)). (front-of (0, 0) l).0) e in
    let at_k : r.field ≡ k = ap (λ (l : List (ℕ × ℕ)). (front-of (0, 0) l).1) e in
    let tail : map field_of rs ≡ map (λ f. (n, f)) (filter (has_bit mask) (from (suc k) (length fs))) = ap behind-of e in
    let within : (g.lo ≤ℤ r.value) × (r.value ≤ℤ g.hi) = subst (λ o. IfSome o (λ x. (x.0 ≤ℤ r.value) × (r.value ≤ℤ x.1))) ((λ j. ranges (at_n j) (at_k j)) ∙ own) f.0 in
    (within.0, within.1, later rs tail f.1)

values-masked : (ranges : ℕ → ℕ → Option (ℤ × ℤ)) (n mask k : ℕ) (fs : List FieldSpec) (rs : List Read) → map field_of rs ≡ map (λ f. (n, f)) (filter (has_bit mask) (from k (length fs)))
    → AllByRecursion (IsInRange ranges) rs → HasSpecs ranges n k fs → AreValues (masked (mask / 2 ^ k) fs) (values_of rs)
values-masked ranges n mask k [] [] is fit specs = tt
values-masked ranges n mask k [] (r ∷ rs) is fit specs = absurd (cc)
values-masked ranges n mask k (g ∷ fs) rs is fit specs =
    by-bit ranges n mask k g fs (specs-own ranges n k g fs specs) (λ rs e f. subst (λ m. AreValues (masked m fs) (values_of rs)) (sym (halved mask k)) (values-masked ranges n mask (suc k) fs rs e f (specs-later ranges n k g fs specs)))
    (has_bit mask k) rs is fit

pub masked-whole : (mask k : ℕ) (fs : List FieldSpec) → ((j : ℕ) → j < length fs → has_bit mask (k + j) ≡ true) → masked (mask / 2 ^ k) fs ≡ fs
masked-whole mask k [] h = refl
masked-whole mask k (g ∷ fs) h =
    let here : has_bit mask k ≡ true = subst (λ m. has_bit mask m ≡ true) (let e : k + 0 ≡ k = omega arith in e) (h 0 (omega arith)) in
    ap (λ b. cond b (g ∷ masked (mask / 2 ^ k / 2) fs) (masked (mask / 2 ^ k / 2) fs)) here
    ∙ ap (λ (l : List FieldSpec). g ∷ l) (ap (λ m. masked m fs) (halved mask k) ∙ masked-whole mask (suc k) fs (λ j lt. subst (λ m. has_bit mask m ≡ true) (let e : k + suc j ≡ suc k + j = omega arith in e) (h (suc j) (omega arith))))

pub below-power : (count : ℕ) → 2 ^ count - 1 < 2 ^ count
below-power count = let p = some-power count in omega arith
  where
    some-power : (count : ℕ) → 0 < 2 ^ count
    some-power zero = omega arith
    some-power (suc count) = omega (arith, some-power count, pow-suc 2 count)

ones-set : (count j : ℕ) → j < count → has_bit (2 ^ count - 1) (0 + j) ≡ true
ones-set count j lt = ap (λ m. m == 1) (bit_at_ones count (0 + j) (omega arith))

-- a source of values has the fields of the item's kind, unless the item is a kill
abbrev pub Supplies : List Kind → List GhostEvent → (ℕ → ℕ → Option (ℤ × ℤ)) → Choice → Type 0
Supplies kinds log ranges c = is_kill c.op ≡ false → HasSpecs ranges c.n 0 (fields_of kinds (kind_of log c.n))

module _ (kinds : List Kind) (table_fit : table_fault kinds ≡ None) (log : List GhostEvent) (ranges : ℕ → ℕ → Option (ℤ × ℤ)) where
  -- the fields of the kind of an item
  abbrev Own : Choice → List FieldSpec
  Own c = fields_of kinds (kind_of log c.n)

  few : (c : Choice) → length (Own c) ≤ 16
  few c = few_fields kinds table_fit (kind_of log c.n)

  by-op : (c : Choice) (op : Op) → c.op ≡ op → IsItsMask (sizes kinds) log c.n c.mask op → (is_kill op ≡ false → HasSpecs ranges c.n 0 (fields_of kinds (kind_of log c.n))) → (rs : List Read) → map field_of rs ≡ asked_by c → AllByRecursion (IsInRange ranges) rs
      → AreValues (carried_by op c.mask (fields_of kinds (kind_of log c.n))) (values_of rs)
  by-op c Kill e its specs rs is fit = none rs (is ∙ ap (λ (l : List ℕ). map (λ f. (c.n, f)) l) (ap fields_in its ∙ fields-are 0 0 (omega arith) (omega arith)))
    where
      none : (rs : List Read) → map field_of rs ≡ [] → AreValues [] (values_of rs)
      none [] is = tt
      none (r ∷ rs) is = absurd (cc)
  by-op c Create e its specs rs is fit =
      let small : c.mask < 2 ^ length (fields_of kinds (kind_of log c.n)) = subst (λ m. m < 2 ^ length (fields_of kinds (kind_of log c.n))) (sym its) (below-power (length (fields_of kinds (kind_of log c.n)))) in
      let whole : masked (c.mask / 2 ^ 0) (fields_of kinds (kind_of log c.n)) ≡ fields_of kinds (kind_of log c.n) =
      masked-whole c.mask 0 (fields_of kinds (kind_of log c.n)) (λ j lt. subst (λ m. has_bit m (0 + j) ≡ true) (sym its) (ones-set (length (fields_of kinds (kind_of log c.n))) j lt)) in
      subst (λ (fs : List FieldSpec). AreValues fs (values_of rs)) whole
      (values-masked ranges c.n c.mask 0 (fields_of kinds (kind_of log c.n)) rs (is ∙ ap (λ (l : List ℕ). map (λ f. (c.n, f)) l) (fields-are c.mask (length (fields_of kinds (kind_of log c.n))) small (few c))) fit (specs refl))
  by-op c Update e its specs rs is fit =
      subst (λ m. AreValues (masked m (fields_of kinds (kind_of log c.n))) (values_of rs)) (whole-mask c.mask)
      (values-masked ranges c.n c.mask 0 (fields_of kinds (kind_of log c.n)) rs (is ∙ ap (λ (l : List ℕ). map (λ f. (c.n, f)) l) (fields-are c.mask (length (fields_of kinds (kind_of log c.n))) its.0 (few c))) fit (specs refl))

  -- reads in two parts
  record AreParts (rs : List Read) (fs gs : List (ℕ × ℕ)) : Type 0 where
    pub front : List Read
    pub back : List Read
    pub whole : rs ≡ front ++ back
    pub of_front : map field_of front ≡ fs
    pub of_back : map field_of back ≡ gs

  parts : (rs : List Read) (fs gs : List (ℕ × ℕ)) → map field_of rs ≡ fs ++ gs → AreParts rs fs gs
  parts rs [] gs e = record { front = []; back = rs; whole = refl; of_front = refl; of_back = e }
  parts [] (f ∷ fs) gs e = absurd (cc)
  parts (r ∷ rs) (f ∷ fs) gs e =
      let here : field_of r ≡ f = cc in
      let later : map field_of rs ≡ fs ++ gs = cc in
      let p = parts rs fs gs later in
      record { front = r ∷ p.front; back = p.back; whole = ap (λ (l : List Read). r ∷ l) p.whole; of_front = λ j. here j ∷ p.of_front j; of_back = p.of_back }

  all-front : (P : Read → Type 0) (xs ys : List Read) → AllByRecursion P (xs ++ ys) → AllByRecursion P xs × AllByRecursion P ys
  all-front P [] ys h = (tt, h)
  all-front P (x ∷ xs) ys h = let r = all-front P xs ys h.1 in ((h.0, r.0), r.1)

  join-values : (fs gs : List FieldSpec) (vs ws : List ℤ) → AreValues fs vs → AreValues gs ws → AreValues (fs ++ gs) (vs ++ ws)
  join-values [] gs [] ws a b = b
  join-values [] gs (v ∷ vs) ws a b = absurd a
  join-values (f ∷ fs) gs [] ws a b = absurd a
  join-values (f ∷ fs) gs (v ∷ vs) ws a b = (a.0, a.1, join-values fs gs vs ws a.2 b)

  pub reads-values : (cs : List Choice) (rs : List Read) → AllByRecursion (IsItem kinds log) cs → AllByRecursion (Supplies kinds log ranges) cs → map field_of rs ≡ asked_by_all cs → AllByRecursion (IsInRange ranges) rs → AreValues (all_carried kinds log cs) (values_of rs)
  reads-values [] [] items has is fit = tt
  reads-values [] (r ∷ rs) items has is fit = absurd (cc)
  reads-values (c ∷ cs) rs items has is fit =
      let p = parts rs (asked_by c) (asked_by_all cs) is in
      let f = all-front (IsInRange ranges) p.front p.back (subst (AllByRecursion (IsInRange ranges)) p.whole fit) in
      subst (AreValues (fields_carried kinds log c ++ all_carried kinds log cs)) (sym (ap values_of p.whole ∙ map-append (λ (r : Read). r.value) p.front p.back))
      (join-values (fields_carried kinds log c) (all_carried kinds log cs) (values_of p.front) (values_of p.back) (by-op c c.op refl items.0.mask has.0 p.front p.of_front f.0) (reads-values cs p.back items.1 has.1 p.of_back f.1))

  -- ---- what may be asked for

  get-in : (fs : List FieldSpec) (f : ℕ) → f < length fs → (spec : FieldSpec) × (slice_get fs f ≡ Some spec)
  get-in [] f lt = absurd (omega arith)
  get-in (g ∷ fs) zero lt = (g, refl)
  get-in (g ∷ fs) (suc f) lt = get-in fs f (omega arith)

  is-there : (c : Choice) → HasSpecs ranges c.n 0 (fields_of kinds (kind_of log c.n)) → c.mask < 2 ^ length (fields_of kinds (kind_of log c.n)) → (f : ℕ) → has_bit c.mask f ≡ true → IsSome (ranges c.n f)
  is-there c specs small f set = elim (cases_lt f (length (fields_of kinds (kind_of log c.n)))) [
    | inl below ↦
        let spec = get-in (fields_of kinds (kind_of log c.n)) f below in
        let is : ranges c.n f ≡ Some (spec.0.lo, spec.0.hi) = subst (λ m. ranges c.n m ≡ Some (spec.0.lo, spec.0.hi)) (let e : 0 + f ≡ f = omega arith in e) (specs f spec.0 spec.1) in
        subst (λ o. IsSome o) (sym is) refl
    | inr beyond ↦ (let never : true ≡ false = sym set ∙ no_bit c.mask (length (fields_of kinds (kind_of log c.n))) f small beyond in absurd (cc))
  ]

  may-ask : (c : Choice) (op : Op) → c.op ≡ op → IsItsMask (sizes kinds) log c.n c.mask op → (is_kill op ≡ false → HasSpecs ranges c.n 0 (fields_of kinds (kind_of log c.n))) → (f : ℕ) → has_bit c.mask f ≡ true → IsSome (ranges c.n f)
  may-ask c Kill e its specs f set = (let never : true ≡ false = sym set ∙ ap (λ m. has_bit m f) its ∙ ap (λ m. m == 1) (bit_at-zero f) in absurd (cc))
  may-ask c Create e its specs f set = is-there c (specs refl) (subst (λ m. m < 2 ^ length (fields_of kinds (kind_of log c.n))) (sym its) (below-power (length (fields_of kinds (kind_of log c.n))))) f set
  may-ask c Update e its specs f set = is-there c (specs refl) its.0 f set

  pub all-may-be-asked : (cs : List Choice) → AllByRecursion (IsItem kinds log) cs → AllByRecursion (Supplies kinds log ranges) cs → AllByRecursion (λ (c : Choice). (f : ℕ) → f < 16 → has_bit c.mask f ≡ true → IsSome (ranges c.n f)) cs
  all-may-be-asked [] items has = tt
  all-may-be-asked (c ∷ cs) items has = (λ f lt set. may-ask c c.op refl items.0.mask has.0 f set, all-may-be-asked cs items.1 has.1)

-- ---- a source of values has them for all that is planned

up-hidden : (hidden slotted created creating killed killing : Bool) → is_up (table hidden slotted created creating killed killing) ≡ not hidden
up-hidden false s true i k l = refl
up-hidden false s false true k l = refl
up-hidden false true false false k l = refl
up-hidden false false false false k l = refl
up-hidden true s c i true l = refl
up-hidden true s c i false true = refl
up-hidden true s true i false false = refl
up-hidden true s false true false false = refl
up-hidden true s false false false false = refl

up-is : (log : List ScopeEvent) (n : ℕ) → is_up (scope.phase log n) ≡ not (is_hidden log n)
up-is log n = up-hidden (is_hidden log n) (is_some (given log n)) (has_received Create log n) (has_unjudged Create log n) (has_received Kill log n) (has_unjudged Kill log n)

-- a grant hides nothing
up-before : (log : List ScopeEvent) (n : ℕ) → is_up (scope.phase (scope.Grant ∷ log) n) ≡ true → is_up (scope.phase log n) ≡ true
up-before log n up = up-is log n ∙ sym (up-is (scope.Grant ∷ log) n) ∙ up

written-up : (p : Phase) (op : Op) → IsWriteStep p op → is_kill op ≡ false → is_up p ≡ true
written-up Wanted Create h e = refl
written-up Live Update h e = refl
written-up p Kill h e = absurd (cc)
written-up p op h e = absurd h

pub supplies : (t : Terms) (log : List GhostEvent) (ranges : ℕ → ℕ → Option (ℤ × ℤ)) → HasRanges t log ranges → (cs : List Choice) → AllByRecursion (IsItem t.kinds (Grant ∷ log)) cs → AllByRecursion (Supplies t.kinds (Grant ∷ log) ranges) cs
supplies t log ranges has [] items = tt
supplies t log ranges has (c ∷ cs) items = (
  λ writes j spec is. subst (λ m. ranges c.n m ≡ Some (spec.lo, spec.hi)) (let e : j ≡ 0 + j = omega arith in e) (has c.n j spec (record { shown = items.0.shown; up = up-before (scope_log log) c.n (written-up (phase (Grant ∷ log) c.n) c.op items.0.step writes) }) is),
  supplies t log ranges has cs items.1,
)

-- ---- two lists that the same table of periods stands for

pub same-carried : (p : Table) → IsOrdered p → (kinds : List Kind) (a b : List GhostEvent) → PeriodsStandFor p (scope_log a) → PeriodsStandFor p (scope_log b) → (cs : List Choice) → AllByRecursion (IsItem kinds a) cs → all_carried kinds a cs ≡ all_carried kinds b cs
same-carried p ordered kinds a b sa sb [] items = refl
same-carried p ordered kinds a b sa sb (c ∷ cs) items =
    let alive = of_period p kinds a sa c items.0 in
    let same : kind_of a c.n ≡ kind_of b c.n = sym (kind_told p ordered c.n (scope_log a) sa alive.shown alive.alive) ∙ kind_told p ordered c.n (scope_log b) sb alive.shown alive.alive in
    λ j. carried_by c.op c.mask (fields_of kinds (same j)) ++ same-carried p ordered kinds a b sa sb cs items.1 j
