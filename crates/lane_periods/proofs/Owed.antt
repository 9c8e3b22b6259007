-- Drains make fields owed, and a read pays for the field of its own period alone. What a pack reads are new entries of the view.
use Rattle.std.proofs.Common.{◌≡◌, ⊎_elim, ℕ, ◌+◌, ◌<◌, ◌/◌, ◌%◌, ◌^◌, Bool, true, false, not, ◌&&◌, ◌||◌, ◌==◌, List, [], ◌∷◌, ◌++◌, map, refl, sym, ap, ◌∙◌, subst, arith, append_assoc, append-nil}
use Rattle.std.specs.Prelude.{slice_index}
use Rattle.std.specs.List.{AllByRecursion, AllZip}
use Rattle.std.specs.Int.{bit_at}
use Rattle.std.proofs.lemmas.Bool.{eq-eqb, eqb-true}
use Rattle.std.proofs.lemmas.Nat.Bits.{bit_at_cat_low}
use Rattle.std.proofs.Math.Nat.{div-add-mod}
use Rattle.tn_types.specs.BitWords.{has_bit}
use Rattle.tn_types.specs.declared.choices.Drain.{Drain}
use Rattle.tn_types.specs.declared.choices.Read.{Read}
use Rattle.quantised_fields.specs.declared.kind.Kind.{Kind}
use Rattle.dirty_lanes.specs.declared.view.ReadField.{ReadField}
use Rattle.dirty_lanes.specs.declared.view.PackStep.{PackStep}
use Rattle.dirty_lanes.specs.declared.view.PackStep.TheVariants as step
use Rattle.dirty_lanes.specs.Views.{owes, drains, reads, a_drain}
use Rattle.lane_periods.specs.Periods.{PeriodList, has, ArePeriods, field_count}
use Rattle.lane_periods.specs.Views.{IsTheRead, read_onto, ReadsOnto, is_read, owes_of, is_drained, drained_onto, entries, own_bits, Drains}
use Rattle.lane_periods.proofs.Numbers.{same-number, or-cases, or-second, and-both}

bool-cases : {P : Type 0} (b : Bool) → (b ≡ true → P) → (b ≡ false → P) → P
bool-cases true f g = f refl
bool-cases false f g = g refl

and-assoc : (a b c : Bool) → (a && (b && c)) ≡ ((a && b) && c)
and-assoc true b c = refl
and-assoc false b c = refl

and-true : (a : Bool) → (a && true) ≡ a
and-true true = refl
and-true false = refl

not-same : (m n : ℕ) → (m == n) ≡ false → m ≡ n → ⊥
not-same m n e same = let t : (m == n) ≡ true = eq-eqb m n same in cc

differ : (m n : ℕ) → (m ≡ n → ⊥) → (m == n) ≡ false
differ m n apart = bool-cases (m == n) (λ e. absurd (apart (eqb-true m n e))) (λ e. e)

-- ---- a read

pub pays : (objects kinds up : List ℕ) (view : List PackStep) (x : ReadField) (n : ℕ) → ArePeriods objects kinds up → has n up ≡ true → x.object ≡ slice_index objects n
    → (m f : ℕ) → owes_of objects up (step.Read x ∷ view) m f ≡ (owes_of objects up view m f && not ((n == m) && (x.field == f)))
pays objects kinds up view x n are here is m f =
    bool-cases (n == m)
    (λ (e : (n == m) ≡ true).
    let same : n ≡ m = eqb-true n m e in
    let object : (x.object == slice_index objects m) ≡ true = eq-eqb x.object (slice_index objects m) (is ∙ ap (slice_index objects) same) in
    ap (λ b. has m up && (owes view (slice_index objects m) f && not (b && (x.field == f)))) object
    ∙ and-assoc (has m up) (owes view (slice_index objects m) f) (not (x.field == f))
    ∙ ap (λ b. owes_of objects up view m f && not (b && (x.field == f))) (sym e))
    (λ (e : (n == m) ≡ false).
    bool-cases (has m up)
    (λ (there : has m up ≡ true).
    let object : (x.object == slice_index objects m) ≡ false = differ x.object (slice_index objects m) (λ q. not-same n m e (are.apart n m here there (sym is ∙ q))) in
    ap (λ b. has m up && (owes view (slice_index objects m) f && not (b && (x.field == f)))) object
    ∙ ap (λ b. has m up && b) (and-true (owes view (slice_index objects m) f))
    ∙ sym (and-true (owes_of objects up view m f))
    ∙ ap (λ b. owes_of objects up view m f && not (b && (x.field == f))) (sym e))
    (λ (there : has m up ≡ false).
    ap (λ b. b && (owes view (slice_index objects m) f && not ((x.object == slice_index objects m) && (x.field == f)))) there
    ∙ ap (λ b. (b && owes view (slice_index objects m) f) && not ((n == m) && (x.field == f))) (sym there)))

-- ---- all reads of a pack

drains-read : (xs : List ReadField) (view : List PackStep) → drains (read_onto xs view) ≡ drains view
drains-read [] view = refl
drains-read (x ∷ xs) view = drains-read xs (step.Read x ∷ view)

reads-onto : (xs : List ReadField) (view : List PackStep) → reads (read_onto xs view) ≡ reads view ++ xs
reads-onto [] view = sym (append-nil (reads view))
reads-onto (x ∷ xs) view = reads-onto xs (step.Read x ∷ view) ∙ append_assoc (reads view) (x ∷ []) xs

paid-twice : (o a b : Bool) → ((o && not a) && not b) ≡ (o && not (a || b))
paid-twice true true b = refl
paid-twice true false b = refl
paid-twice false a b = refl

all-paid : (objects kinds up : List ℕ) (table : List Kind) → ArePeriods objects kinds up → (xs : List ReadField) (rs : List Read) (view : List PackStep) → AllZip (IsTheRead objects kinds table) xs rs
    → AllByRecursion (λ (r : Read). has r.n up ≡ true) rs → (n f : ℕ) → owes_of objects up (read_onto xs view) n f ≡ (owes_of objects up view n f && not (is_read rs n f))
all-paid objects kinds up table are [] [] view each here n f = sym (and-true (owes_of objects up view n f))
all-paid objects kinds up table are [] (r ∷ rs) view each here n f = absurd each
all-paid objects kinds up table are (x ∷ xs) [] view each here n f = absurd each
all-paid objects kinds up table are (x ∷ xs) (r ∷ rs) view each here n f =
    all-paid objects kinds up table are xs rs (step.Read x ∷ view) each.1 here.1 n f
    ∙ ap (λ (o : Bool). o && not (is_read rs n f)) (pays objects kinds up view x r.n are here.0 each.0.object n f ∙ ap (λ (k : ℕ). owes_of objects up view n f && not ((r.n == n) && (k == f))) each.0.field)
    ∙ paid-twice (owes_of objects up view n f) ((r.n == n) && (r.field == f)) (is_read rs n f)

-- the view has the new entries behind those that it had, what was read is owed no more, and nothing was drained
module _ (p : PeriodList) (old new : List PackStep) (rs : List Read) (o : ReadsOnto p old rs new) where
  pub reads-entered : reads new ≡ reads old ++ o.added
  reads-entered = ap reads o.onto ∙ reads-onto o.added old

  pub reads-pay : ArePeriods p.objects p.kinds p.up → (n f : ℕ) → owes_of p.objects p.up new n f ≡ (owes_of p.objects p.up old n f && not (is_read rs n f))
  reads-pay are n f = subst (λ v. owes_of p.objects p.up v n f ≡ (owes_of p.objects p.up old n f && not (is_read rs n f))) (sym o.onto) (all-paid p.objects p.kinds p.up p.table are o.added rs old o.each o.up n f)

  pub reads-drain : drains new ≡ drains old
  reads-drain = ap drains o.onto ∙ drains-read o.added old

-- ---- drains

pub drains-onto : (objects : List ℕ) (ds : List Drain) (view : List PackStep) → drains (drained_onto objects ds view) ≡ drains view ++ entries objects ds
drains-onto objects [] view = sym (append-nil (drains view))
drains-onto objects (d ∷ ds) view =
    drains-onto objects ds (a_drain (slice_index objects d.n) d.bits ∷ view)
    ∙ append_assoc (drains view) (record { object = slice_index objects d.n; bits = d.bits } ∷ []) (entries objects ds)

reads-drained : (objects : List ℕ) (ds : List Drain) (view : List PackStep) → reads (drained_onto objects ds view) ≡ reads view
reads-drained objects [] view = refl
reads-drained objects (d ∷ ds) view = reads-drained objects ds (a_drain (slice_index objects d.n) d.bits ∷ view)

pub onto-more : (objects : List ℕ) (ds : List Drain) (d : Drain) (view : List PackStep) → drained_onto objects (ds ++ d ∷ []) view ≡ a_drain (slice_index objects d.n) d.bits ∷ drained_onto objects ds view
onto-more objects [] d view = refl
onto-more objects (x ∷ ds) d view = onto-more objects ds d (a_drain (slice_index objects x.n) x.bits ∷ view)

-- what is owed after the drains was owed before, or one of them has it: each is of a period that is up
module _ (objects kinds up : List ℕ) (are : ArePeriods objects kinds up) (n f : ℕ) where
  pub owed-onto : (ds : List Drain) (view : List PackStep) → AllByRecursion (λ (d : Drain). has d.n up ≡ true) ds
      → owes_of objects up (drained_onto objects ds view) n f ≡ true → (owes_of objects up view n f || is_drained ds n f) ≡ true
  owed-onto [] view all e = ap (λ b. b || false) e
  owed-onto (d ∷ ds) view all e =
      ⊎_elim
      (λ (h : owes_of objects up (a_drain (slice_index objects d.n) d.bits ∷ view) n f ≡ true).
      let two = and-both (has n up) (((slice_index objects d.n == slice_index objects n) && has_bit d.bits f) || owes view (slice_index objects n) f) h in
      ⊎_elim
      (λ (x : ((slice_index objects d.n == slice_index objects n) && has_bit d.bits f) ≡ true).
      let bits = and-both (slice_index objects d.n == slice_index objects n) (has_bit d.bits f) x in
      let same : d.n ≡ n = are.apart d.n n all.0 two.0 (eqb-true (slice_index objects d.n) (slice_index objects n) bits.0) in
      ap (λ b. owes_of objects up view n f || (b || is_drained ds n f)) ((λ j. eq-eqb d.n n same j && bits.1 j))
      ∙ or-second (owes_of objects up view n f))
      (λ (x : owes view (slice_index objects n) f ≡ true). ap (λ b. b || is_drained (d ∷ ds) n f) ((λ j. two.0 j && x j)))
      (or-cases ((slice_index objects d.n == slice_index objects n) && has_bit d.bits f) (owes view (slice_index objects n) f) two.1))
      (λ (h : is_drained ds n f ≡ true).
      ap (λ b. owes_of objects up view n f || (((d.n == n) && has_bit d.bits f) || b)) h
      ∙ ap (λ b. owes_of objects up view n f || b) (or-second ((d.n == n) && has_bit d.bits f)) ∙ or-second (owes_of objects up view n f))
      (or-cases (owes_of objects up (a_drain (slice_index objects d.n) d.bits ∷ view) n f) (is_drained ds n f)
      (owed-onto ds (a_drain (slice_index objects d.n) d.bits ∷ view) all.1 e))

low-bit : (word k f : ℕ) → f < k → bit_at (word % 2 ^ k) f ≡ bit_at word f
low-bit word k f lt = sym (bit_at_cat_low (word / 2 ^ k) k (word % 2 ^ k) f lt) ∙ ap (λ n. bit_at n f) (ap (λ n. n + word % 2 ^ k) (omega arith) ∙ div-add-mod word (2 ^ k))

-- the bits that are fields of the period are all in what is kept of a word
pub own-drained : (table : List Kind) (kinds : List ℕ) (n f : ℕ) → f < field_count table kinds n → (ds : List Drain) → is_drained (map (own_bits table kinds) ds) n f ≡ is_drained ds n f
own-drained table kinds n f few [] = refl
own-drained table kinds n f few (d ∷ ds) = let rest = own-drained table kinds n f few ds in (λ j. own j || rest j)
  where
    own : ((d.n == n) && has_bit (d.bits % 2 ^ field_count table kinds d.n) f) ≡ ((d.n == n) && has_bit d.bits f)
    own = bool-cases (d.n == n)
        (λ (e : (d.n == n) ≡ true).
        let k : f < field_count table kinds d.n = subst (λ m. f < field_count table kinds m) (sym (eqb-true d.n n e)) few in
        ap (λ b. (d.n == n) && (b == 1)) (low-bit d.bits (field_count table kinds d.n) f k))
        (λ (e : (d.n == n) ≡ false). ap (λ b. b && has_bit (d.bits % 2 ^ field_count table kinds d.n) f) e ∙ sym (ap (λ b. b && has_bit d.bits f) e))

all-up : (ups : List ℕ) (ds : List Drain) (ns : List ℕ) → map (λ (d : Drain). d.n) ds ≡ ns → ((n : ℕ) → has n ns ≡ true → has n ups ≡ true) → AllByRecursion (λ (d : Drain). has d.n ups ≡ true) ds
all-up ups [] ns e h = tt
all-up ups (d ∷ ds) ns e h = (
  h d.n (subst (λ l. has d.n l ≡ true) e (ap (λ b. b || has d.n (map (λ (x : Drain). x.n) ds)) (same-number d.n))),
  all-up ups ds (map (λ (x : Drain). x.n) ds) refl (λ n k. h n (subst (λ l. has n l ≡ true) e (ap (λ b. (d.n == n) || b) k ∙ or-second (d.n == n)))),
)

-- ---- all drains of a pack

module _ (p : PeriodList) (old new : List PackStep) (ds : List Drain) (are : ArePeriods p.objects p.kinds p.up) (d : Drains p old new ds) where
  pub each-up : AllByRecursion (λ (x : Drain). has x.n p.up ≡ true) d.words
  each-up = all-up p.up d.words p.up d.each (λ n h. h)

  pub drains-owed : (n f : ℕ) → f < field_count p.table p.kinds n → owes_of p.objects p.up new n f ≡ true → (owes_of p.objects p.up old n f || is_drained ds n f) ≡ true
  drains-owed n f few e =
      ap (λ b. owes_of p.objects p.up old n f || b) (ap (λ l. is_drained l n f) d.own ∙ own-drained p.table p.kinds n f few d.words)
      ∙ owed-onto p.objects p.kinds p.up are n f d.words old each-up (subst (λ v. owes_of p.objects p.up v n f ≡ true) d.taken e)

  pub drains-read_nothing : reads new ≡ reads old
  drains-read_nothing = ap reads d.taken ∙ reads-drained p.objects d.words old

  pub drains-entries : drains new ≡ drains old ++ entries p.objects d.words
  drains-entries = ap drains d.taken ∙ drains-onto p.objects d.words old
