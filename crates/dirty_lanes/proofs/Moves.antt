-- Each kind of step keeps the rule.
use Rattle.std.proofs.Common.{◌≡◌, ◌≢◌, ◌⊎◌, ℕ, zero, suc, ◌+◌, ◌-◌, ◌*◌, ◌/◌, ◌%◌, ◌<◌, ◌≤◌, Bool, true, false, ◌==◌, List, [], ◌∷◌, ◌++◌, length, get_or, set, Some, refl, sym, ap, ◌∙◌, subst, ⊎_elim, inl, inr, arith, length-set, get_or-set_other, get_or-set_same}
use Rattle.std.specs.Prelude.{slice_get, slice_index, if◌then◌else◌}
use Rattle.std.specs.Int.Bits.{bit_or}
use Rattle.std.proofs.lemmas.Nat.{or_of_16}
use native.Mathlib.Decide.{ℕ_discrete}
use mathlib.Core.Logic.{dite}
use mathlib.Core.Option.{some, some-injective, some-ne-none}
use lib.ListN.{get_elem?}
use Rattle.atomic_table.specs.Table.{State, keeps, Allows, Splits, Joins, opening}
use Rattle.atomic_table.proofs.Lists.{at_set, set_here, set_else, at_longer}
use Rattle.dirty_lanes.specs.declared.view.WrittenField.{WrittenField}
use Rattle.dirty_lanes.specs.declared.view.RaisedBits.{RaisedBits}
use Rattle.dirty_lanes.specs.declared.view.DrainedBits.{DrainedBits}
use Rattle.dirty_lanes.specs.declared.view.ReadField.{ReadField}
use Rattle.dirty_lanes.specs.declared.view.SimStep.{SimStep}
use Rattle.dirty_lanes.specs.declared.view.SimStep.TheVariants.{Write, Raise}
use Rattle.dirty_lanes.specs.declared.view.PackStep.{PackStep}
use Rattle.dirty_lanes.specs.declared.view.PackStep.TheVariants.{Drain, Read}
use Rattle.dirty_lanes.specs.declared.view.PackView.{PackView}
use Rattle.dirty_lanes.specs.declared.view.SimView.{SimView}
use Rattle.dirty_lanes.specs.declared.view.View.{View}
use Rattle.dirty_lanes.specs.declared.view.View.TheVariants.{Spent, Sim, Packer}
use Rattle.dirty_lanes.specs.Views.{is_at, newest, newest_value, values, last_read, raises_of, drains_of}
use Rattle.dirty_lanes.specs.Words.{field_word, mask_word, packed}
use Rattle.dirty_lanes.specs.Rule.{covered, Follows, Joined, Fits, RuleHolds, with_write, with_raise, with_drain, with_read, NotBelow, IsOpened, one_less, new_packer, with_packer, DrainsTake}
use Rattle.dirty_lanes.proofs.LaneWords.{bool_cases, same_out, test_here, test_out, field_object, field_place, mask_object, mask_client, fields_apart, masks_apart, kinds_apart, set_back}
use Rattle.dirty_lanes.proofs.Covers.{values-newest, stand_write, stand_raise, below_write, covered_write, covered_raise_else, covered_raise, covered_drain_else, covered_drain, covered_read_else, covered_read, opening_value, takes_raise_here, takes_raise_else, takes_drain_here, takes_drain_else}

abbrev St : Type 0
St = State (Unit {0}) View

-- all views after one has changed
each_set : (P Q : ℕ → View → Type 0) (views : List View) (id : ℕ) (w : View) → ((i : ℕ) (v : View) → i ≢ id → get_elem? views i ≡ some v → P i v → Q i v) → Q id w
    → ((i : ℕ) (v : View) → get_elem? views i ≡ some v → P i v) → (i : ℕ) (v : View) → get_elem? (set views id w) i ≡ some v → Q i v
each_set P Q views id w others mine all i v e =
    ⊎_elim
    (λ (x : (i ≡ id) × (w ≡ v)). subst (λ (y : ℕ × View). Q y.0 y.1) (λ k. (sym x.0 k, x.1 k)) mine)
    (λ (x : (i ≢ id) × (get_elem? views i ≡ some v)). others i v x.0 x.1 (all i v x.1))
    (at_set views id i w v e)

-- an index that is there
within : (views : List View) (i : ℕ) (v : View) → get_elem? views i ≡ some v → i < length views
within [] i v e = absurd (some-ne-none v (sym e))
within (x ∷ xs) zero v e = omega arith
within (x ∷ xs) (suc i) v e = let h = within xs i v e in omega arith

-- ---- the simulation's steps
-- the seat is the simulation's, and its view is now
pub mine : (objects : ℕ) (s : St) (k : RuleHolds objects s) (id : ℕ) (v : SimView) → get_elem? s.views id ≡ some (Sim v) → (id ≡ k.seat) × (v ≡ k.now)
mine objects s k id v at = k.each id (Sim v) at

sim_others : (seat : ℕ) (now next : SimView) (logs : ℕ → List PackStep) (owner : ℕ → ℕ) (id : ℕ) → id ≡ seat → next.left ≡ now.left → (i : ℕ) (v : View) → i ≢ id → Fits seat now logs owner i v → Fits seat next logs owner i v
sim_others seat now next logs owner id is left i Spent ne h = tt
sim_others seat now next logs owner id is left i (Sim v) ne h = absurd (ne (h.0 ∙ sym is))
sim_others seat now next logs owner id is left i (Packer p) ne h = (h.0, h.1, omega (arith, h.2))

-- the simulation's list grows; the words change
sim_step : (objects : ℕ) (s : St) (k : RuleHolds objects s) (id : ℕ) (next : SimView) (words : List ℕ) → get_elem? s.views id ≡ some (Sim k.now) → next.left ≡ k.now.left → next.joined ≡ k.now.joined
    → length words ≡ length s.words
    → ((o f : ℕ) → newest_value next.steps o f < 4294967296)
    → ((o f : ℕ) → f < 16 → o < objects → slice_index words (field_word o f) ≡ packed (newest next.steps o f) (newest_value next.steps o f))
    → ((c o : ℕ) → c < 16 → o < objects → slice_index words (mask_word c o) < 65536)
    → ((c : ℕ) → c < 16 → Follows objects next.steps words c (k.logs c))
    → RuleHolds objects (record { words = words; homes = s.homes; views = set s.views id (Sim next) })
sim_step objects s k id next words at left joined long small fields masks follows =
    let me = mine objects s k id k.now at in
    record {
      wide = long ∙ k.wide;
      seat = id;
      now = next;
      logs = k.logs;
      owner = k.owner;
      sits = set_here s.views id (Sim next) (within s.views id (Sim k.now) at);
      each = each_set (Fits k.seat k.now k.logs k.owner) (Fits id next k.logs k.owner) s.views id (Sim next)
          (λ i v ne _ h. subst (λ (z : ℕ). Fits z next k.logs k.owner i v) (sym me.0) (sim_others k.seat k.now next k.logs k.owner id me.0 left i v ne h))
          (refl, refl) k.each;
      joined = subst (λ (z : ℕ × ℕ × List PackView). Joined z.0 k.logs k.owner z.1 z.2) (λ j. (sym me.0 j, sym left j, sym joined j)) k.joined;
      unborn = λ c lt. k.unborn c (omega arith);
      small = small;
      fields = fields;
      masks = masks;
      follows = follows;
    }

fields_write : (objects : ℕ) (sim : List SimStep) (words : List ℕ) (w : WrittenField) → w.field < 16 → w.object < objects → length words ≡ 32 * objects + 1
    → ((o f : ℕ) → f < 16 → o < objects → slice_index words (field_word o f) ≡ packed (newest sim o f) (newest_value sim o f))
    → (o f : ℕ) → f < 16 → o < objects → slice_index (set words (field_word w.object w.field) (packed (newest sim w.object w.field + 1) w.value)) (field_word o f) ≡ packed (newest (Write w ∷ sim) o f) (newest_value (Write w ∷ sim) o f)
fields_write objects sim words w small inside wide ih o f lt here =
    bool_cases (is_at w.object w.field o f)
    (λ e.
    let p = same_out w.object w.field o f e in
    rw e (
    subst (λ (z : ℕ × ℕ). get_or (set words (field_word w.object w.field) (packed (newest sim w.object w.field + 1) w.value)) (field_word z.0 z.1) 0 ≡ packed (newest sim z.0 z.1 + 1) w.value) (λ j. (p.0 j, p.1 j))
    (get_or-set_same words (field_word w.object w.field) (packed (newest sim w.object w.field + 1) w.value) 0 (omega arith))))
    (λ e.
    rw e (get_or-set_other words (field_word w.object w.field) (field_word o f) (packed (newest sim w.object w.field + 1) w.value) 0 (fields_apart o f w.object w.field lt small e) ∙ ih o f lt here))

follows_write : (objects : ℕ) (sim : List SimStep) (words : List ℕ) (w : WrittenField) (n c : ℕ) (log : List PackStep) → w.field < 16 → c < 16 → Follows objects sim words c log → Follows objects (Write w ∷ sim) (set words (field_word w.object w.field) n) c log
follows_write objects sim words w n c log small few h = record {
  stand = stand_write sim w log h.stand;
  below = λ o f. below_write sim w log o f (h.below o f);
  takes = λ o here.
      subst (λ (m : ℕ). DrainsTake m (drains_of log o) (raises_of sim c o))
      (sym (get_or-set_other words (field_word w.object w.field) (mask_word c o) n 0 (λ e. kinds_apart w.object w.field c o small few (sym e)))) (h.takes o here);
  covers = λ o f lt here.
      covered_write sim w log c _ o f
      (subst (λ (m : ℕ). covered sim log c m o f ≡ true) (sym (get_or-set_other words (field_word w.object w.field) (mask_word c o) n 0 (λ e. kinds_apart w.object w.field c o small few (sym e)))) (h.covers o f lt here));
}

small_write : (sim : List SimStep) (w : WrittenField) → w.value < 4294967296 → ((o f : ℕ) → newest_value sim o f < 4294967296) → (o f : ℕ) → newest_value (Write w ∷ sim) o f < 4294967296
small_write sim w lt ih o f = pick (is_at w.object w.field o f)
  where
    pick : (b : Bool) → (if b then w.value else newest_value sim o f) < 4294967296
    pick true = lt
    pick false = ih o f

pub wrote_is : (v : SimView) (o f n : ℕ) → f < 16 → with_write (field_word o f) n (Sim v) ≡ Sim (record v { steps = Write (record { object = o; field = f; value = n % 4294967296 }) ∷ v.steps })
wrote_is v o f n lt = λ j. Sim (record v { steps = Write (record { object = field_object o f (omega arith) j; field = field_place o f (omega arith) j; value = n % 4294967296 }) ∷ v.steps })

pub writes : (objects slots id : ℕ) (v : SimView) (o f x : ℕ) → f < 16 → o < objects → x < 4294967296
    → Allows (RuleHolds objects) slots id (Sim v, []) (field_word o f) (λ _. packed (newest v.steps o f + 1) x) (λ _ w. (w.0 ≡ with_write (field_word o f) (packed (newest v.steps o f + 1) x) (Sim v)) × (w.1 ≡ []))
writes objects slots id v o f x lt here fits s k _ at _ =
    let me = mine objects s k id v at in
    let w : WrittenField = record { object = o; field = f; value = x } in
    let next : SimView = record v { steps = Write w ∷ v.steps } in
    let n : ℕ = packed (newest v.steps o f + 1) x in
    let same_value : n % 4294967296 ≡ x = omega arith in
    let at' : get_elem? s.views id ≡ some (Sim k.now) = at ∙ ap (λ (u : SimView). some (Sim u)) me.1 in
    let fields' = subst (λ (u : SimView). (o f : ℕ) → f < 16 → o < objects → slice_index s.words (field_word o f) ≡ packed (newest u.steps o f) (newest_value u.steps o f)) (sym me.1) k.fields in
    let small' = subst (λ (u : SimView). (o f : ℕ) → newest_value u.steps o f < 4294967296) (sym me.1) k.small in
    let follows' = subst (λ (u : SimView). (c : ℕ) → c < 16 → Follows objects u.steps s.words c (k.logs c)) (sym me.1) k.follows in (
      Sim next,
      keeps,
      tt,
      sim_step objects s k id next (set s.words (field_word o f) n) at' (ap (λ (u : SimView). u.left) me.1) (ap (λ (u : SimView). u.joined) me.1) (length-set s.words (field_word o f) n) (small_write v.steps w fits small')
          (fields_write objects v.steps s.words w lt here k.wide fields')
          (λ c a few inside. let ne = (λ (e : mask_word c a ≡ field_word o f). kinds_apart o f c a lt few (sym e)) in rw (get_or-set_other s.words (field_word o f) (mask_word c a) n 0 ne) (k.masks c a few inside))
          (λ c few. follows_write objects v.steps s.words w n c (k.logs c) lt few (follows' c few)),
      (sym (wrote_is v o f n lt ∙ ap (λ (y : ℕ). Sim (record v { steps = Write (record { object = o; field = f; value = y }) ∷ v.steps })) same_value), refl),
    )

fields_raise : (objects : ℕ) (sim : List SimStep) (words : List ℕ) (r : RaisedBits) (n : ℕ) → r.client < 16
    → ((o f : ℕ) → f < 16 → o < objects → slice_index words (field_word o f) ≡ packed (newest sim o f) (newest_value sim o f))
    → (o f : ℕ) → f < 16 → o < objects → slice_index (set words (mask_word r.client r.object) n) (field_word o f) ≡ packed (newest sim o f) (newest_value sim o f)
fields_raise objects sim words r n few ih o f lt here = get_or-set_other words (mask_word r.client r.object) (field_word o f) n 0 (kinds_apart o f r.client r.object lt few) ∙ ih o f lt here

follows_raise : (objects : ℕ) (sim : List SimStep) (words : List ℕ) (r : RaisedBits) (c : ℕ) (log : List PackStep) → r.client < 16 → r.object < objects → length words ≡ 32 * objects + 1 → c < 16
    → Follows objects sim words c log → Follows objects (Raise r ∷ sim) (set words (mask_word r.client r.object) (bit_or (slice_index words (mask_word r.client r.object)) r.bits)) c log
follows_raise objects sim words r c log there inside wide few h =
    let n : ℕ = bit_or (slice_index words (mask_word r.client r.object)) r.bits in
    record {
      stand = stand_raise sim r log h.stand;
      below = h.below;
      takes = λ o here.
          bool_cases (is_at r.client r.object c o)
          (λ e.
          let p = same_out r.client r.object c o e in
          let is : get_or (set words (mask_word r.client r.object) n) (mask_word c o) 0 ≡ bit_or (get_or words (mask_word c o) 0) r.bits =
          subst (λ (z : ℕ × ℕ). get_or (set words (mask_word r.client r.object) n) (mask_word z.0 z.1) 0 ≡ bit_or (get_or words (mask_word z.0 z.1) 0) r.bits) (λ j. (p.0 j, p.1 j)) (get_or-set_same words (mask_word r.client r.object) n 0 (omega arith)) in
          subst (λ (m : ℕ). DrainsTake m (drains_of log o) (raises_of (Raise r ∷ sim) c o)) (sym is) (takes_raise_here sim r (drains_of log o) c (get_or words (mask_word c o) 0) o e (h.takes o here)))
          (λ e.
          let is = get_or-set_other words (mask_word r.client r.object) (mask_word c o) n 0 (masks_apart c o r.client r.object few there e) in
          subst (λ (m : ℕ). DrainsTake m (drains_of log o) (raises_of (Raise r ∷ sim) c o)) (sym is) (takes_raise_else sim r (drains_of log o) c (get_or words (mask_word c o) 0) o e (h.takes o here)));
      covers = λ o f lt here.
          bool_cases (is_at r.client r.object c o)
          (λ e.
          let p = same_out r.client r.object c o e in
          let is : get_or (set words (mask_word r.client r.object) n) (mask_word c o) 0 ≡ bit_or (get_or words (mask_word c o) 0) r.bits =
          subst (λ (z : ℕ × ℕ). get_or (set words (mask_word r.client r.object) n) (mask_word z.0 z.1) 0 ≡ bit_or (get_or words (mask_word z.0 z.1) 0) r.bits) (λ j. (p.0 j, p.1 j)) (get_or-set_same words (mask_word r.client r.object) n 0 (omega arith)) in
          subst (λ (m : ℕ). covered (Raise r ∷ sim) log c m o f ≡ true) (sym is) (covered_raise sim r log c (get_or words (mask_word c o) 0) o f e (h.covers o f lt here)))
          (λ e.
          let is = get_or-set_other words (mask_word r.client r.object) (mask_word c o) n 0 (masks_apart c o r.client r.object few there e) in
          subst (λ (m : ℕ). covered (Raise r ∷ sim) log c m o f ≡ true) (sym is) (covered_raise_else sim r log c (get_or words (mask_word c o) 0) o f e (h.covers o f lt here)));
    }

-- masks after one of them has changed
masks_set : (objects : ℕ) (words : List ℕ) (d a n : ℕ) → length words ≡ 32 * objects + 1 → d < 16 → a < objects → n < 65536 → ((c o : ℕ) → c < 16 → o < objects → slice_index words (mask_word c o) < 65536)
    → (c o : ℕ) → c < 16 → o < objects → slice_index (set words (mask_word d a) n) (mask_word c o) < 65536
masks_set objects words d a n wide there inside small all c o few here =
    dite (ℕ_discrete (mask_word c o) (mask_word d a))
    (λ (e : mask_word c o ≡ mask_word d a). subst (λ (z : ℕ). get_or (set words (mask_word d a) n) z 0 < 65536) (sym e) (rw (get_or-set_same words (mask_word d a) n 0 (omega arith)) small))
    (λ (ne : mask_word c o ≢ mask_word d a). rw (get_or-set_other words (mask_word d a) (mask_word c o) n 0 ne) (all c o few here))

pub raised_is : (v : SimView) (c o n : ℕ) → c < 16 → with_raise (mask_word c o) n (Sim v) ≡ Sim (record v { steps = Raise (record { client = c; object = o; bits = n }) ∷ v.steps })
raised_is v c o n lt = λ j. Sim (record v { steps = Raise (record { client = mask_client c o lt j; object = mask_object c o lt j; bits = n }) ∷ v.steps })

pub raises : (objects slots id : ℕ) (v : SimView) (c o bits : ℕ) → c < 16 → o < objects → bits < 65536
    → Allows (RuleHolds objects) slots id (Sim v, []) (mask_word c o) (λ n. bit_or n bits) (λ _ w. (w.0 ≡ with_raise (mask_word c o) bits (Sim v)) × (w.1 ≡ []))
raises objects slots id v c o bits few here small_bits s k _ at _ =
    let me = mine objects s k id v at in
    let r : RaisedBits = record { client = c; object = o; bits = bits } in
    let next : SimView = record v { steps = Raise r ∷ v.steps } in
    let n : ℕ = bit_or (slice_index s.words (mask_word c o)) bits in
    let at' : get_elem? s.views id ≡ some (Sim k.now) = at ∙ ap (λ (u : SimView). some (Sim u)) me.1 in
    let fields' = subst (λ (u : SimView). (o f : ℕ) → f < 16 → o < objects → slice_index s.words (field_word o f) ≡ packed (newest u.steps o f) (newest_value u.steps o f)) (sym me.1) k.fields in
    let small' = subst (λ (u : SimView). (o f : ℕ) → newest_value u.steps o f < 4294967296) (sym me.1) k.small in
    let follows' = subst (λ (u : SimView). (c : ℕ) → c < 16 → Follows objects u.steps s.words c (k.logs c)) (sym me.1) k.follows in (
      Sim next,
      keeps,
      tt,
      sim_step objects s k id next (set s.words (mask_word c o) n) at' (ap (λ (u : SimView). u.left) me.1) (ap (λ (u : SimView). u.joined) me.1) (length-set s.words (mask_word c o) n) small'
          (fields_raise objects v.steps s.words r n few fields')
          (masks_set objects s.words c o n k.wide few here (or_of_16 (slice_index s.words (mask_word c o)) bits (k.masks c o few here) small_bits) k.masks)
          (λ d lt. follows_raise objects v.steps s.words r d (k.logs d) few here k.wide lt (follows' d lt)),
      (sym (raised_is v c o bits few), refl),
    )

-- ---- a packer's steps
with_log : (ℕ → List PackStep) → ℕ → List PackStep → ℕ → List PackStep
with_log logs d l c = if c == d then l else logs c

log_here : (logs : ℕ → List PackStep) (d : ℕ) (l : List PackStep) (c : ℕ) → c ≡ d → with_log logs d l c ≡ l
unfolding with_log
log_here logs d l c e = rw (e, test_here d) refl

test_apart : (c d : ℕ) → c ≢ d → (c == d) ≡ false
test_apart c d ne = bool_cases (c == d) (λ e. absurd (ne (test_out c d e))) (λ e. e)

log_else : (logs : ℕ → List PackStep) (d : ℕ) (l : List PackStep) (c : ℕ) → c ≢ d → with_log logs d l c ≡ logs c
unfolding with_log
log_else logs d l c ne = rw (test_apart c d ne) refl

joined_map : (seat : ℕ) (logs more : ℕ → List PackStep) (owner next : ℕ → ℕ) (left less : ℕ) (ps : List PackView) → less ≤ left
    → ((c : ℕ) → left ≤ c → owner c ≡ seat → (next c ≡ seat) × (more c ≡ logs c)) → Joined seat logs owner left ps → Joined seat more next less ps
joined_map seat logs more owner next left less [] h f j = tt
joined_map seat logs more owner next left less (p ∷ ps) h f j =
    let x = f p.client j.2 j.0 in
    (x.0, j.1 ∙ sym x.1, (let a = j.2 in omega arith), joined_map seat logs more owner next left less ps h f j.3)

not_sim : (objects : ℕ) (s : St) (k : RuleHolds objects s) (id : ℕ) (p : PackView) → get_elem? s.views id ≡ some (Packer p) → id ≢ k.seat
not_sim objects s k id p at e = absurd (clash (subst (λ (i : ℕ). get_elem? s.views i ≡ some (Packer p)) e at))
  where
    clash : get_elem? s.views k.seat ≡ some (Packer p) → ⊥
    clash h = let is : Sim k.now ≡ Packer p = some-injective (Sim k.now) (Packer p) (sym k.sits ∙ h) in cc

pack_step : (objects : ℕ) (s : St) (k : RuleHolds objects s) (id : ℕ) (p : PackView) (x : PackStep) (words : List ℕ) → get_elem? s.views id ≡ some (Packer p)
    → length words ≡ length s.words
    → ((o f : ℕ) → f < 16 → o < objects → slice_index words (field_word o f) ≡ packed (newest k.now.steps o f) (newest_value k.now.steps o f))
    → ((c o : ℕ) → c < 16 → o < objects → slice_index words (mask_word c o) < 65536)
    → (Follows objects k.now.steps words p.client (x ∷ p.steps))
    → ((c : ℕ) → c ≢ p.client → c < 16 → Follows objects k.now.steps words c (k.logs c))
    → RuleHolds objects (record { words = words; homes = s.homes; views = set s.views id (Packer (record p { steps = x ∷ p.steps })) })
pack_step objects s k id p x words at long fields masks own others =
    let here = k.each id (Packer p) at in
    let logs : ℕ → List PackStep = with_log k.logs p.client (x ∷ p.steps) in
    let q : PackView = record p { steps = x ∷ p.steps } in
    let apart : id ≢ k.seat = not_sim objects s k id p at in
    record {
      wide = long ∙ k.wide;
      seat = k.seat;
      now = k.now;
      logs = logs;
      owner = k.owner;
      sits = set_else s.views id k.seat (Packer q) (λ e. apart (sym e)) ∙ k.sits;
      each = each_set (Fits k.seat k.now k.logs k.owner) (Fits k.seat k.now logs k.owner) s.views id (Packer q) other (here.0, sym (log_here k.logs p.client (x ∷ p.steps) p.client refl), here.2) k.each;
      joined = joined_map k.seat k.logs logs k.owner k.owner k.now.left k.now.left k.now.joined (omega arith) (λ c _ own. (own, log_else k.logs p.client (x ∷ p.steps) c (λ e. apart (sym here.0 ∙ ap k.owner (sym e) ∙ own)))) k.joined;
      unborn = λ c lt. log_else k.logs p.client (x ∷ p.steps) c (λ e. let h = here.2 in absurd (omega arith)) ∙ k.unborn c lt;
      small = k.small;
      fields = fields;
      masks = masks;
      follows = λ c lt.
          dite (ℕ_discrete c p.client)
          (λ (e : c ≡ p.client). subst (λ (z : ℕ × List PackStep). Follows objects k.now.steps words z.0 z.1) (λ j. (sym e j, sym (log_here k.logs p.client (x ∷ p.steps) c e) j)) own)
          (λ (ne : c ≢ p.client). subst (λ (l : List PackStep). Follows objects k.now.steps words c l) (sym (log_else k.logs p.client (x ∷ p.steps) c ne)) (others c ne lt));
    }
  where
    other : (i : ℕ) (v : View) → i ≢ id → get_elem? s.views i ≡ some v → Fits k.seat k.now k.logs k.owner i v → Fits k.seat k.now (with_log k.logs p.client (x ∷ p.steps)) k.owner i v
    other i Spent ne e h = tt
    other i (Sim v) ne e h = h
    other i (Packer u) ne e h = (h.0, h.1 ∙ sym (log_else k.logs p.client (x ∷ p.steps) u.client (λ is. ne (sym h.0 ∙ ap k.owner is ∙ (k.each id (Packer p) at).0))), h.2)

follows_drain : (objects : ℕ) (sim : List SimStep) (words : List ℕ) (c o : ℕ) (log : List PackStep) → c < 16 → o < objects → length words ≡ 32 * objects + 1
    → Follows objects sim words c log → Follows objects sim (set words (mask_word c o) 0) c (Drain (record { object = o; bits = slice_index words (mask_word c o) }) ∷ log)
follows_drain objects sim words c a log few inside wide h =
    let d : DrainedBits = record { object = a; bits = slice_index words (mask_word c a) } in
    record {
      stand = h.stand;
      below = h.below;
      takes = λ o here.
          bool_cases (a == o)
          (λ e.
          let p : a ≡ o = test_out a o e in
          let is : get_or (set words (mask_word c a) 0) (mask_word c o) 0 ≡ 0 = subst (λ (z : ℕ). get_or (set words (mask_word c a) 0) (mask_word c z) 0 ≡ 0) p (get_or-set_same words (mask_word c a) 0 0 (omega arith)) in
          subst (λ (m : ℕ). DrainsTake m (drains_of (Drain d ∷ log) o) (raises_of sim c o)) (sym is)
          (takes_drain_here d log o (raises_of sim c o) e (subst (λ (z : ℕ). DrainsTake (get_or words (mask_word c z) 0) (drains_of log o) (raises_of sim c o)) (sym p) (h.takes o here))))
          (λ e.
          let ne : a ≢ o = λ p. absurd (differs a o p e) in
          let is = get_or-set_other words (mask_word c a) (mask_word c o) 0 0 (λ w. ne (omega arith)) in
          subst (λ (m : ℕ). DrainsTake m (drains_of (Drain d ∷ log) o) (raises_of sim c o)) (sym is) (takes_drain_else d log o (get_or words (mask_word c o) 0) (raises_of sim c o) e (h.takes o here)));
      covers = λ o f lt here.
          bool_cases (a == o)
          (λ e.
          let p : a ≡ o = test_out a o e in
          let is : get_or (set words (mask_word c a) 0) (mask_word c o) 0 ≡ 0 = subst (λ (z : ℕ). get_or (set words (mask_word c a) 0) (mask_word c z) 0 ≡ 0) p (get_or-set_same words (mask_word c a) 0 0 (omega arith)) in
          subst (λ (m : ℕ). covered sim (Drain d ∷ log) c m o f ≡ true) (sym is) (covered_drain sim d log c o f e (subst (λ (z : ℕ). covered sim log c (get_or words (mask_word c z) 0) o f ≡ true) (sym p) (h.covers o f lt here))))
          (λ e.
          let ne : a ≢ o = λ p. absurd (differs a o p e) in
          let is = get_or-set_other words (mask_word c a) (mask_word c o) 0 0 (λ w. ne (omega arith)) in
          subst (λ (m : ℕ). covered sim (Drain d ∷ log) c m o f ≡ true) (sym is) (covered_drain_else sim d log c (get_or words (mask_word c o) 0) o f e (h.covers o f lt here)));
    }
  where
    differs : (x y : ℕ) → x ≡ y → (x == y) ≡ false → ⊥
    differs x y p e = let t : (x == y) ≡ true = subst (λ (z : ℕ). (x == z) ≡ true) p (test_here x) in cc

-- the words of another client's masks
follows_beside : (objects : ℕ) (sim : List SimStep) (words : List ℕ) (d o n c : ℕ) (log : List PackStep) → d < 16 → c < 16 → c ≢ d → Follows objects sim words c log → Follows objects sim (set words (mask_word d o) n) c log
follows_beside objects sim words d a n c log there few ne h = record {
  stand = h.stand;
  below = h.below;
  takes = λ o here. subst (λ (m : ℕ). DrainsTake m (drains_of log o) (raises_of sim c o)) (sym (get_or-set_other words (mask_word d a) (mask_word c o) n 0 (λ w. ne (omega arith)))) (h.takes o here);
  covers = λ o f lt here. subst (λ (m : ℕ). covered sim log c m o f ≡ true) (sym (get_or-set_other words (mask_word d a) (mask_word c o) n 0 (λ w. ne (omega arith)))) (h.covers o f lt here);
}

pub drained_is : (p : PackView) (c o n : ℕ) → c < 16 → with_drain (mask_word c o) n (Packer p) ≡ Packer (record p { steps = Drain (record { object = o; bits = n }) ∷ p.steps })
drained_is p c o n lt = λ j. Packer (record p { steps = Drain (record { object = mask_object c o lt j; bits = n }) ∷ p.steps })

pub swaps : (objects slots id : ℕ) (p : PackView) (o : ℕ) → p.client < 16 → o < objects
    → Allows (RuleHolds objects) slots id (Packer p, []) (mask_word p.client o) (λ _. 0) (λ n w. (w.0 ≡ with_drain (mask_word p.client o) n (Packer p)) × (w.1 ≡ []) × (n < 65536))
swaps objects slots id p o few here s k _ at _ =
    let own = k.each id (Packer p) at in
    let x : PackStep = Drain (record { object = o; bits = slice_index s.words (mask_word p.client o) }) in
    let mine = subst (λ (l : List PackStep). Follows objects k.now.steps s.words p.client l) (sym own.1) (k.follows p.client few) in (
      Packer (record p { steps = x ∷ p.steps }),
      keeps,
      tt,
      pack_step objects s k id p x (set s.words (mask_word p.client o) 0) at (length-set s.words (mask_word p.client o) 0)
          (λ a f lt inside. get_or-set_other s.words (mask_word p.client o) (field_word a f) 0 0 (kinds_apart a f p.client o lt few) ∙ k.fields a f lt inside)
          (masks_set objects s.words p.client o 0 k.wide few here (omega arith) k.masks)
          (follows_drain objects k.now.steps s.words p.client o p.steps few here k.wide mine)
          (λ c ne lt. follows_beside objects k.now.steps s.words p.client o 0 c (k.logs c) few lt ne (k.follows c lt)),
      (sym (drained_is p p.client o (slice_index s.words (mask_word p.client o)) few), refl, k.masks p.client o few here),
    )

follows_load : (objects : ℕ) (sim : List SimStep) (words : List ℕ) (c : ℕ) (r : ReadField) (log : List PackStep) → r.version ≡ newest sim r.object r.field → r.value ≡ newest_value sim r.object r.field
    → Follows objects sim words c log → Follows objects sim words c (Read r ∷ log)
follows_load objects sim words c r log version value h = record {
  stand = (subst (λ (z : ℕ × ℕ). slice_get (values sim r.object r.field) z.0 ≡ Some z.1) (λ j. (sym version j, sym value j)) (values-newest sim r.object r.field), h.stand);
  below = λ o f. bool_cases (is_at r.object r.field o f) (λ e. let p = same_out r.object r.field o f e in rw e (subst (λ (z : ℕ × ℕ). r.version ≤ newest sim z.0 z.1) (λ j. (p.0 j, p.1 j)) (omega arith))) (λ e. rw e (h.below o f));
  takes = h.takes;
  covers = λ o f lt here.
      bool_cases (is_at r.object r.field o f)
      (λ e. let p = same_out r.object r.field o f e in covered_read sim r log c _ o f e (version ∙ (λ j. newest sim (p.0 j) (p.1 j))))
      (λ e. covered_read_else sim r log c _ o f e (h.covers o f lt here));
}

pub loaded_is : (p : PackView) (o f n : ℕ) → f < 16 → with_read (field_word o f) n (Packer p) ≡ Packer (record p { steps = Read (record { object = o; field = f; version = n / 4294967296; value = n % 4294967296 }) ∷ p.steps })
loaded_is p o f n lt = λ j. Packer (record p { steps = Read (record { object = field_object o f (omega arith) j; field = field_place o f (omega arith) j; version = n / 4294967296; value = n % 4294967296 }) ∷ p.steps })

pub loads : (objects slots id : ℕ) (p : PackView) (o f : ℕ) → p.client < 16 → f < 16 → o < objects
    → Allows (RuleHolds objects) slots id (Packer p, []) (field_word o f) (λ n. n) (λ n w. (w.0 ≡ with_read (field_word o f) n (Packer p)) × (w.1 ≡ []) × NotBelow (field_word o f) n (Packer p) × IsOpened n)
loads objects slots id p o f few lt here s k _ at _ =
    let own = k.each id (Packer p) at in
    let n : ℕ = slice_index s.words (field_word o f) in
    let r : ReadField = record { object = o; field = f; version = n / 4294967296; value = n % 4294967296 } in
    let mine = subst (λ (l : List PackStep). Follows objects k.now.steps s.words p.client l) (sym own.1) (k.follows p.client few) in
    let is : n ≡ packed (newest k.now.steps o f) (newest_value k.now.steps o f) = k.fields o f lt here in
    let small : newest_value k.now.steps o f < 4294967296 = k.small o f in
    let version : n / 4294967296 ≡ newest k.now.steps o f = omega arith in
    let value : n % 4294967296 ≡ newest_value k.now.steps o f = omega arith in
    let below : last_read p.steps o f ≤ n / 4294967296 = let b = mine.below o f in omega arith in
    let wide = k.wide in
    let back : set s.words (field_word o f) n ≡ s.words = set_back s.words (field_word o f) (omega arith) in (
      Packer (record p { steps = Read r ∷ p.steps }),
      keeps,
      tt,
      subst (λ (ws : List ℕ). RuleHolds objects (record { words = ws; homes = s.homes; views = set s.views id (Packer (record p { steps = Read r ∷ p.steps })) })) (sym back)
          (pack_step objects s k id p (Read r) s.words at refl k.fields k.masks (follows_load objects k.now.steps s.words p.client r p.steps version value mine) (λ c _ few'. k.follows c few')),
      (sym (loaded_is p o f n lt), refl, subst (λ (z : ℕ × ℕ). last_read p.steps z.0 z.1 ≤ n / 4294967296) (λ j. (sym (field_object o f (omega arith)) j, sym (field_place o f (omega arith)) j)) below, λ none. value ∙ opening_value k.now.steps o f (sym version ∙ none)),
    )

-- ---- making and joining seats
at_new : (l : List View) (a b : View) (j : ℕ) → get_elem? (l ++ a ∷ []) j ≡ some b → (get_elem? l j ≡ some b) ⊎ ((j ≡ length l) × (a ≡ b))
at_new [] a b zero e = inr (refl, some-injective a b e)
at_new [] a b (suc j) e = absurd (some-ne-none b (sym e))
at_new (x ∷ xs) a b zero e = inl e
at_new (x ∷ xs) a b (suc j) e = ⊎_elim (λ h. inl h) (λ (h : (j ≡ length xs) × (a ≡ b)). inr (omega (arith, h.0), h.1)) (at_new xs a b j e)

with_owner : (ℕ → ℕ) → ℕ → ℕ → ℕ → ℕ
with_owner owner d i c = if c == d then i else owner c

owner_here : (owner : ℕ → ℕ) (d i c : ℕ) → c ≡ d → with_owner owner d i c ≡ i
unfolding with_owner
owner_here owner d i c e = rw (e, test_here d) refl

owner_else : (owner : ℕ → ℕ) (d i c : ℕ) → c ≢ d → with_owner owner d i c ≡ owner c
unfolding with_owner
owner_else owner d i c ne = rw (test_apart c d ne) refl

pub gives : (objects id : ℕ) (v : SimView) → 0 < v.left → Splits (RuleHolds objects) id (Sim v) (one_less (Sim v)) (new_packer (Sim v))
gives objects id v some_left s k at =
    let me = mine objects s k id v at in
    let c : ℕ = v.left - 1 in
    let next : SimView = record v { left = c } in
    let p : PackView = record { client = c; steps = [] } in
    let fresh : ℕ = length (set s.views id (Sim next)) in
    let owner : ℕ → ℕ = with_owner k.owner c fresh in
    let left : v.left ≡ k.now.left = ap (λ (u : SimView). u.left) me.1 in
    let less : c < k.now.left = omega arith in
    record {
      wide = k.wide;
      seat = id;
      now = next;
      logs = k.logs;
      owner = owner;
      sits = at_longer (set s.views id (Sim next)) (Packer p ∷ []) id (Sim next) (set_here s.views id (Sim next) (within s.views id (Sim v) at));
      each = λ i u e.
          ⊎_elim
          (λ h.
          each_set (Fits k.seat k.now k.logs k.owner) (Fits id next k.logs owner) s.views id (Sim next)
          (λ j w ne at' h'. old k.seat k.now k.logs k.owner c fresh id next me.0 (omega arith) (omega arith) j w ne h')
          (refl, refl) k.each i u h)
          (λ (h : (i ≡ fresh) × (Packer p ≡ u)). subst (λ (z : ℕ × View). Fits id next k.logs owner z.0 z.1) (λ j. (sym h.0 j, h.1 j)) (owner_here k.owner c fresh c refl, sym (k.unborn c less), omega arith))
          (at_new (set s.views id (Sim next)) (Packer p) u i e);
      joined = subst (λ (z : List PackView). Joined id k.logs owner c z) (sym (ap (λ (u : SimView). u.joined) me.1))
          (joined_map id k.logs k.logs k.owner owner k.now.left c k.now.joined (omega arith) (λ d h own. (owner_else k.owner c fresh d (λ e. absurd (omega arith)) ∙ own, refl)) (subst (λ (z : ℕ). Joined z k.logs k.owner k.now.left k.now.joined) (sym me.0) k.joined));
      unborn = λ d lt. k.unborn d (omega arith);
      small = subst (λ (u : SimView). (o f : ℕ) → newest_value u.steps o f < 4294967296) (sym me.1) k.small;
      fields = subst (λ (u : SimView). (o f : ℕ) → f < 16 → o < objects → slice_index s.words (field_word o f) ≡ packed (newest u.steps o f) (newest_value u.steps o f)) (sym me.1) k.fields;
      masks = k.masks;
      follows = subst (λ (u : SimView). (d : ℕ) → d < 16 → Follows objects u.steps s.words d (k.logs d)) (sym me.1) k.follows;
    }
  where
    old : (seat : ℕ) (now : SimView) (logs : ℕ → List PackStep) (owner : ℕ → ℕ) (c fresh id : ℕ) (next : SimView) → id ≡ seat → c < now.left → next.left ≤ now.left → (j : ℕ) (w : View) → j ≢ id → Fits seat now logs owner j w → Fits id next logs (with_owner owner c fresh) j w
    old seat now logs owner c fresh id next is lt le j Spent ne h = tt
    old seat now logs owner c fresh id next is lt le j (Sim u) ne h = absurd (ne (h.0 ∙ sym is))
    old seat now logs owner c fresh id next is lt le j (Packer q) ne h = let far = h.2 in (owner_else owner c fresh q.client (λ e. absurd (omega arith)) ∙ h.0, h.1, omega arith)

pub ends : (objects id : ℕ) (v : SimView) (other : ℕ) (p : PackView) → Joins (RuleHolds objects) id (Sim v) other (Packer p) (with_packer (Sim v) (Packer p)) Spent
ends objects id v other p s k at apart there =
    let me = mine objects s k id v at in
    let next : SimView = record v { joined = p ∷ v.joined } in
    let there' : get_elem? s.views other ≡ some (Packer p) = sym (set_else s.views id other (Sim next) apart) ∙ there in
    let own = k.each other (Packer p) there' in
    let owner : ℕ → ℕ = with_owner k.owner p.client id in
    let left : v.left ≡ k.now.left = ap (λ (u : SimView). u.left) me.1 in
    let P : ℕ → View → Type 0 = λ i u. (i ≡ other → Unit {0}) × (i ≢ other → Fits id next k.logs owner i u) in
    record {
      wide = k.wide;
      seat = id;
      now = next;
      logs = k.logs;
      owner = owner;
      sits = set_else (set s.views id (Sim next)) other id Spent (λ e. apart (sym e)) ∙ set_here s.views id (Sim next) (within s.views id (Sim v) at);
      each = each_set P (Fits id next k.logs owner) (set s.views id (Sim next)) other Spent (λ i u ne _ h. h.1 ne) tt
          (each_set (Fits k.seat k.now k.logs k.owner) P s.views id (Sim next)
          (λ j w ne at' h. ((λ _. tt), λ far. old k.seat k.now k.logs k.owner id other p next me.0 (omega arith) own.0 j w ne far h))
          ((λ _. tt), λ _. (refl, refl)) k.each);
      joined = (
        owner_here k.owner p.client id p.client refl,
        own.1,
        (let h = own.2 in omega arith),
        subst (λ (z : SimView). Joined id k.logs owner z.left z.joined) (sym me.1)
            (joined_map id k.logs k.logs k.owner owner k.now.left k.now.left k.now.joined (omega arith) (λ d h is. (owned k.owner p.client id d is, refl)) (subst (λ (z : ℕ). Joined z k.logs k.owner k.now.left k.now.joined) (sym me.0) k.joined)),
      );
      unborn = λ d lt. k.unborn d (omega arith);
      small = subst (λ (u : SimView). (o f : ℕ) → newest_value u.steps o f < 4294967296) (sym me.1) k.small;
      fields = subst (λ (u : SimView). (o f : ℕ) → f < 16 → o < objects → slice_index s.words (field_word o f) ≡ packed (newest u.steps o f) (newest_value u.steps o f)) (sym me.1) k.fields;
      masks = k.masks;
      follows = subst (λ (u : SimView). (d : ℕ) → d < 16 → Follows objects u.steps s.words d (k.logs d)) (sym me.1) k.follows;
    }
  where
    owned : (owner : ℕ → ℕ) (c i d : ℕ) → owner d ≡ i → with_owner owner c i d ≡ i
    owned owner c i d h = dite (ℕ_discrete d c) (λ (e : d ≡ c). owner_here owner c i d e) (λ (ne : d ≢ c). owner_else owner c i d ne ∙ h)

    old : (seat : ℕ) (now : SimView) (logs : ℕ → List PackStep) (owner : ℕ → ℕ) (id other : ℕ) (p : PackView) (next : SimView) → id ≡ seat → next.left ≤ now.left → owner p.client ≡ other → (j : ℕ) (w : View) → j ≢ id → j ≢ other → Fits seat now logs owner j w → Fits id next logs (with_owner owner p.client id) j w
    old seat now logs owner id other p next is le own j Spent ne far h = tt
    old seat now logs owner id other p next is le own j (Sim u) ne far h = absurd (ne (h.0 ∙ sym is))
    old seat now logs owner id other p next is le own j (Packer q) ne far h = let left = h.2 in (owner_else owner p.client id q.client (λ e. far (sym h.0 ∙ ap owner e ∙ own)) ∙ h.0, h.1, omega arith)

pub opens : (objects clients : ℕ) (words : List ℕ) → length words ≡ 32 * objects + 1 → ((i : ℕ) → slice_index words i ≡ 0) → RuleHolds objects (opening words [] (Sim (record { left = clients; joined = []; steps = [] })))
opens objects clients words wide zeros = record {
  wide = wide;
  seat = 0;
  now = record { left = clients; joined = []; steps = [] };
  logs = λ c. [];
  owner = λ c. 0;
  sits = refl;
  each = one;
  joined = tt;
  unborn = λ c lt. refl;
  small = λ o f. omega arith;
  fields = λ o f lt here. zeros (field_word o f);
  masks = λ c o few here. rw (zeros (mask_word c o)) (omega arith);
  follows = λ c lt. record { stand = tt; below = λ o f. omega arith; takes = λ o here. zeros (mask_word c o); covers = λ o f lt here. refl };
}
  where
    one : (i : ℕ) (v : View) → get_elem? (Sim (record { left = clients; joined = []; steps = [] }) ∷ []) i ≡ some v → Fits 0 (record { left = clients; joined = []; steps = [] }) (λ c. []) (λ c. 0) i v
    one zero v e = subst (Fits 0 (record { left = clients; joined = []; steps = [] }) (λ c. []) (λ c. 0) 0) (some-injective (Sim (record { left = clients; joined = []; steps = [] })) v e) (refl, refl)
    one (suc i) v e = absurd (some-ne-none v (sym e))
