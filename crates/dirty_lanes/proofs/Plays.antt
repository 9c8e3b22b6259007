-- The moves at a seat and a word that are known by equations, and what the seat knows afterwards.
use Rattle.std.proofs.Common.{◌≡◌, ℕ, ◌+◌, ◌*◌, ◌/◌, ◌%◌, ◌<◌, ◌≤◌, true, false, List, [], ◌∷◌, length, get_or, set, sym, ap, ◌∙◌, subst, arith, get_or-set_other, get_or-set_same}
use Rattle.std.specs.Prelude.{slice_index}
use Rattle.std.specs.Int.Bits.{bit_or}
use Rattle.atomic_table.specs.Table.{Me, Allows}
use Rattle.dirty_lanes.specs.declared.view.SimStep.{SimStep}
use Rattle.dirty_lanes.specs.declared.view.SimStep.TheVariants.{Write, Raise}
use Rattle.dirty_lanes.specs.declared.view.PackStep.TheVariants.{Drain, Read}
use Rattle.dirty_lanes.specs.declared.view.PackView.{PackView}
use Rattle.dirty_lanes.specs.declared.view.SimView.{SimView}
use Rattle.dirty_lanes.specs.declared.view.View.{View}
use Rattle.dirty_lanes.specs.declared.view.View.TheVariants.{Sim, Packer}
use Rattle.dirty_lanes.specs.Views.{is_at, newest, last_read}
use Rattle.dirty_lanes.specs.Words.{field_word, mask_word, packed}
use Rattle.dirty_lanes.specs.Rule.{RuleHolds, with_write, with_raise, with_drain, with_read, NotBelow, IsOpened, sim_of, pack_of}
use Rattle.dirty_lanes.proofs.LaneWords.{bool_cases, same_out, same_here, field_object, field_place}
use Rattle.dirty_lanes.proofs.Moves.{writes, raises, swaps, loads, wrote_is, raised_is, drained_is, loaded_is}

abbrev pub Mine : Type 0
Mine = Me (Unit {0}) View

pub writes_as : (key objects slots id : ℕ) (me : Mine) (v : SimView) (o f x word new : ℕ) → me ≡ (Sim v, []) → key ≡ objects → word ≡ field_word o f → new ≡ packed (newest v.steps o f + 1) x → f < 16 → o < objects → x < 4294967296
    → Allows (RuleHolds key) slots id me word (λ _. new) (λ _ w. (w.0 ≡ with_write word new me.0) × (w.1 ≡ me.1))
writes_as key objects slots id me v o f x word new is k at n lt here fits =
    subst (λ (z : ℕ × Mine × ℕ × ℕ). Allows (RuleHolds z.0) slots id z.1 z.2 (λ _. z.3) (λ _ w. (w.0 ≡ with_write z.2 z.3 z.1.0) × (w.1 ≡ z.1.1))) (λ j. (sym k j, sym is j, sym at j, sym n j)) (writes objects slots id v o f x lt here fits)

pub raises_as : (key objects slots id : ℕ) (me : Mine) (v : SimView) (c o bits word : ℕ) → me ≡ (Sim v, []) → key ≡ objects → word ≡ mask_word c o → c < 16 → o < objects → bits < 65536
    → Allows (RuleHolds key) slots id me word (λ n. bit_or n bits) (λ _ w. (w.0 ≡ with_raise word bits me.0) × (w.1 ≡ me.1))
raises_as key objects slots id me v c o bits word is k at few here small =
    subst (λ (z : ℕ × Mine × ℕ). Allows (RuleHolds z.0) slots id z.1 z.2 (λ n. bit_or n bits) (λ _ w. (w.0 ≡ with_raise z.2 bits z.1.0) × (w.1 ≡ z.1.1))) (λ j. (sym k j, sym is j, sym at j)) (raises objects slots id v c o bits few here small)

pub swaps_as : (key objects slots id : ℕ) (me : Mine) (p : PackView) (c o word : ℕ) → me ≡ (Packer p, []) → key ≡ objects → p.client ≡ c → word ≡ mask_word c o → c < 16 → o < objects
    → Allows (RuleHolds key) slots id me word (λ _. 0) (λ n w. (w.0 ≡ with_drain word n me.0) × (w.1 ≡ me.1) × (n < 65536))
swaps_as key objects slots id me p c o word is k who at few here =
    subst (λ (z : ℕ × Mine × ℕ). Allows (RuleHolds z.0) slots id z.1 z.2 (λ _. 0) (λ n w. (w.0 ≡ with_drain z.2 n z.1.0) × (w.1 ≡ z.1.1) × (n < 65536))) (λ j. (sym k j, sym is j, (ap (λ (d : ℕ). mask_word d o) who ∙ sym at) j)) (swaps objects slots id p o (omega arith) here)

pub loads_as : (key objects slots id : ℕ) (me : Mine) (p : PackView) (c o f word : ℕ) → me ≡ (Packer p, []) → key ≡ objects → p.client ≡ c → word ≡ field_word o f → c < 16 → f < 16 → o < objects
    → Allows (RuleHolds key) slots id me word (λ n. n) (λ n w. (w.0 ≡ with_read word n me.0) × (w.1 ≡ me.1) × NotBelow word n me.0 × IsOpened n)
loads_as key objects slots id me p c o f word is k who at few lt here =
    subst (λ (z : ℕ × Mine × ℕ). Allows (RuleHolds z.0) slots id z.1 z.2 (λ n. n) (λ n w. (w.0 ≡ with_read z.2 n z.1.0) × (w.1 ≡ z.1.1) × NotBelow z.2 n z.1.0 × IsOpened n)) (λ j. (sym k j, sym is j, sym at j)) (loads objects slots id p o f (omega arith) lt here)

pub seat_after_write : (me next : Mine) (v : SimView) (o f x n word new : ℕ) → me ≡ (Sim v, []) → next.0 ≡ with_write word new me.0 → next.1 ≡ me.1 → word ≡ field_word o f → new ≡ packed n x → f < 16 → x < 4294967296
    → next ≡ (Sim (record v { steps = Write (record { object = o; field = f; value = x }) ∷ v.steps }), [])
seat_after_write me next v o f x n word new is now out at num lt fits =
    let m : new % 4294967296 ≡ x = omega arith in
    let e : next.0 ≡ Sim (record v { steps = Write (record { object = o; field = f; value = x }) ∷ v.steps }) =
    now ∙ (λ j. with_write (at j) new (is j).0) ∙ wrote_is v o f new lt ∙ ap (λ (y : ℕ). Sim (record v { steps = Write (record { object = o; field = f; value = y }) ∷ v.steps })) m in
    λ j. (e j, (out ∙ ap (λ (z : Mine). z.1) is) j)

pub seat_after_raise : (me next : Mine) (v : SimView) (c o bits word : ℕ) → me ≡ (Sim v, []) → next.0 ≡ with_raise word bits me.0 → next.1 ≡ me.1 → word ≡ mask_word c o → c < 16
    → next ≡ (Sim (record v { steps = Raise (record { client = c; object = o; bits = bits }) ∷ v.steps }), [])
seat_after_raise me next v c o bits word is now out at few =
    let e = now ∙ (λ j. with_raise (at j) bits (is j).0) ∙ raised_is v c o bits few in
    λ j. (e j, (out ∙ ap (λ (z : Mine). z.1) is) j)

pub seat_after_drain : (me next : Mine) (p : PackView) (c o n word : ℕ) → me ≡ (Packer p, []) → next.0 ≡ with_drain word n me.0 → next.1 ≡ me.1 → word ≡ mask_word c o → c < 16
    → next ≡ (Packer (record p { steps = Drain (record { object = o; bits = n }) ∷ p.steps }), [])
seat_after_drain me next p c o n word is now out at few =
    let e = now ∙ (λ j. with_drain (at j) n (is j).0) ∙ drained_is p c o n few in
    λ j. (e j, (out ∙ ap (λ (z : Mine). z.1) is) j)

pub seat_after_read : (me next : Mine) (p : PackView) (o f n word : ℕ) → me ≡ (Packer p, []) → next.0 ≡ with_read word n me.0 → next.1 ≡ me.1 → word ≡ field_word o f → f < 16
    → next ≡ (Packer (record p { steps = Read (record { object = o; field = f; version = n / 4294967296; value = n % 4294967296 }) ∷ p.steps }), [])
seat_after_read me next p o f n word is now out at lt =
    let e = now ∙ (λ j. with_read (at j) n (is j).0) ∙ loaded_is p o f n lt in
    λ j. (e j, (out ∙ ap (λ (z : Mine). z.1) is) j)

-- a load is at least what was read last
pub load_newer : (me : Mine) (p : PackView) (o f n word : ℕ) → me ≡ (Packer p, []) → NotBelow word n me.0 → word ≡ field_word o f → f < 16 → last_read p.steps o f ≤ n / 4294967296
load_newer me p o f n word is h at lt =
    let a : NotBelow (field_word o f) n (Packer p) = subst (λ (z : ℕ × Mine). NotBelow z.0 n z.1.0) (λ j. (at j, is j)) h in
    subst (λ (z : ℕ × ℕ). last_read p.steps z.0 z.1 ≤ n / 4294967296) (λ j. (field_object o f (omega arith) j, field_place o f (omega arith) j)) a

pub sim_sits : (me : Mine) (v : SimView) → me ≡ (Sim v, []) → me ≡ (Sim (sim_of me.0), [])
sim_sits me v e = e ∙ ap (λ (z : Mine). (Sim (sim_of z.0), [])) (sym e)

pub pack_sits : (me : Mine) (p : PackView) → me ≡ (Packer p, []) → me ≡ (Packer (pack_of me.0), [])
pack_sits me p e = e ∙ ap (λ (z : Mine). (Packer (pack_of z.0), [])) (sym e)

pub counts_write : (versions : List ℕ) (sim : List SimStep) (o f x : ℕ) → f < 16 → 16 * o + f < length versions
    → ((a b : ℕ) → b < 16 → 16 * a + b < length versions → slice_index versions (16 * a + b) ≡ newest sim a b)
    → (a b : ℕ) → b < 16 → 16 * a + b < length versions → slice_index (set versions (16 * o + f) (newest sim o f + 1)) (16 * a + b) ≡ newest (Write (record { object = o; field = f; value = x }) ∷ sim) a b
counts_write versions sim o f x lt here ih a b lb inside =
    bool_cases (is_at o f a b)
    (λ e. let p = same_out o f a b e in rw e (subst (λ (z : ℕ × ℕ). get_or (set versions (16 * o + f) (newest sim o f + 1)) (16 * z.0 + z.1) 0 ≡ newest sim z.0 z.1 + 1) (λ j. (p.0 j, p.1 j)) (get_or-set_same versions (16 * o + f) (newest sim o f + 1) 0 here)))
    (λ e. let ne = (λ (i : 16 * a + b ≡ 16 * o + f). differs a b o f lb lt i e) in rw e (get_or-set_other versions (16 * o + f) (16 * a + b) (newest sim o f + 1) 0 ne ∙ ih a b lb inside))
  where
    differs : (a b o f : ℕ) → b < 16 → f < 16 → 16 * a + b ≡ 16 * o + f → is_at o f a b ≡ false → ⊥
    differs a b o f lb lt i e =
        let p : o ≡ a = omega arith in
        let q : f ≡ b = omega arith in
        let t : is_at o f a b ≡ true = subst (λ (z : ℕ × ℕ). is_at o f z.0 z.1 ≡ true) (λ j. (p j, q j)) (same_here o f) in cc
