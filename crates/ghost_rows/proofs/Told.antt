-- What is read from a row: the mask of due fields of the kind, and whether a field is settled.
use Rattle.std.proofs.Common.{◌≡◌, ◌⊎◌, ℕ, zero, suc, ◌+◌, ◌-◌, ◌*◌, ◌%◌, ◌<◌, ◌≤◌, ◌^◌, Bool, true, false, not, cond, ◌&&◌, List, ◌∙◌, refl, sym, ap, inl, inr, arith, eqb, ltb, bit_and}
use Rattle.std.specs.Int.{bit_at}
use Rattle.std.specs.List.{list_any}
use Rattle.std.proofs.Math.Nat.{pow-suc}
use Rattle.std.proofs.lemmas.Nat.{mod-pow-add, and_mask}
use Rattle.std.proofs.lemmas.Nat.Bits.{bit_at-lt}
use Rattle.ghost_model.specs.declared.phase.Phase.{Phase}
use Rattle.ghost_model.specs.declared.phase.Phase.TheVariants.{Waiting, Live, Gone}
use Rattle.tn_types.specs.BitWords.{has_bit}
use Rattle.ghost_model.specs.Phases.{is_live, is_gone}
use Rattle.ghost_model.specs.Scope.{shows}
use Rattle.ghost_model.specs.Ghosts.{GhostEvent, is_due, is_settled, phase, verdicts, unjudged, carries, scope_log}
use Rattle.ghost_model.specs.Candidates.{due_mask}
use Rattle.ghost_model.specs.Carriers.{last_carrier}
use Rattle.ghost_model.specs.Legal.{KindSizes, IsLegal, field_count}
use Rattle.ghost_model.proofs.Carriers.{on_its_way}
use Rattle.ghost_model.proofs.Judged.{is_new, is_sent}
use Rattle.ghost_model.proofs.Bits.{due_mask_same}
use Rattle.ghost_model.proofs.Fields.{fielded}
use Rattle.ghost_model.proofs.Fresh.{new_owes}
use Rattle.ghost_rows.specs.Kept.{Row, carrier_at, IsRow}

one_bit : (x p : ℕ) (b : Bool) → x < 2 → eqb x 1 ≡ b → ◌≡◌ {A = ℕ} (x * p) (cond b p 0)
one_bit zero p true lt e = absurd (cc)
one_bit zero p false lt e = omega arith
one_bit (suc zero) p true lt e = omega arith
one_bit (suc zero) p false lt e = absurd (cc)
one_bit (suc (suc x)) p b lt e = absurd (omega arith)

module _ (log : List GhostEvent) (n due : ℕ) where
  -- the due fields below a count, of a mask that has the bits of those
  pub mask_below : (count : ℕ) → ((f : ℕ) → f < count → has_bit due f ≡ is_due log n f) → due % 2 ^ count ≡ due_mask log n count
  mask_below zero h = omega arith
  mask_below (suc k) h =
      let split : due % 2 ^ suc k ≡ bit_at due k * 2 ^ k + due % 2 ^ k = ap (λ (j : ℕ). due % 2 ^ j) (let e : suc k ≡ 1 + k = omega arith in e) ∙ mod-pow-add due 1 k in
      let bit = one_bit (bit_at due k) (2 ^ k) (is_due log n k) (bit_at-lt due k) (h k (omega arith)) in
      omega (arith, split, bit, mask_below k (λ f lt. h f (omega arith)))

  pub masked : (count : ℕ) → count ≤ 16 → ((f : ℕ) → f < 16 → has_bit due f ≡ is_due log n f) → bit_and due (2 ^ count - 1) ≡ due_mask log n count
  masked count few h = and_mask due count ∙ mask_below count (λ f lt. h f (omega arith))

-- a period that waits owes all fields
all_due : (log : List GhostEvent) (n : ℕ) → ((f : ℕ) → is_due log n f ≡ true) → (count : ℕ) → due_mask log n count ≡ 2 ^ count - 1
all_due log n h zero = refl
all_due log n h (suc k) =
    let more : ◌≡◌ {A = ℕ} (cond (is_due log n k) (2 ^ k) 0) (2 ^ k) = ap (λ b. cond b (2 ^ k) 0) (h k) in
    omega (arith, more, all_due log n h k, pow-suc 2 k)

module _ (kinds : KindSizes) (log : List GhostEvent) (legal : IsLegal kinds log) (n : ℕ) where
  pub waiting_mask : (p : Phase) → n < shows (scope_log log) → p ≡ phase log n → is_gone p ≡ false → (p ≡ Waiting) ⊎ (p ≡ Gone) → (count : ℕ) → 2 ^ count - 1 ≡ due_mask log n count
  waiting_mask p shown told alive (inl w) count = sym (all_due log n (λ f. new_owes kinds log legal n f shown (ap is_new (sym told ∙ w))) count)
  waiting_mask p shown told alive (inr g) count = let e : true ≡ false = ap is_gone (sym g) ∙ alive in absurd (cc)

both_not : (b c d : Bool) → (b && (not c && not d)) ≡ (b && not c && not d)
both_not true c d = refl
both_not false c d = refl

-- a field of a period that holds a slot
pub settled_row : (log : List GhostEvent) (n f : ℕ) (r : Row) (live : Bool) (judged : ℕ) → f < 16 → IsRow log n r → live ≡ is_live (phase log n) → judged ≡ verdicts log
    → (live && (not (has_bit r.due f) && not (ltb judged (carrier_at r f)))) ≡ is_settled log n f
settled_row log n f r live judged lt row is at =
    rw (is, at, row.due f lt, row.carriers f lt, on_its_way log n f) (both_not (is_live (phase log n)) (is_due log n f) (ltb (verdicts log) (last_carrier log n f)))

-- and of one that holds none
pub unsettled : (log : List GhostEvent) (n f : ℕ) (p : Phase) → p ≡ phase log n → (p ≡ Waiting) ⊎ (p ≡ Gone) → false ≡ is_settled log n f
unsettled log n f p told (inl w) = sym (ap (λ b. b && not (is_due log n f) && not (list_any (carries n f) (unjudged log))) (ap is_live (sym told ∙ w)))
unsettled log n f p told (inr g) = sym (ap (λ b. b && not (is_due log n f) && not (list_any (carries n f) (unjudged log))) (ap is_live (sym told ∙ g)))

-- of a Live period all due fields are of its kind
pub live_mask : (kinds : KindSizes) (log : List GhostEvent) → IsLegal kinds log → (n : ℕ) (r : Row) → phase log n ≡ Live → field_count kinds log n ≤ 16 → IsRow log n r → bit_and r.due (2 ^ field_count kinds log n - 1) ≡ due_mask log n 16
live_mask kinds log legal n r live few row =
    masked log n r.due (field_count kinds log n) few row.due
    ∙ sym (due_mask_same log n (field_count kinds log n) (λ field le. (fielded kinds log legal).due n field (ap is_sent live) le) 16 few)
