-- The rows while the items of a packet are written down, or its loss, one after another.
use Rattle.std.proofs.Common.{◌≡◌, ◌≢◌, ℕ, ◌<◌, Bool, true, false, not, cond, ◌&&◌, ◌||◌, List, [], ◌∷◌, ◌++◌, ◌∙◌, length, set, Some, refl, sym, ap, subst, inl, inr, arith, eqb}
use Rattle.std.proofs.lemmas.Bool.{cases_eq}
use Rattle.std.proofs.lemmas.List.{get_or-set_same, get_or-set_other, length-set}
use Rattle.std.proofs.lemmas.List.Folds.{list_any-append}
use Rattle.tn_types.specs.declared.choices.Choice.{Choice}
use Rattle.tn_types.specs.BitWords.{has_bit}
use Rattle.ghost_model.specs.Ghosts.{GhostEvent, op_carries, item_carries, carries, is_due, phase, slot, scope_log}
use Rattle.ghost_model.specs.Candidates.{names}
use Rattle.ghost_model.specs.Carriers.{last_carrier}
use Rattle.ghost_model.specs.LastTurn.{last_turn}
use Rattle.ghost_model.specs.Legal.{HoldsItsSlot, AreApart}
use Rattle.ghost_model.specs.Scope.{given}
use Rattle.ghost_model.proofs.Fresh.{slot_below}
use Rattle.ghost_model.proofs.Legal.{held_given}
use Rattle.ghost_model.proofs.Steps.{same_test, other_test}
use Rattle.ghost_rows.specs.Kept.{Row, no_row, row_at, carrier_at, IsCarried, IsRaised, HaveRows, IsNoted, IsLost, HaveNoted, HaveLost}

-- ---- one item more

or_none : (b : Bool) → (b || false) ≡ b
or_none true = refl
or_none false = refl

carries_more : (n f : ℕ) (items : List Choice) (c : Choice) (t : Bool) → eqb c.n n ≡ t → carries n f (items ++ c ∷ []) ≡ (carries n f items || (t && op_carries c.op c.mask f))
carries_more n f items c t e =
    list_any-append (item_carries n f) items (c ∷ []) ∙ ap (λ (b : Bool). carries n f items || b) (or_none (item_carries n f c)) ∙ ap (λ (b : Bool). carries n f items || (b && op_carries c.op c.mask f)) e

names_more : (n : ℕ) (items : List Choice) (c : Choice) (t : Bool) → eqb c.n n ≡ t → names n (items ++ c ∷ []) ≡ (names n items || t)
names_more n items c t e = list_any-append (λ (c : Choice). eqb c.n n) items (c ∷ []) ∙ ap (λ (b : Bool). names n items || b) (or_none (eqb c.n n) ∙ e)

-- a row that is set
pub row_same : (rows : List Row) (s : ℕ) (r : Row) → s < length rows → row_at (set rows s r) s ≡ r
row_same rows s r lt = get_or-set_same rows s r no_row lt

pub row_other : (rows : List Row) (t s : ℕ) (r : Row) → s ≢ t → row_at (set rows t r) s ≡ row_at rows s
row_other rows t s r other = get_or-set_other rows t s r no_row other

clear_twice : (a b d : Bool) → (not a && (not b && d)) ≡ (not (b || a) && d)
clear_twice true true d = refl
clear_twice true false d = refl
clear_twice false true d = refl
clear_twice false false d = refl

keep_once : (b d : Bool) → (not b && d) ≡ (not (b || false) && d)
keep_once true d = refl
keep_once false d = refl

later_one : (a b : Bool) (x y : ℕ) → ◌≡◌ {A = ℕ} (cond a x (cond b x y)) (cond (b || a) x y)
later_one true true x y = refl
later_one true false x y = refl
later_one false true x y = refl
later_one false false x y = refl

raise_twice : (e b d : Bool) → (e || ((b && e) || d)) ≡ (((b || true) && e) || d)
raise_twice true true d = refl
raise_twice true false d = refl
raise_twice false true d = refl
raise_twice false false d = refl

true_last : (b : Bool) → true ≡ (b || true)
true_last true = refl
true_last false = refl

module _ (log : List GhostEvent) (seq : ℕ) (items : List Choice) (c : Choice) (n : ℕ) (old new : Row) where
  noted_here : (mask : ℕ) → c.n ≡ n → ((f : ℕ) → f < 16 → has_bit mask f ≡ op_carries c.op c.mask f) → IsNoted log seq items n old → IsCarried seq mask old new → IsNoted log seq (items ++ c ∷ []) n new
  noted_here mask same is h step =
      let t : eqb c.n n ≡ true = subst (λ (m : ℕ). eqb c.n m ≡ true) same (same_test c.n) in
      record {
        due = λ f lt.
            step.due f lt ∙ ap (λ (b : Bool). not b && has_bit old.due f) (is f lt) ∙ ap (λ (b : Bool). not (op_carries c.op c.mask f) && b) (h.due f lt)
            ∙ clear_twice (op_carries c.op c.mask f) (carries n f items) (is_due log n f) ∙ ap (λ (b : Bool). not b && is_due log n f) (sym (carries_more n f items c true t));
        turn = step.turn ∙ ap (λ (b : Bool). cond b seq (last_turn log n)) (true_last (names n items) ∙ sym (names_more n items c true t));
        carriers = λ f lt.
            step.carriers f lt ∙ ap (λ (b : Bool). cond b seq (carrier_at old f)) (is f lt) ∙ ap (λ (k : ℕ). cond (op_carries c.op c.mask f) seq k) (h.carriers f lt)
            ∙ later_one (op_carries c.op c.mask f) (carries n f items) seq (last_carrier log n f) ∙ ap (λ (b : Bool). cond b seq (last_carrier log n f)) (sym (carries_more n f items c true t));
      }

  noted_apart : c.n ≢ n → IsNoted log seq items n old → IsNoted log seq (items ++ c ∷ []) n old
  noted_apart other h =
      let t : eqb c.n n ≡ false = other_test c.n n other in
      let same : (f : ℕ) → carries n f items ≡ carries n f (items ++ c ∷ []) = λ f. sym (carries_more n f items c false t ∙ or_none (carries n f items)) in
      record {
        due = λ f lt. h.due f lt ∙ ap (λ (b : Bool). not b && is_due log n f) (same f);
        turn = h.turn ∙ ap (λ (b : Bool). cond b seq (last_turn log n)) (sym (names_more n items c false t ∙ or_none (names n items)));
        carriers = λ f lt. h.carriers f lt ∙ ap (λ (b : Bool). cond b seq (last_carrier log n f)) (same f);
      }

  lost_here : c.n ≡ n → IsLost log seq items n old → IsRaised seq old new → IsLost log seq (items ++ c ∷ []) n new
  lost_here same h step =
      let t : eqb c.n n ≡ true = subst (λ (m : ℕ). eqb c.n m ≡ true) same (same_test c.n) in
      record {
        due = λ f lt.
            step.due f lt ∙ ap (λ (k : ℕ). eqb k seq || has_bit old.due f) (h.carriers f lt) ∙ ap (λ (b : Bool). eqb (last_carrier log n f) seq || b) (h.due f lt)
            ∙ raise_twice (eqb (last_carrier log n f) seq) (names n items) (is_due log n f) ∙ ap (λ (b : Bool). (b && eqb (last_carrier log n f) seq) || is_due log n f) (sym (names_more n items c true t));
        turn = step.turn ∙ h.turn;
        carriers = λ f lt. step.carriers f lt ∙ h.carriers f lt;
      }

  lost_apart : c.n ≢ n → IsLost log seq items n old → IsLost log seq (items ++ c ∷ []) n old
  lost_apart other h =
      let t : eqb c.n n ≡ false = other_test c.n n other in
      record {
        due = λ f lt. h.due f lt ∙ ap (λ (b : Bool). (b && eqb (last_carrier log n f) seq) || is_due log n f) (sym (names_more n items c false t ∙ or_none (names n items)));
        turn = h.turn;
        carriers = h.carriers;
      }

-- a slot that is held is one of the slots
pub holds_below : (log : List GhostEvent) (c : Choice) → HoldsItsSlot log c → c.slot < 256
holds_below log c holds = slot_below (scope_log log) c.n c.slot (held_given (phase log c.n) (given (scope_log log) c.n) c.slot holds)

-- ---- all rows

some_same : (a b : ℕ) → Some a ≡ Some b → a ≡ b
some_same a b e = cc

module _ (log : List GhostEvent) (seq : ℕ) (rows : List Row) where
  pub noted_none : HaveRows log rows → HaveNoted log seq [] rows
  noted_none h = (h.slots, λ n s has. let r = h.each n s has in record { due = r.due; turn = r.turn; carriers = r.carriers })

  pub lost_none : HaveRows log rows → HaveLost log seq [] rows
  lost_none h = (h.slots, λ n s has. let r = h.each n s has in record { due = r.due; turn = r.turn; carriers = r.carriers })

  module _ (items : List Choice) (c : Choice) (row : Row) (apart : AreApart (scope_log log)) (holds : HoldsItsSlot log c) (below : c.slot < 256) where
    of_other : (n s : ℕ) → slot log n ≡ Some s → s ≢ c.slot → c.n ≢ n
    of_other n s has other same = other (some_same s c.slot (sym has ∙ ap (slot log) (sym same) ∙ holds))

    pub noted_more : (mask : ℕ) → ((f : ℕ) → f < 16 → has_bit mask f ≡ op_carries c.op c.mask f) → HaveNoted log seq items rows → IsCarried seq mask (row_at rows c.slot) row → HaveNoted log seq (items ++ c ∷ []) (set rows c.slot row)
    noted_more mask is h step = (
      length-set rows c.slot row ∙ h.0,
      λ n s has. elim (cases_eq s c.slot) [
        | inl same ↦
            let here : slot log n ≡ Some c.slot = has ∙ ap Some same in
            subst (λ (t : ℕ). IsNoted log seq (items ++ c ∷ []) n (row_at (set rows c.slot row) t)) (sym same)
            (subst (IsNoted log seq (items ++ c ∷ []) n) (sym (row_same rows c.slot row (omega (arith, h.0, below))))
            (noted_here log seq items c n (row_at rows c.slot) row mask (apart c.n n c.slot holds here) is (h.1 n c.slot here) step))
        | inr other ↦
            subst (IsNoted log seq (items ++ c ∷ []) n) (sym (row_other rows c.slot s row other)) (noted_apart log seq items c n (row_at rows s) row (of_other n s has other) (h.1 n s has))
      ],
    )

    pub lost_more : HaveLost log seq items rows → IsRaised seq (row_at rows c.slot) row → HaveLost log seq (items ++ c ∷ []) (set rows c.slot row)
    lost_more h step = (
      length-set rows c.slot row ∙ h.0,
      λ n s has. elim (cases_eq s c.slot) [
        | inl same ↦
            let here : slot log n ≡ Some c.slot = has ∙ ap Some same in
            subst (λ (t : ℕ). IsLost log seq (items ++ c ∷ []) n (row_at (set rows c.slot row) t)) (sym same)
            (subst (IsLost log seq (items ++ c ∷ []) n) (sym (row_same rows c.slot row (omega (arith, h.0, below))))
            (lost_here log seq items c n (row_at rows c.slot) row (apart c.n n c.slot holds here) (h.1 n c.slot here) step))
        | inr other ↦
            subst (IsLost log seq (items ++ c ∷ []) n) (sym (row_other rows c.slot s row other)) (lost_apart log seq items c n (row_at rows s) row (of_other n s has other) (h.1 n s has))
      ],
    )
