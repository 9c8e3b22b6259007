-- A walk over packets of which some were processed.
use Rattle.std.proofs.Common.{◌≡◌, ℕ, zero, suc, ◌+◌, ◌<◌, ◌≤◌, Bool, true, false, cond, List, [], ◌∷◌, ◌++◌, ◌∙◌, take, length, length-take, Some, refl, ap, arith}
use Rattle.std.specs.Prelude.{slice_get}
use Rattle.ghost_pair.specs.Copies.{after_done}

module _ {P X : Type 0} (step : P → X → X) (done : ℕ → Bool) where
  -- where none of them was processed
  pub done_none : (k : ℕ) (x : X) (ps : List P) → ((s : ℕ) → k ≤ s → s < k + length ps → done s ≡ false) → after_done step done k x ps ≡ x
  done_none k x [] none = refl
  done_none k x (p ∷ ps) none =
      ap (λ b. after_done step done (suc k) (cond b (step p x) x) ps) (none k (omega arith) (omega arith)) ∙ done_none (suc k) x ps (λ s l b. none s (omega arith) (omega arith))

  -- one more packet
  pub done_push : (k : ℕ) (x : X) (ps : List P) (p : P) → after_done step done k x (ps ++ p ∷ []) ≡ cond (done (k + length ps)) (step p (after_done step done k x ps)) (after_done step done k x ps)
  done_push k x [] p = ap (λ i. cond (done i) (step p x) x) (let e : k ≡ k + 0 = omega arith in e)
  done_push k x (q ∷ ps) p =
      let y : X = cond (done k) (step q x) x in
      done_push (suc k) y ps p ∙ ap (λ i. cond (done i) (step p (after_done step done (suc k) y ps)) (after_done step done (suc k) y ps)) (let e : suc k + length ps ≡ k + suc (length ps) = omega arith in e)

  pub done_append : (k : ℕ) (x : X) (ps qs : List P) → after_done step done k x (ps ++ qs) ≡ after_done step done (k + length ps) (after_done step done k x ps) qs
  done_append k x [] qs = ap (λ i. after_done step done i x qs) (let e : k ≡ k + 0 = omega arith in e)
  done_append k x (p ∷ ps) qs =
      let y : X = cond (done k) (step p x) x in
      done_append (suc k) y ps qs ∙ ap (λ i. after_done step done i (after_done step done (suc k) y ps) qs) (let e : suc k + length ps ≡ k + suc (length ps) = omega arith in e)

  -- up to a place, and to one behind it where none between them was processed
  pub done_take : (k : ℕ) (x : X) (ps : List P) (i j : ℕ) → i ≤ j → ((s : ℕ) → k + i ≤ s → s < k + j → done s ≡ false) → after_done step done k x (take j ps) ≡ after_done step done k x (take i ps)
  done_take k x ps zero j le none = done_none k x (take j ps) (λ s l b. none s (omega arith) (omega (arith, length-take j ps)))
  done_take k x ps (suc i) zero le none = absurd (omega arith)
  done_take k x [] (suc i) (suc j) le none = refl
  done_take k x (p ∷ ps) (suc i) (suc j) le none = done_take (suc k) (cond (done k) (step p x) x) ps i j (omega arith) (λ s l b. none s (omega arith) (omega arith))

  -- and to the next one, which was processed
  pub done_next : (k : ℕ) (x : X) (ps : List P) (i : ℕ) (p : P) → slice_get ps i ≡ Some p → done (k + i) ≡ true → after_done step done k x (take (suc i) ps) ≡ step p (after_done step done k x (take i ps))
  done_next k x [] i p at now = absurd (nothing i at)
    where
      nothing : (i : ℕ) → slice_get {X = P} [] i ≡ Some p → ⊥
      nothing zero h = cc
      nothing (suc i) h = cc
  done_next k x (q ∷ ps) zero p at now = ap (λ b. cond b (step q x) x) (ap done (let e : k ≡ k + 0 = omega arith in e) ∙ now) ∙ ap (λ r. step r x) (same at)
    where
      same : Some q ≡ Some p → q ≡ p
      same h = cc
  done_next k x (q ∷ ps) (suc i) p at now = done_next (suc k) (cond (done k) (step q x) x) ps i p at (ap done (let e : suc k + i ≡ k + suc i = omega arith in e) ∙ now)
