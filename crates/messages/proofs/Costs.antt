-- How many pieces a message has, and how many bytes these.
use Rattle.std.proofs.Common.{◌≡◌, ℕ, zero, suc, ◌+◌, ◌-◌, ◌*◌, ◌/◌, ◌≤◌, List, ◌∷◌, length, take, drop, subst, sym, arith, inl, inr, length-drop, length-take}
use Rattle.std.specs.Prelude.{sum_by}
use Rattle.std.proofs.lemmas.List.Sums.{sum_by-cons}
use Rattle.std.proofs.lemmas.Bool.{cases_lt}
use Rattle.messages.specs.declared.form.ParcelKind.{ParcelKind}
use Rattle.messages.specs.declared.form.ParcelKind.TheVariants.{Event, Message}
use Rattle.messages.specs.Pieces.{rest_pieces, rest_of, first_piece, pieces_by}
use Rattle.messages.proofs.CutPieces.{event-pieces, short-message, long-message, length-rest}

rest-cost-by : (k : ℕ) (xs : List ℕ) → 23 * k ≤ length xs → sum_by length (rest_pieces k xs) ≡ suc k + length xs
rest-cost-by zero xs h = omega arith
rest-cost-by (suc k) xs h =
    let first : length (take 23 xs) ≡ 23 = omega (arith, length-take 23 xs) in
    let less : 23 * k ≤ length (drop 23 xs) = omega (arith, length-drop 23 xs) in
    omega (arith, sum_by-cons (λ (p : List ℕ). length p) (3 ∷ take 23 xs) (rest_pieces k (drop 23 xs)), rest-cost-by k (drop 23 xs) less, length-drop 23 xs, first)

rest-cost : (xs : List ℕ) → sum_by length (rest_of xs) ≡ length (rest_of xs) + length xs
unfolding rest_of
rest-cost xs = omega (arith, rest-cost-by ((length xs - 1) / 23) xs (omega arith), length-rest xs)

pub pieces-few : (xs : List ℕ) → 23 * length (pieces_by Message xs) ≤ length xs + 24
pieces-few xs = elim (cases_lt 23 (length xs)) [
  | inl l ↦ subst (λ (t : List (List ℕ)). 23 * length t ≤ length xs + 24) (sym (long-message xs l)) (omega (arith, length-rest (drop 21 xs), length-drop 21 xs))
  | inr l ↦ subst (λ (t : List (List ℕ)). 23 * length t ≤ length xs + 24) (sym (short-message xs l)) (omega arith)
]

pub pieces-cheap : (xs : List ℕ) → sum_by length (pieces_by Message xs) ≤ length xs + length (pieces_by Message xs) + 2
pieces-cheap xs = elim (cases_lt 23 (length xs)) [
  | inl l ↦ subst (λ (t : List (List ℕ)). sum_by length t ≤ length xs + length t + 2) (sym (long-message xs l))
      (omega (arith, sum_by-cons (λ (p : List ℕ). length p) (first_piece (length xs) xs) (rest_of (drop 21 xs)), rest-cost (drop 21 xs), length-drop 21 xs, length-take 21 xs))
  | inr l ↦ subst (λ (t : List (List ℕ)). sum_by length t ≤ length xs + length t + 2) (sym (short-message xs l)) (omega arith)
]

-- no parcel has more pieces than the longest message
pub pieces-bounded : (kind : ParcelKind) (xs : List ℕ) → length xs ≤ 65535 → length (pieces_by kind xs) ≤ 2850
pieces-bounded Event xs h = subst (λ (t : List (List ℕ)). length t ≤ 2850) (sym (event-pieces xs)) (omega arith)
pieces-bounded Message xs h = omega (arith, pieces-few xs)
