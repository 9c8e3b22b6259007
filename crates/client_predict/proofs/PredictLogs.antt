-- What holds of every log of told and sampled.
use Rattle.std.proofs.Common.{◌≡◌, ℕ, suc, zero, ◌+◌, ◌-◌, ◌*◌, ◌/◌, ◌≤◌, List, [], ◌∷◌, ◌++◌, length, Option, Some, None, refl, arith, ap, sym, ◌∙◌}
use Rattle.std.specs.Prelude.{ℤ, pos, negsuc, option_map}
use Rattle.std.specs.Int.RustNames.{unsigned_abs}
use Rattle.std.proofs.lemmas.List.Sums.{fold-append}
use Rattle.tn_types.specs.declared.moves.MoveBits.{MoveBits}
use Rattle.client_predict.specs.declared.predict.TheConstants.{MAX_OFFSET}
use Rattle.client_predict.specs.Standing.{moved_by, played}
use Rattle.client_predict.specs.Offsets.{IsOffset, decayed_both, corrected}
use Rattle.client_predict.specs.Predicting.{PredictEvent, Told, Sampled, base_of, pending_of, value_of, offset_of, Prediction, StandsFor}
use Rattle.client_predict.specs.Laws.{base_after, with_sampled}
use Rattle.client_predict.proofs.OffsetParts.{abs-decayed, decayed_within, corrected_within, corrected_same}

-- ---- values

-- one move more
pub value_more : (o : Option (ℤ × ℤ × ℤ)) (moves : List MoveBits) (m : MoveBits)
    → option_map (λ at. moved_by at m) (option_map (λ at. played at moves) o) ≡ option_map (λ at. played at (moves ++ m ∷ [])) o
value_more None moves m = refl
value_more (Some at) moves m = ap Some (sym (fold-append moved_by at moves (m ∷ [])))

-- the base after the first moves, with the rest
value_split : (o : Option (ℤ × ℤ × ℤ)) (first rest : List MoveBits)
    → option_map (λ at. played at rest) (option_map (λ at. played at first) o) ≡ option_map (λ at. played at (first ++ rest)) o
value_split None first rest = refl
value_split (Some at) first rest = ap Some (sym (fold-append moved_by at first rest))

pub same_value : (log : List PredictEvent) (first rest : List MoveBits) → pending_of log ≡ first ++ rest
    → value_of (Told (base_after first log) rest ∷ log) ≡ value_of log
same_value log first rest e = rw e (value_split (base_of log) first rest)

-- ---- offsets

-- every offset is within its range
pub offset_within : (log : List PredictEvent) → IsOffset (offset_of log)
offset_within [] = (omega arith, omega arith)
offset_within (Told base pending ∷ log) = corrected_within (value_of log) (value_of (Told base pending ∷ log)) (offset_of log)
offset_within (Sampled m ∷ log) = decayed_within (offset_of log) (offset_within log)

corrected_none : (old : Option (ℤ × ℤ × ℤ)) (e : ℤ × ℤ) → corrected old None e ≡ (pos 0, pos 0)
corrected_none None e = refl
corrected_none (Some old) e = refl

-- with no base there is no offset
offset_none : (log : List PredictEvent) → base_of log ≡ None → offset_of log ≡ (pos 0, pos 0)
offset_none [] e = refl
offset_none (Told base pending ∷ log) e =
    ap (λ b. corrected (value_of log) (option_map (λ at. played at pending) b) (offset_of log)) e ∙ corrected_none (value_of log) (offset_of log)
offset_none (Sampled m ∷ log) e = ap decayed_both (offset_none log e)

map_none : (o : Option (ℤ × ℤ × ℤ)) (moves : List MoveBits) → option_map (λ at. played at moves) o ≡ None → o ≡ None
map_none None moves e = refl
map_none (Some at) moves e = cc

pub same_offset : (log : List PredictEvent) (first rest : List MoveBits) → pending_of log ≡ first ++ rest
    → offset_of (Told (base_after first log) rest ∷ log) ≡ offset_of log
same_offset log first rest e =
    ap (λ v. corrected (value_of log) v (offset_of log)) (same_value log first rest e)
    ∙ corrected_same (value_of log) (offset_of log) (offset_within log) (λ none. offset_none log (map_none (base_of log) (pending_of log) none))

-- ---- offsets fade

-- what so many samples leave of a number
shrunk : ℕ → ℕ → ℕ
shrunk zero n = n
shrunk (suc k) n = 3 * shrunk k n / 4

quarters : (a b : ℕ) → a ≤ b → 3 * a / 4 ≤ 3 * b / 4
quarters a b h = omega arith

fades_0 : (log : List PredictEvent) (moves : List MoveBits) → unsigned_abs (offset_of (with_sampled moves log)).0 ≤ shrunk (length moves) MAX_OFFSET
unfolding shrunk
fades_0 log [] = (offset_within log).0
fades_0 log (m ∷ moves) =
    let before = offset_of (with_sampled moves log) in
    omega (arith, abs-decayed before.0, quarters (unsigned_abs before.0) (shrunk (length moves) MAX_OFFSET) (fades_0 log moves))

fades_1 : (log : List PredictEvent) (moves : List MoveBits) → unsigned_abs (offset_of (with_sampled moves log)).1 ≤ shrunk (length moves) MAX_OFFSET
unfolding shrunk
fades_1 log [] = (offset_within log).1
fades_1 log (m ∷ moves) =
    let before = offset_of (with_sampled moves log) in
    omega (arith, abs-decayed before.1, quarters (unsigned_abs before.1) (shrunk (length moves) MAX_OFFSET) (fades_1 log moves))

at_22 : shrunk 22 MAX_OFFSET ≡ 0
unfolding shrunk
at_22 = refl

zero_stays : (n k : ℕ) → shrunk k n ≡ 0 → shrunk (suc k) n ≡ 0
unfolding shrunk
zero_stays n k e = omega (arith, e)

from_22 : (j : ℕ) → shrunk (j + 22) MAX_OFFSET ≡ 0
from_22 zero = at_22
from_22 (suc j) = let e : suc j + 22 ≡ suc (j + 22) = omega arith in rw e (zero_stays MAX_OFFSET (j + 22) (from_22 j))

none_left : (k : ℕ) → 22 ≤ k → shrunk k MAX_OFFSET ≡ 0
none_left k h = let e : k ≡ (k - 22) + 22 = omega arith in rw e (from_22 (k - 22))

is_zero : (z : ℤ) → unsigned_abs z ≤ 0 → z ≡ pos 0
is_zero (pos n) h = ap pos (omega arith)
is_zero (negsuc n) h = absurd (omega arith)

pub fades : (log : List PredictEvent) (moves : List MoveBits) → 22 ≤ length moves → offset_of (with_sampled moves log) ≡ (pos 0, pos 0)
fades log moves h =
    let none = none_left (length moves) h in
    let offset = offset_of (with_sampled moves log) in
    let x : offset.0 ≡ pos 0 = is_zero offset.0 (omega (arith, fades_0 log moves, none)) in
    let y : offset.1 ≡ pos 0 = is_zero offset.1 (omega (arith, fades_1 log moves, none)) in
    let with_x : ℤ → ℤ × ℤ = λ a. (a, offset.1) in
    let with_y : ℤ → ℤ × ℤ = λ b. (pos 0, b) in
    ap with_x x ∙ ap with_y y

-- ---- events

pub sampled_more : (p : Prediction) (m : MoveBits) (log : List PredictEvent) → StandsFor p log
    → StandsFor (record { value = option_map (λ at. moved_by at m) p.value; offset = decayed_both p.offset }) (Sampled m ∷ log)
sampled_more p m log h = record {
  value = ap (option_map (λ at. moved_by at m)) h.value ∙ value_more (base_of log) (pending_of log) m;
  offset = ap decayed_both h.offset;
}

pub sampled_within : (e : ℤ × ℤ) → IsOffset e → IsOffset (decayed_both e)
sampled_within e h = decayed_within e h

pub told_more : (p : Prediction) (base : Option (ℤ × ℤ × ℤ)) (pending : List MoveBits) (log : List PredictEvent) → StandsFor p log
    → let value = option_map (λ at. played at pending) base in
    StandsFor (record { value = value; offset = corrected p.value value p.offset }) (Told base pending ∷ log)
told_more p base pending log h =
    let value = option_map (λ at. played at pending) base in
    record { value = refl; offset = ap (λ v. corrected v value p.offset) h.value ∙ ap (corrected (value_of log) value) h.offset }
