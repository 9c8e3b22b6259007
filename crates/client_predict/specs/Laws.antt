-- What holds of every log of told and sampled.
use Rattle.std.specs.Prelude.{◌≡◌, ℤ, pos, ◌≤◌, List, ◌∷◌, ◌++◌, length, map, Option, option_map}
use Rattle.tn_types.specs.declared.moves.MoveBits.{MoveBits}
use Rattle.client_predict.specs.Standing.{played}
use Rattle.client_predict.specs.Predicting.{PredictEvent, Told, Sampled, base_of, pending_of, value_of, offset_of}

-- the last base, after these moves
abbrev pub base_after : List MoveBits → List PredictEvent → Option (ℤ × ℤ × ℤ)
base_after moves log = option_map (λ base. played base moves) (base_of log)

-- a packet that tells the last base after the first of the pending moves, and the rest of them as pending, changes neither the value
-- nor the offset
abbrev pub AcceptedChangesNothing : Type 0
AcceptedChangesNothing =
    (log : List PredictEvent) (first rest : List MoveBits) → pending_of log ≡ first ++ rest
    → let later = Told (base_after first log) rest ∷ log in
    (value_of later ≡ value_of log) × (offset_of later ≡ offset_of log)

-- behind a log, these moves were sampled, the newest first
abbrev pub with_sampled : List MoveBits → List PredictEvent → List PredictEvent
with_sampled moves log = map (λ m. Sampled m) moves ++ log

-- 22 samples leave nothing of the greatest offset
abbrev pub OffsetSettles : Type 0
OffsetSettles = (log : List PredictEvent) (moves : List MoveBits) → 22 ≤ length moves → offset_of (with_sampled moves log) ≡ (pos 0, pos 0)
