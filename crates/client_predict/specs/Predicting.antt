-- What a client predicts of its player. A log has what happened, the newest first: a packet told of the player and of the moves that
-- are pending, or a move was sampled. The value is the base that was told last with all pending moves played on it; the offset
-- takes each correction, and loses a quarter with each sampled move.
use Rattle.std.specs.Prelude.{◌≡◌, ℤ, pos, List, [], ◌∷◌, ◌++◌, Option, None, option_map}
use Rattle.tn_types.specs.declared.moves.MoveBits.{MoveBits}
use Rattle.tn_types.specs.Histories as histories
use Rattle.client_predict.specs.Standing.{played}
use Rattle.client_predict.specs.Offsets.{corrected, decayed_both}

pub data PredictEvent : Type 0 where
  Told : (base : Option (ℤ × ℤ × ℤ)) (pending : List MoveBits) → PredictEvent
  Sampled : MoveBits → PredictEvent

-- the base that was told last
abbrev pub base_of : List PredictEvent → Option (ℤ × ℤ × ℤ)
base_of [] = None
base_of (Told base pending ∷ log) = base
base_of (Sampled m ∷ log) = base_of log

-- the pending moves, the oldest first: those that were told last, and those that were sampled since
abbrev pub pending_of : List PredictEvent → List MoveBits
pending_of [] = []
pending_of (Told base pending ∷ log) = pending
pending_of (Sampled m ∷ log) = pending_of log ++ m ∷ []

abbrev pub value_of : List PredictEvent → Option (ℤ × ℤ × ℤ)
value_of log = option_map (λ base. played base (pending_of log)) (base_of log)

abbrev pub offset_of : List PredictEvent → ℤ × ℤ
offset_of [] = (pos 0, pos 0)
offset_of (Told base pending ∷ log) = corrected (value_of log) (value_of (Told base pending ∷ log)) (offset_of log)
offset_of (Sampled m ∷ log) = decayed_both (offset_of log)

-- what contracts see of a prediction
pub record Prediction : Type 0 where
  pub value : Option (ℤ × ℤ × ℤ)
  pub offset : ℤ × ℤ

pub record StandsFor (p : Prediction) (log : List PredictEvent) : Type 0 where
  pub value : p.value ≡ value_of log
  pub offset : p.offset ≡ offset_of log

-- for every log that the old prediction stood for, the new one stands for it with the event
abbrev pub Does : Prediction → PredictEvent → Prediction → Type 0
Does old event new = histories.Does StandsFor old event new

-- for every such log the result is what f says of it
abbrev pub Answers : {R : Type 0} → Prediction → (List PredictEvent → R) → R → Type 0
Answers {R} old f result = histories.Answers StandsFor old f result
