-- What a game's own step makes of pending moves. A prediction is the copy that came last with all pending moves played on it.
use Rattle.std.specs.Prelude.{◌≡◌, refl, ◌-◌, ℕ, List, [], ◌∷◌, fold, take}
use Rattle.tn_types.specs.declared.moves.MoveBits.{MoveBits}
use Rattle.move_manager.specs.Sending.{SenderEvent, Sampled, Acked, acked_of, pending_of}

-- after all these moves, the oldest first, by any step of any game
abbrev pub played : {S : Type 0} → (S → MoveBits → S) → S → List MoveBits → S
played step base moves = fold step base moves

-- those of the pending moves that the server tells as accepted now
abbrev pub accepted_now : ℕ → List SenderEvent → List MoveBits
accepted_now count log = take (count - acked_of log) (pending_of log).1

-- if the server played the moves that it tells as accepted, and nothing else changed what they change, the prediction stays as it was
abbrev pub AcceptedChangesNothing : Type 0 → Type 0
AcceptedChangesNothing S =
    (step : S → MoveBits → S) (base : S) (log : List SenderEvent) (count : ℕ)
    → played step (played step base (accepted_now count log)) (pending_of (Acked count ∷ log)).1 ≡ played step base (pending_of log).1

-- ---- an example: of three moves, of which two are accepted

three_moves : List SenderEvent
three_moves = Sampled (record { bits = 5 }) ∷ Sampled (record { bits = 3 }) ∷ Sampled (record { bits = 1 }) ∷ []

two_accepted : accepted_now 2 three_moves ≡ record { bits = 1 } ∷ record { bits = 3 } ∷ []
unfolding three_moves
two_accepted = refl

one_is_pending : (pending_of (Acked 2 ∷ three_moves)).1 ≡ record { bits = 5 } ∷ []
unfolding three_moves
one_is_pending = refl
