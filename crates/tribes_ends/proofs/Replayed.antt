-- Pending moves of which the first are accepted.
use Rattle.std.proofs.Common.{◌≡◌, ◌∙◌, ℕ, ◌-◌, max, List, ◌∷◌, ◌++◌, take, drop, sym, ap, arith}
use Rattle.std.specs.Prelude.{fold}
use Rattle.std.proofs.lemmas.List.{drop-drop, take-append-drop}
use Rattle.std.proofs.lemmas.List.Sums.{fold-append}
use Rattle.tn_types.specs.declared.moves.MoveBits.{MoveBits}
use Rattle.move_manager.specs.Sending.{SenderEvent, Acked, acked_of, sampled_of, pending_of}
use Rattle.tribes_ends.specs.Played.{played, accepted_now}

pub both-parts : (log : List SenderEvent) (count : ℕ) → accepted_now count log ++ (pending_of (Acked count ∷ log)).1 ≡ (pending_of log).1
both-parts log count =
    let k = count - acked_of log in
    let all = drop (acked_of log) (sampled_of log) in
    ap (λ (n : ℕ). take k all ++ drop n (sampled_of log)) (omega arith) ∙ ap (λ l. take k all ++ l) (sym (drop-drop k (acked_of log) (sampled_of log))) ∙ take-append-drop k all

pub played-on : {S : Type 0} (step : S → MoveBits → S) (base : S) (log : List SenderEvent) (count : ℕ)
    → played step (played step base (accepted_now count log)) (pending_of (Acked count ∷ log)).1 ≡ played step base (pending_of log).1
played-on step base log count =
    sym (fold-append step base (accepted_now count log) (pending_of (Acked count ∷ log)).1) ∙ ap (fold step base) (both-parts log count)
