-- A prediction that was told all that happened at a client's end, after one event more.
use Rattle.std.proofs.Common.{◌≡◌, ◌≤◌, List, [], ◌∷◌, ◌++◌, length, Option, Some, None, refl, ap, sym, ◌∙◌, subst}
use Rattle.std.specs.Prelude.{ℤ, option_map}
use Rattle.std.proofs.lemmas.List.{drop-append-le}
use Rattle.tn_types.specs.declared.moves.MoveBits.{MoveBits}
use Rattle.wire_format.specs.declared.server.ServerPacket.{ServerPacket}
use Rattle.wire_format.specs.declared.server.ServerPacket.TheVariants as down
use Rattle.move_manager.specs.Sending.{acked_of}
use Rattle.stream_manager.specs.Client.{ClientEvent, Sampled, Took, sample_log, sampled_at}
use Rattle.world_rules.specs.Kinds.{match_kinds}
use Rattle.client_predict.specs.Standing.{played}
use Rattle.client_predict.specs.Predicting as predicting
use Rattle.client_predict.specs.Predicting.{PredictEvent, Prediction, StandsFor, Does, base_of, pending_of, value_of, offset_of}
use Rattle.client_predict.specs.Laws.{base_after}
use Rattle.client_predict.proofs.PredictLogs.{same_value, same_offset}
use Rattle.predict_client.specs.Following.{Follows, base_at, unaccepted, predict_log}

no_moves : (o : Option (ℤ × ℤ × ℤ)) → option_map (λ at. played at []) o ≡ o
no_moves None = refl
no_moves (Some at) = refl

-- what is told again changes nothing
told_again : (p : Prediction) (log : List PredictEvent) → StandsFor p (predicting.Told (base_of log) (pending_of log) ∷ log) → StandsFor p log
told_again p log h =
    let e : base_after [] log ≡ base_of log = no_moves (base_of log) in
    let again : Option (ℤ × ℤ × ℤ) → List PredictEvent = λ b. predicting.Told b (pending_of log) ∷ log in
    record {
      value = h.value ∙ sym (ap (λ b. value_of (again b)) e) ∙ same_value log [] (pending_of log) refl;
      offset = h.offset ∙ sym (ap (λ b. offset_of (again b)) e) ∙ same_offset log [] (pending_of log) refl;
    }

-- a packet was taken: its base and the unaccepted moves after it were told
pub followed_packet : (old new : Prediction) (base : Option (ℤ × ℤ × ℤ)) (pending : List MoveBits) (log : List ClientEvent) (p : ServerPacket)
    → Does old (predicting.Told base pending) new → base ≡ base_at match_kinds (Took p ∷ log) → pending ≡ unaccepted (Took p ∷ log)
    → Follows old log → Follows new (Took p ∷ log)
followed_packet old new base pending log (down.Body p) does b m h =
    let told = does (predict_log log) h.stands in
    let with_base : Option (ℤ × ℤ × ℤ) → Type 0 = λ b. StandsFor new (predicting.Told b pending ∷ predict_log log) in
    let with_both : List MoveBits → Type 0 =
    λ m. StandsFor new (predicting.Told (base_at match_kinds (Took (down.Body p) ∷ log)) m ∷ predict_log log) in
    record { stands = subst with_both m (subst with_base b told); base = refl; pending = refl }
followed_packet old new base pending log (down.Ping head) does b m h =
    let told = does (predict_log log) h.stands in
    let with_base : Option (ℤ × ℤ × ℤ) → Type 0 = λ b. StandsFor new (predicting.Told b pending ∷ predict_log log) in
    let with_both : List MoveBits → Type 0 = λ m. StandsFor new (predicting.Told (base_of (predict_log log)) m ∷ predict_log log) in
    record {
      stands = told_again new (predict_log log) (subst with_both (m ∙ sym h.pending) (subst with_base (b ∙ sym h.base) told));
      base = h.base;
      pending = h.pending;
    }

-- a move was sampled
pub followed_move : (old new : Prediction) (m : MoveBits) (log : List ClientEvent) → acked_of (sample_log log) ≤ length (sampled_at log)
    → Does old (predicting.Sampled m) new → Follows old log → Follows new (Sampled m ∷ log)
followed_move old new m log within does h = record {
  stands = does (predict_log log) h.stands;
  base = h.base;
  pending = ap (λ t. t ++ m ∷ []) h.pending ∙ sym (drop-append-le (acked_of (sample_log log)) (sampled_at log) (m ∷ []) within);
}
