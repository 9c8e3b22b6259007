-- What a client's end tells a prediction, by the list of what happened at that end, the newest first. Each data packet that it took
-- tells a base, by the copies after the packet, and the moves that the server has not told as accepted by then. Each move that it
-- sampled is told. A ping tells nothing, nor does what the end posts and sends.
use Rattle.std.specs.Prelude.{◌≡◌, ℤ, ◌==◌, if◌then◌else◌, List, [], ◌∷◌, drop, Option, Some, None, option_and_then}
use Rattle.tn_types.specs.declared.moves.MoveBits.{MoveBits}
use Rattle.quantised_fields.specs.declared.kind.Kind.{Kind}
use Rattle.wire_format.specs.declared.server.ServerPacket.{ServerPacket}
use Rattle.wire_format.specs.declared.server.ServerPacket.TheVariants as down
use Rattle.move_manager.specs.Sending.{acked_of}
use Rattle.ghost_client.specs.declared.copy.GhostCopy.{GhostCopy}
use Rattle.ghost_client.specs.Copies.{copy_of}
use Rattle.ghost_client.specs.State.{field_value}
use Rattle.stream_manager.specs.Client.{ClientEvent, Posted, Sampled, Packed, Pinged, Took, control_at, ghosts_came, sample_log, sampled_at}
use Rattle.world_rules.specs.declared.kinds.TheConstants.{PLAYER}
use Rattle.world_rules.specs.Kinds.{match_kinds}
use Rattle.client_predict.specs.Predicting as predicting
use Rattle.client_predict.specs.Predicting.{PredictEvent, Prediction, StandsFor, base_of, pending_of}
use Rattle.predict_client.specs.declared.player.TheConstants.{PLAYER_X, PLAYER_Y, PLAYER_AMMO}

-- ---- the base

abbrev pub all_three : Option ℤ → Option ℤ → Option ℤ → Option (ℤ × ℤ × ℤ)
all_three (Some x) (Some y) (Some ammo) = Some (x, y, ammo)
all_three (Some x) (Some y) None = None
all_three (Some x) None ammo = None
all_three None y ammo = None

-- x, y and ammo that a copy shows, where it is a player's
abbrev pub standing_of : List Kind → GhostCopy → Option (ℤ × ℤ × ℤ)
standing_of kinds copy =
    if copy.kind == PLAYER
    then all_three (field_value kinds PLAYER_X copy) (field_value kinds PLAYER_Y copy) (field_value kinds PLAYER_AMMO copy)
    else None

-- of the copy in the control slot, where there is one
abbrev pub base_at : List Kind → List ClientEvent → Option (ℤ × ℤ × ℤ)
base_at kinds log = option_and_then (λ slot. option_and_then (standing_of kinds) (copy_of (ghosts_came log) slot)) (control_at log)

-- ---- the pending moves

-- the sampled moves that the server has not told as accepted, the oldest first
abbrev pub unaccepted : List ClientEvent → List MoveBits
unaccepted log = drop (acked_of (sample_log log)) (sampled_at log)

-- ---- what is told

-- by a packet, behind what was told before it
abbrev pub told_by : ServerPacket → List ClientEvent → List PredictEvent → List PredictEvent
told_by (down.Ping head) log before = before
told_by (down.Body p) log before =
    let after = Took (down.Body p) ∷ log in predicting.Told (base_at match_kinds after) (unaccepted after) ∷ before

abbrev pub predict_log : List ClientEvent → List PredictEvent
predict_log [] = []
predict_log (Posted class payload ∷ log) = predict_log log
predict_log (Sampled m ∷ log) = predicting.Sampled m ∷ predict_log log
predict_log (Packed p ∷ log) = predict_log log
predict_log (Pinged head ∷ log) = predict_log log
predict_log (Took p ∷ log) = told_by p log (predict_log log)

-- a prediction that was told all this: its base and its pending moves are those of the client's end
pub record Follows (p : Prediction) (log : List ClientEvent) : Type 0 where
  pub stands : StandsFor p (predict_log log)
  pub base : base_of (predict_log log) ≡ base_at match_kinds log
  pub pending : pending_of (predict_log log) ≡ unaccepted log
