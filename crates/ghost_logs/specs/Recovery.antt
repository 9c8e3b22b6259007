-- No change is lost. Each field of each period that is shown and not hidden is due, or an unjudged packet carries it, or the
-- last packet that carries it was received and the client's copy has that packet's level. So whatever the network loses,
-- the field is still to be sent, or on its way, or right.
use Rattle.std.specs.Prelude.{◌≡◌, ◌⊎◌, ℕ, ◌<◌, true, List, length, slice_index_or, Some}
use Rattle.std.specs.List.{list_any}
use Rattle.ghost_model.specs.Ghosts.{slot, carries, unjudged, is_due}
use Rattle.ghost_model.specs.Due.{is_received_last}
use Rattle.ghost_model.specs.Legal.{IsUp}
use Rattle.ghost_client.specs.declared.copy.GhostCopy.{GhostCopy}
use Rattle.ghost_client.specs.Copies.{copy_of}
use Rattle.ghost_pair.specs.Levels.{last_level}
use Rattle.stream_manager.specs.Server.{ServerEvent, ghost_log}
use Rattle.stream_manager.specs.Client.{ClientEvent, ghosts_came}
use Rattle.ghost_logs.specs.Sent.{sent_items}

-- the client's copy of the period has the level of the last packet that carries the field, which was received
pub record IsRight (s : List ServerEvent) (c : List ClientEvent) (n f : ℕ) : Type 0 where
  pub received : is_received_last (ghost_log s) n f ≡ true
  pub at : ℕ
  pub holds : slot (ghost_log s) n ≡ Some at
  pub copy : GhostCopy
  pub here : copy_of (ghosts_came c) at ≡ Some copy
  pub level : f < length copy.levels → last_level n f (sent_items s) ≡ Some (slice_index_or copy.levels f 0)

abbrev pub IsRecovered : List ServerEvent → List ClientEvent → ℕ → ℕ → Type 0
IsRecovered s c n f =
    (is_due (ghost_log s) n f ≡ true) ⊎ ((list_any (carries n f) (unjudged (ghost_log s)) ≡ true) ⊎ IsRight s c n f)

abbrev pub LosesNothing : List ServerEvent → List ClientEvent → Type 0
LosesNothing s c = (n f : ℕ) → IsUp (ghost_log s) n → IsRecovered s c n f
