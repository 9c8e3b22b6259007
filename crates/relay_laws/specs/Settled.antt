-- What a field shows that is marked as settled at a spectator: what the relay's copy of the same object shows now. So where the match's
-- server counts that field as settled too, it is the value that the object has now.
use Rattle.std.specs.Prelude.{◌≡◌, ℕ, ℤ, true, Some}
use Rattle.ghost_model.specs.Ghosts.{slot}
use Rattle.ghost_client.specs.declared.copy.GhostCopy.{GhostCopy}
use Rattle.match_report.specs.declared.copies.FieldTold.{FieldTold}
use Rattle.match_laws.specs.pair_core.stream_manager.Server.{ghost_log}
use Rattle.match_laws.specs.Values.{ShowsNewest, IsShownField as IsShownInMatch}
use Rattle.relay_model.specs.Watching.{watched}
use Rattle.relay_laws.specs.Moments.{RelayMoment, AtEachLine, match_then, met_then, ends_then}
use Rattle.relay_laws.specs.Shown.{IsShownField}

-- the spectator's period that holds the copy's slot watches a slot of the relay's copies now; the copy there is of the same kind and has the
-- field, and shows of it what is told. Where that is settled, it is shown for the value that the object has now
pub record ShowsTheRelays (m : RelayMoment) (at kind f : ℕ) (told : ℤ) : Type 0 where
  pub watch : ℕ
  pub holds : slot (ghost_log (ends_then m).server) watch ≡ Some at
  pub there : ℕ
  pub watches : (watched (met_then m)).period there ≡ Some watch
  pub copy : GhostCopy
  pub same_kind : copy.kind ≡ kind
  pub shown : FieldTold
  pub is_shown : IsShownInMatch (match_then m) there f copy shown
  pub same : told ≡ shown.value
  pub newest : shown.settled ≡ true → ShowsNewest (match_then m) there kind f told

-- so is every field that is marked as settled at a spectator
abbrev pub SettledShowsTheRelays : Type 0
SettledShowsTheRelays =
    AtEachLine (λ m. (at f : ℕ) (copy : GhostCopy) (told : FieldTold) → IsShownField m at f copy told → told.settled ≡ true
    → ShowsTheRelays m at copy.kind f told.value)
