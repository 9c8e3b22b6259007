-- The lock rule: what holds of a locked connection whenever no thread is inside. The pair is what the kept steps make of a new one;
-- the reads among the steps are those of the seat's view of the lanes, each an entry of its own, in their order; and each field that the
-- view owes, of a period that is shown and not hidden, is due.
use Rattle.std.specs.Prelude.{◌≡◌, ℕ, ◌<◌, true, List, [], ◌∷◌, ◌++◌, length, slice_get, slice_index, Some}
use Rattle.std.specs.List.{AllZip}
use Rattle.tn_types.specs.declared.moves.MoveBits.{MoveBits}
use Rattle.tn_types.specs.declared.choices.Read.{Read}
use Rattle.quantised_fields.specs.declared.kind.Kind.{Kind}
use Rattle.ghost_model.specs.Legal.{IsUp}
use Rattle.ghost_masks.specs.Plan.{kind_of}
use Rattle.dirty_lanes.specs.declared.view.PackView.{PackView}
use Rattle.dirty_lanes.specs.declared.view.PackStep.{PackStep}
use Rattle.dirty_lanes.specs.Views.{owes, drains, reads}
use Rattle.stream_manager.specs.Limits.{Terms}
use Rattle.stream_manager.specs.Server.{ghost_log}
use Rattle.kept_pair.specs.pair_core.History.{PairStep, Pack}
use Rattle.kept_pair.specs.Kept.{KeptState, Replays, terms_in, newest_first}
use Rattle.lane_periods.specs.Periods.{PeriodList, has}
use Rattle.lane_periods.specs.Views.{IsTheRead}
use Rattle.pair_periods.specs.pair_steps.Steps.{shows_in}
use Rattle.pair_periods.specs.Agreement.{Agree, server_log, is_due_after, HasField}
use Rattle.race_messages.specs.declared.message.Message.{Message}
use Rattle.connection_lock.specs.Taking.{Progress}

pub record LockedState : Type 0 where
  pub kept : KeptState
  pub seat : PackView
  pub objects : List ℕ  -- of each period
  pub received : List Message  -- what the inbox gave
  pub known : List Message  -- what it is known to hold
  pub sent : List MoveBits  -- what the outbox was given
  pub free : ℕ  -- how many places of it are known to be free

abbrev pub terms_of : LockedState → Terms
terms_of s = terms_in s.kept

abbrev pub progress_of : KeptState → PackView → List ℕ → Progress
progress_of k seat objects = record { past = newest_first k.steps; objects = objects; drains = drains seat.steps }

abbrev pub progress_in : LockedState → Progress
progress_in s = progress_of s.kept s.seat s.objects

-- what the packs among these steps read, the oldest first
abbrev pub reads_told : List PairStep → List Read
reads_told [] = []
reads_told (Pack drained read ∷ past) = reads_told past ++ read
reads_told (step ∷ past) = reads_told past

-- they are the view's reads, one by one
abbrev pub AreReadsOf : List ℕ → List ℕ → List Kind → List PackStep → List PairStep → Type 0
AreReadsOf objects kinds table view past = AllZip (IsTheRead objects kinds table) (reads view) (reads_told past)

-- each owed field of a period that is up is due
abbrev pub OwedIsDue : Terms → List PairStep → List ℕ → List PackStep → Type 0
OwedIsDue t past objects view = (n field : ℕ) → IsUp (ghost_log (server_log t past)) n → HasField t past n field
    → owes view (slice_index objects n) field ≡ true → is_due_after t past n field ≡ true

pub record LockHolds (s : LockedState) : Type 0 where
  pub replays : Replays s.kept.pair s.kept.steps
  pub objects : length s.objects ≡ shows_in (newest_first s.kept.steps)
  pub kinds : List ℕ  -- with which each period was shown
  pub are_kinds : (n : ℕ) → n < length s.objects → slice_get kinds n ≡ Some (kind_of (ghost_log (server_log (terms_of s) (newest_first s.kept.steps))) n)
  pub read : AreReadsOf s.objects kinds (terms_of s).kinds s.seat.steps (newest_first s.kept.steps)
  pub owed : OwedIsDue (terms_of s) (newest_first s.kept.steps) s.objects s.seat.steps

-- ---- what the parts of it keep

-- steps, a seat's view and a list of periods of one connection, where the lanes have so many objects
pub record IsLocked (t : Terms) (objects : ℕ) (past : List PairStep) (view : List PackStep) (p : PeriodList) : Type 0 where
  pub agree : Agree past p
  pub table : p.table ≡ t.kinds
  pub there : (n : ℕ) → has n p.up ≡ true → slice_index p.objects n < objects
  pub read : AreReadsOf p.objects p.kinds t.kinds view past
  pub owed : OwedIsDue t past p.objects view

-- no event waits at either end
pub record IsQuiet (k : KeptState) : Type 0 where
  pub client : k.pair.client.common.receiver.ready ≡ []
  pub server : k.pair.conn.common.receiver.ready ≡ []

abbrev pub AreLocked : ℕ → KeptState → PackView → PeriodList → Type 0
AreLocked objects k seat p = IsLocked (terms_in k) objects (newest_first k.steps) seat.steps p × IsQuiet k
