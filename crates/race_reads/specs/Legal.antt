-- What a race asks of the reads of one client. Its connection kept its steps, the packs among them with what they read; the values
-- are what each field of each object had, and the final words say which writes no pack has drained.
use Rattle.std.specs.Prelude.{◌≡◌, ℕ, ◌<◌, nat_lt, Bool, true, ◌&&◌, List, [], ◌∷◌, ◌++◌, length, Some}
use Rattle.std.specs.List.{AllByRecursion}
use Rattle.tn_types.specs.declared.choices.Read.{Read}
use Rattle.dirty_lanes.specs.Words.{Words, mask_at}
use Rattle.ghost_masks.specs.Plan.{kind_of, fields_of}
use Rattle.stream_manager.specs.Limits.{Terms}
use Rattle.stream_manager.specs.Server.{ghost_log}
use Rattle.pair_core.specs.History.{PairStep}
use Rattle.kept_pair.specs.StepLists.{reads_in}
use Rattle.kept_pair.specs.Kept.{newest_first}
use Rattle.lane_periods.specs.Periods.{has}
use Rattle.pair_steps.specs.Steps.{up_in}
use Rattle.pair_periods.specs.Agreement.{server_log, is_due_after}
use Rattle.race_history.specs.History.{Values, fields_told}
use Rattle.race_reads.specs.Reads.{object_of, ReadStands, NeverFalls, last_read, IsCurrent}

-- all reads of the packs, in order
abbrev pub reads_of : List PairStep → List Read
reads_of [] = []
reads_of (step ∷ steps) = reads_in (Some step) ++ reads_of steps

-- the period has the field, and it is due after these steps, the newest first
abbrev pub is_field_due : Terms → List PairStep → ℕ → ℕ → Bool
is_field_due t past n field =
    nat_lt field (length (fields_of t.kinds (kind_of (ghost_log (server_log t past)) n))) && is_due_after t past n field

-- the last read of the field in this period has the newest version, or the field's bit stands in the final word of the client
-- and the object, or the field is due
abbrev pub IsFieldCurrent : Values → Words → ℕ → Terms → List PairStep → ℕ → ℕ → ℕ → Type 0
IsFieldCurrent values words client t steps n object field =
    IsCurrent values (mask_at words client object) (is_field_due t (newest_first steps) n field)
    (last_read (reads_of steps) n field) object field

-- the period has an object, and each field of it is current
pub record IsPeriodCurrent (values : Values) (words : Words) (client : ℕ) (t : Terms) (steps : List PairStep)
    (objects : List ℕ) (n : ℕ) : Type 0 where
  pub shown : n < length objects
  pub each : (field : ℕ) → field < length (fields_told values (object_of objects n))
      → IsFieldCurrent values words client t steps n (object_of objects n) field

-- where the period is shown and not hidden, it is current
abbrev pub IsCurrentIfUp : Values → Words → ℕ → Terms → List PairStep → List ℕ → ℕ → Type 0
IsCurrentIfUp values words client t steps objects n =
    has n (up_in (newest_first steps)) ≡ true → IsPeriodCurrent values words client t steps objects n

pub record AreLegalReads (values : Values) (words : Words) (client : ℕ) (t : Terms) (steps : List PairStep)
    (objects : List ℕ) : Type 0 where
  -- each read has the value at its version, for the object of its period and its field
  pub stand : AllByRecursion (ReadStands values objects) (reads_of steps)
  -- for each object and field the versions that were read never go down
  pub never_fall : NeverFalls objects (reads_of steps)
  -- each field of each period that is shown and not hidden is current
  pub current : (n : ℕ) → IsCurrentIfUp values words client t steps objects n
