-- What is kept of the period that holds a slot: which fields are due, its last turn, and the last packet that carries
-- each field.
use Rattle.std.specs.Prelude.{◌≡◌, ℕ, ◌<◌, ◌==◌, ◌&&◌, ◌||◌, true, not, List, [], length, Some, if◌then◌else◌, slice_index_or}
use Rattle.tn_types.specs.declared.limits.TheConstants.{MAX_FIELDS, MAX_SLOTS}
use Rattle.tn_types.specs.declared.choices.Choice.{Choice}
use Rattle.tn_types.specs.BitWords.{has_bit}
use Rattle.ghost_model.specs.Ghosts.{GhostEvent, carries, is_due, slot}
use Rattle.ghost_model.specs.Candidates.{names}
use Rattle.ghost_model.specs.Carriers.{last_carrier}
use Rattle.ghost_model.specs.LastTurn.{last_turn}

pub record Row : Type 0 where
  pub due : ℕ  -- bit f for field f: it is due
  pub turn : ℕ  -- how many packets were sent at the period's last turn
  pub carriers : List ℕ  -- the number of the last packet that carries each field, 0 where none does

abbrev pub no_row : Row
no_row = record { due = 0; turn = 0; carriers = [] }

-- the row of a slot
abbrev pub row_at : List Row → ℕ → Row
row_at rows slot = slice_index_or rows slot no_row

abbrev pub carrier_at : Row → ℕ → ℕ
carrier_at r field = slice_index_or r.carriers field 0

-- all is due, and no packet carried anything
pub record IsFresh (at : ℕ) (r : Row) : Type 0 where
  pub due : (field : ℕ) → field < MAX_FIELDS → has_bit r.due field ≡ true
  pub turn : r.turn ≡ at
  pub carriers : (field : ℕ) → field < MAX_FIELDS → carrier_at r field ≡ 0

-- no packet was sent, and each slot has a row of a period that begins
abbrev pub AreFresh : List Row → Type 0
AreFresh rows = (slot : ℕ) → slot < MAX_SLOTS → IsFresh 0 (row_at rows slot)

-- these fields are due as well
pub record IsAbsorbed (bits : ℕ) (old new : Row) : Type 0 where
  pub due : (field : ℕ) → field < MAX_FIELDS → has_bit new.due field ≡ (has_bit bits field || has_bit old.due field)
  pub turn : new.turn ≡ old.turn
  pub carriers : (field : ℕ) → field < MAX_FIELDS → carrier_at new field ≡ carrier_at old field

-- packet `seq` carries the fields of the mask
pub record IsCarried (seq mask : ℕ) (old new : Row) : Type 0 where
  pub due : (field : ℕ) → field < MAX_FIELDS → has_bit new.due field ≡ (not (has_bit mask field) && has_bit old.due field)
  pub turn : new.turn ≡ seq
  pub carriers : (field : ℕ) → field < MAX_FIELDS → carrier_at new field ≡ (if has_bit mask field then seq else carrier_at old field)

-- what packet `seq` was the last to carry is due again
pub record IsRaised (seq : ℕ) (old new : Row) : Type 0 where
  pub due : (field : ℕ) → field < MAX_FIELDS → has_bit new.due field ≡ ((carrier_at old field == seq) || has_bit old.due field)
  pub turn : new.turn ≡ old.turn
  pub carriers : (field : ℕ) → field < MAX_FIELDS → carrier_at new field ≡ carrier_at old field

-- the row says of the period what follows from the list
pub record IsRow (log : List GhostEvent) (n : ℕ) (r : Row) : Type 0 where
  pub due : (field : ℕ) → field < MAX_FIELDS → has_bit r.due field ≡ is_due log n field
  pub turn : r.turn ≡ last_turn log n
  pub carriers : (field : ℕ) → field < MAX_FIELDS → carrier_at r field ≡ last_carrier log n field

pub record HaveRows (log : List GhostEvent) (rows : List Row) : Type 0 where
  pub slots : length rows ≡ MAX_SLOTS
  pub each : (n s : ℕ) → slot log n ≡ Some s → IsRow log n (row_at rows s)

-- the rows when these items of packet `seq`, which is sent after the log, were written down
pub record IsNoted (log : List GhostEvent) (seq : ℕ) (items : List Choice) (n : ℕ) (r : Row) : Type 0 where
  pub due : (field : ℕ) → field < MAX_FIELDS → has_bit r.due field ≡ (not (carries n field items) && is_due log n field)
  pub turn : r.turn ≡ (if names n items then seq else last_turn log n)
  pub carriers : (field : ℕ) → field < MAX_FIELDS → carrier_at r field ≡ (if carries n field items then seq else last_carrier log n field)

-- the rows when the loss of these items of packet `seq` was written down
pub record IsLost (log : List GhostEvent) (seq : ℕ) (items : List Choice) (n : ℕ) (r : Row) : Type 0 where
  pub due : (field : ℕ) → field < MAX_FIELDS
      → has_bit r.due field ≡ ((names n items && (last_carrier log n field == seq)) || is_due log n field)
  pub turn : r.turn ≡ last_turn log n
  pub carriers : (field : ℕ) → field < MAX_FIELDS → carrier_at r field ≡ last_carrier log n field

abbrev pub HaveNoted : List GhostEvent → ℕ → List Choice → List Row → Type 0
HaveNoted log seq items rows = (length rows ≡ MAX_SLOTS) × ((n s : ℕ) → slot log n ≡ Some s → IsNoted log seq items n (row_at rows s))

abbrev pub HaveLost : List GhostEvent → ℕ → List Choice → List Row → Type 0
HaveLost log seq items rows = (length rows ≡ MAX_SLOTS) × ((n s : ℕ) → slot log n ≡ Some s → IsLost log seq items n (row_at rows s))
