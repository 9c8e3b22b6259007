-- What is kept of what was told, and the value at a moment by the list of all that was told.
use Rattle.std.specs.Prelude.{ℕ, ℤ, ◌+◌, ◌-◌, ◌*◌, ◌<◌, ◌≤◌, ◌==◌, ◌||◌, nat_le, nat_lt, ◌≡◌, List, [], ◌∷◌, ◌++◌, length, take, replicate, slice_get, Bool, false, if◌then◌else◌, Option, Some, None, Result, Ok, Err, unwrap_or}
use Rattle.std.specs.Option.{option_and_then}
use Rattle.tn_types.specs.declared.limits.TheConstants.{MAX_LIFE, MAX_FIELDS}
use Rattle.tn_types.specs.Checks.{Checked}
use Rattle.timeline.specs.declared.between.Keyframe.{Keyframe}
use Rattle.timeline.specs.declared.between.Interpolation.{Interpolation}
use Rattle.timeline.specs.declared.between.Interpolation.TheVariants.{Stepped}
use Rattle.timeline.specs.declared.refusal.Refusal.{Refusal}
use Rattle.timeline.specs.declared.refusal.Refusal.TheVariants.{NoSlot, NoField, NoKind, NoPacket, GoesBack}
use Rattle.timeline.specs.Lines.{moment_of}
use Rattle.timeline.specs.Keeping.{Kept, kept_of, value_in}
use Rattle.timeline.specs.Telling.{Told, latest_of, told_of, kind_of, end_of, frames_of}

-- ---- what is kept

pub record SlotKept : Type 0 where
  pub kind : Option ℕ
  pub end : Option ℕ
  pub fields : List Kept

abbrev pub emptied : Kept → Kept
emptied k = record k { frames = [] }

-- with a further keyframe, without the oldest one if there is no room for it
abbrev pub with_frame : Keyframe → Kept → Kept
with_frame frame k = record k { frames = frame ∷ take (k.room - 1) k.frames }

-- no copy yet
abbrev pub no_frames : ℕ → Kept
no_frames room = kept_of room []

abbrev pub fresh : ℕ → ℕ → SlotKept
fresh fields room = record { kind = None; end = None; fields = replicate fields (no_frames room) }

-- what contracts see of a timeline: how the fields of each kind go, how many fields there are and how many keyframes are kept of each, the
-- packet that told last, and the slots
pub record Drawing : Type 0 where
  pub ways : List Interpolation
  pub fields : ℕ
  pub depth : ℕ
  pub latest : ℕ
  pub slots : List SlotKept

-- each slot has as many fields as the timeline
pub record IsWhole (fields depth : ℕ) (slots : List SlotKept) : Type 0 where
  pub few : fields ≤ MAX_FIELDS
  pub some : 0 < depth
  pub each : (slot : ℕ) (s : SlotKept) → slice_get slots slot ≡ Some s → length s.fields ≡ fields

-- of each field the newest `depth` keyframes are kept
pub record SlotStandsFor (depth fields : ℕ) (s : SlotKept) (log : List Told) : Type 0 where
  pub kind_is : s.kind ≡ kind_of log
  pub end_is : s.end ≡ end_of log
  pub count_is : length s.fields ≡ fields
  pub frames_are : (field : ℕ) → field < fields → slice_get s.fields field ≡ Some (kept_of depth (take depth (frames_of field log)))

pub record StandsFor (t : Drawing) (log : List Told) : Type 0 where
  pub latest_is : t.latest ≡ latest_of log
  pub slots_are : (slot : ℕ) (s : SlotKept) → slice_get t.slots slot ≡ Some s → SlotStandsFor t.depth t.fields s (told_of slot log)

-- what telling leaves as it was
pub record KeepsShape (old new : Drawing) : Type 0 where
  pub ways : new.ways ≡ old.ways
  pub fields : new.fields ≡ old.fields
  pub depth : new.depth ≡ old.depth
  pub slots : length new.slots ≡ length old.slots

-- for every list that the old timeline stood for, the new one stands for it with all of this told, the newest first
abbrev pub Hears : Drawing → List Told → Drawing → Type 0
Hears old told new = (log : List Told) → StandsFor old log → StandsFor new (told ++ log)

-- ---- the value at a moment

-- how a field of a kind goes; one that the table does not have stays
abbrev pub way_of : List Interpolation → ℕ → ℕ → ℕ → Interpolation
way_of ways fields kind field = unwrap_or (slice_get ways (kind * fields + field)) Stepped

-- the kind of the copy that is drawn at a moment: none from its end on
abbrev pub has_ended : ℕ → Option ℕ → Bool
has_ended at None = false
has_ended at (Some packet) = nat_le (moment_of packet) at

abbrev pub kind_shown : ℕ → Option ℕ → Option ℕ → Option ℕ
kind_shown at kind ended = if has_ended at ended then None else kind

abbrev pub kind_told : ℕ → List Told → Option ℕ
kind_told at log = kind_shown at (kind_of log) (end_of log)

-- the value of a field of a slot's copy, by the newest `depth` of its keyframes
abbrev pub value_told : Drawing → ℕ → ℕ → List Told → Option ℤ
value_told t field at log =
    option_and_then (λ kind. value_in (way_of t.ways t.fields kind field) at (take t.depth (frames_of field log))) (kind_told at log)

-- ---- what is refused

abbrev pub slot_check : Drawing → ℕ → Checked Refusal
slot_check t slot = if nat_le (length t.slots) slot then Err NoSlot else Ok tt

abbrev pub field_check : Drawing → ℕ → Checked Refusal
field_check t field = if nat_le t.fields field then Err NoField else Ok tt

abbrev pub packet_check : Drawing → ℕ → Checked Refusal
packet_check t packet =
    if packet == 0 || nat_lt MAX_LIFE packet then Err NoPacket
    else if nat_lt packet t.latest then Err GoesBack
    else Ok tt

abbrev pub kind_check : Drawing → ℕ → Checked Refusal
kind_check t kind = if nat_le (length t.ways) (kind * t.fields) then Err NoKind else Ok tt

abbrev pub then_ok : {R E : Type 0} → Checked E → R → Result R E
then_ok (Ok u) r = Ok r
then_ok (Err e) r = Err e
