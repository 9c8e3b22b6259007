-- What happened to lanes, the newest first, and what follows from it. The version of a field is the number of writes to
-- it, and its value is the one written last. What a client is to hear of an object is each bit that was raised since
-- the last drain.
use Rattle.std.specs.Prelude.{ℕ, zero, suc, ◌≡◌, ◌<◌, Bool, false, not, ◌&&◌, ◌==◌, if◌then◌else◌, List, [], ◌∷◌, length, slice_index, bit_or, Option, Some, None, refl}
use Rattle.std.specs.List.{filter_map, take_while}
use Rattle.dirty_lanes.specs.declared.limits.TheConstants.{MAX_LANE_FIELDS}
use Rattle.dirty_lanes.specs.Words.{Words, version_at, value_at, mask_at}

pub data LaneEvent : Type 0 where
  Wrote : (object field value : ℕ) → LaneEvent
  Raised : (client object bits : ℕ) → LaneEvent
  Drained : (client object : ℕ) → LaneEvent
  Read : (client object field : ℕ) → LaneEvent

-- the value that this event wrote to the field, if it did
abbrev pub value_written : ℕ → ℕ → LaneEvent → Option ℕ
value_written object field (Wrote o f value) = if (o == object) && (f == field) then Some value else None
value_written object field (Raised c o bits) = None
value_written object field (Drained c o) = None
value_written object field (Read c o f) = None

-- the values that were written to the field, the newest first
abbrev pub values_written : List LaneEvent → ℕ → ℕ → List ℕ
values_written log object field = filter_map (value_written object field) log

-- how often the field was written
unfoldable pub version_of : List LaneEvent → ℕ → ℕ → ℕ
version_of log object field = length (values_written log object field)

-- the value written last, and 0 before the first
unfoldable pub last_value : List LaneEvent → ℕ → ℕ → ℕ
last_value log object field = slice_index (values_written log object field) 0

abbrev pub is_drain : ℕ → ℕ → LaneEvent → Bool
is_drain client object (Wrote o f value) = false
is_drain client object (Raised c o bits) = false
is_drain client object (Drained c o) = (c == client) && (o == object)
is_drain client object (Read c o f) = false

-- the bits that this event raised for the client and the object, if it did
abbrev pub bits_raised : ℕ → ℕ → LaneEvent → Option ℕ
bits_raised client object (Wrote o f value) = None
bits_raised client object (Raised c o bits) = if (c == client) && (o == object) then Some bits else None
bits_raised client object (Drained c o) = None
bits_raised client object (Read c o f) = None

-- what was raised for the client and the object since they were drained
abbrev pub raised_since_drain : List LaneEvent → ℕ → ℕ → List ℕ
raised_since_drain log client object = filter_map (bits_raised client object) (take_while (λ e. not (is_drain client object e)) log)

abbrev pub or_of : List ℕ → ℕ
or_of [] = 0
or_of (bits ∷ rest) = bit_or (or_of rest) bits

unfoldable pub mask_of : List LaneEvent → ℕ → ℕ → ℕ
mask_of log client object = or_of (raised_since_drain log client object)

-- these bits of the object were raised for each of the first `clients` clients
abbrev pub raised_for : ℕ → ℕ → ℕ → List LaneEvent
raised_for zero object bits = []
raised_for (suc client) object bits = Raised client object bits ∷ raised_for client object bits

pub record StandsFor (w : Words) (log : List LaneEvent) : Type 0 where
  pub versions : (object field : ℕ) → object < w.objects → field < MAX_LANE_FIELDS
      → version_at w object field ≡ version_of log object field
  pub values : (object field : ℕ) → object < w.objects → field < MAX_LANE_FIELDS
      → value_at w object field ≡ last_value log object field
  pub masks : (client object : ℕ) → client < w.clients → object < w.objects → mask_at w client object ≡ mask_of log client object

-- field 0 of object 3 was written twice and raised for client 1 each time; client 0 was told of it in between
told : List LaneEvent
told = Raised 1 3 1 ∷ Wrote 3 0 8 ∷ Read 0 3 0 ∷ Drained 0 3 ∷ Raised 0 3 1 ∷ Raised 1 3 4 ∷ Wrote 3 0 5 ∷ []

told_version : version_of told 3 0 ≡ 2
unfolding told version_of
told_version = refl

told_value : last_value told 3 0 ≡ 8
unfolding told last_value
told_value = refl

told_other_field : last_value told 3 1 ≡ 0
unfolding told last_value
told_other_field = refl

told_mask : mask_of told 1 3 ≡ 5
unfolding told mask_of
told_mask = refl

told_drained : mask_of told 0 3 ≡ 0
unfolding told mask_of
told_drained = refl

raised_for_two : raised_for 2 3 4 ≡ Raised 1 3 4 ∷ Raised 0 3 4 ∷ []
raised_for_two = refl
