-- The words of lanes and what they say. Word 0 is never used. Behind it each object has 32 words: one for each of 16
-- fields, which holds how often the field was written above the value written last, and one for each of 16 clients,
-- whose bits tell which fields this client is to hear of.
use Rattle.std.specs.Prelude.{ℕ, ◌≡◌, ◌≢◌, ◌⊎◌, ◌<◌, ◌≤◌, ◌+◌, ◌*◌, ◌/◌, ◌%◌, ◌^◌, List, length, replicate, slice_index, slice_set, bit_or, refl}
use Rattle.tn_types.specs.declared.limits.TheConstants.{MAX_CLIENTS, MAX_OBJECTS}
use Rattle.dirty_lanes.specs.declared.limits.TheConstants.{MAX_LANE_FIELDS}
use Rattle.dirty_lanes.specs.declared.words.TheConstants.{WORDS, VERSION}

abbrev pub field_word : ℕ → ℕ → ℕ
field_word object field = WORDS * object + field + 1

abbrev pub mask_word : ℕ → ℕ → ℕ
mask_word client object = WORDS * object + (MAX_LANE_FIELDS + client) + 1

abbrev pub packed : ℕ → ℕ → ℕ
packed version value = version * VERSION + value

-- what lanes show
pub record Words : Type 0 where
  pub objects : ℕ
  pub clients : ℕ
  pub words : List ℕ

unfoldable pub version_at : Words → ℕ → ℕ → ℕ
version_at w object field = slice_index w.words (field_word object field) / VERSION

unfoldable pub value_at : Words → ℕ → ℕ → ℕ
value_at w object field = slice_index w.words (field_word object field) % VERSION

unfoldable pub mask_at : Words → ℕ → ℕ → ℕ
mask_at w client object = slice_index w.words (mask_word client object)

-- nothing was written or raised
unfoldable pub new_words : ℕ → ℕ → Words
new_words objects clients = record { objects = objects; clients = clients; words = replicate (WORDS * objects + 1) 0 }

-- the same words but for one
abbrev pub with_word : Words → ℕ → ℕ → Words
with_word w place word = record w { words = slice_set w.words place word }

-- the words after a write, a raise and a drain
unfoldable pub after_write : Words → ℕ → ℕ → ℕ → Words
after_write w object field value = with_word w (field_word object field) (packed (version_at w object field + 1) value)

unfoldable pub after_raise : Words → ℕ → ℕ → ℕ → Words
after_raise w client object bits = with_word w (mask_word client object) (bit_or (mask_at w client object) bits)

unfoldable pub after_drain : Words → ℕ → ℕ → Words
after_drain w client object = with_word w (mask_word client object) 0

-- what stays between two states
pub record SizesStay (old new : Words) : Type 0 where
  pub objects : new.objects ≡ old.objects
  pub clients : new.clients ≡ old.clients

pub record FieldsStay (old new : Words) : Type 0 where
  pub versions : (object field : ℕ) → field < MAX_LANE_FIELDS → version_at new object field ≡ version_at old object field
  pub values : (object field : ℕ) → field < MAX_LANE_FIELDS → value_at new object field ≡ value_at old object field

pub record MasksStay (old new : Words) : Type 0 where
  pub masks : (client object : ℕ) → client < MAX_CLIENTS → mask_at new client object ≡ mask_at old client object

-- all fields but this one, and all masks but this one
pub record OtherFieldsStay (old new : Words) (object field : ℕ) : Type 0 where
  pub versions : (o f : ℕ) → f < MAX_LANE_FIELDS → (o ≢ object) ⊎ (f ≢ field) → version_at new o f ≡ version_at old o f
  pub values : (o f : ℕ) → f < MAX_LANE_FIELDS → (o ≢ object) ⊎ (f ≢ field) → value_at new o f ≡ value_at old o f

pub record OtherMasksStay (old new : Words) (client object : ℕ) : Type 0 where
  pub masks : (c o : ℕ) → c < MAX_CLIENTS → (c ≢ client) ⊎ (o ≢ object) → mask_at new c o ≡ mask_at old c o

-- what all lanes keep
pub record IsLaidOut (w : Words) : Type 0 where
  pub some_objects : 1 ≤ w.objects
  pub few_objects : w.objects ≤ MAX_OBJECTS
  pub some_clients : 1 ≤ w.clients
  pub few_clients : w.clients ≤ MAX_CLIENTS
  pub long : length w.words ≡ WORDS * w.objects + 1
  pub narrow : (client object : ℕ) → client < MAX_CLIENTS → mask_at w client object < 2 ^ MAX_LANE_FIELDS

-- two objects and two clients: field 15 of object 0 was written twice, and client 0 is to hear of it
field_of_second_object : field_word 1 0 ≡ 33
field_of_second_object = refl

mask_of_last_client : mask_word 15 1 ≡ 64
mask_of_last_client = refl

written : Words
written = after_raise (after_write (after_write (new_words 2 2) 0 15 9) 0 15 7) 0 0 32768

written_version : version_at written 0 15 ≡ 2
unfolding written new_words after_write after_raise version_at mask_at
written_version = refl

written_value : value_at written 0 15 ≡ 7
unfolding written new_words after_write after_raise version_at value_at mask_at
written_value = refl

written_mask : mask_at written 0 0 ≡ 32768
unfolding written new_words after_write after_raise version_at mask_at
written_mask = refl

drained_mask : mask_at (after_drain written 0 0) 0 0 ≡ 0
unfolding written new_words after_write after_raise after_drain version_at mask_at
drained_mask = refl
