-- What a seat knows: the list of its own steps, the newest first. The simulation's list has its writes and raises, a
-- packer's its drains and reads. All that the lane rule says of fields and bits is a short look back over these two lists.
use Rattle.std.specs.Prelude.{ℕ, ◌+◌, ◌≡◌, ◌≤◌, Bool, true, false, not, ◌&&◌, ◌||◌, ◌==◌, if◌then◌else◌, List, [], ◌∷◌, ◌++◌, refl}
use Rattle.tn_types.specs.BitWords.{has_bit}
use Rattle.dirty_lanes.specs.declared.view.DrainedBits.{DrainedBits}
use Rattle.dirty_lanes.specs.declared.view.ReadField.{ReadField}
use Rattle.dirty_lanes.specs.declared.view.SimStep.{SimStep}
use Rattle.dirty_lanes.specs.declared.view.SimStep.TheVariants.{Write, Raise}
use Rattle.dirty_lanes.specs.declared.view.PackStep.{PackStep}
use Rattle.dirty_lanes.specs.declared.view.PackStep.TheVariants.{Drain, Read}
use Rattle.dirty_lanes.specs.declared.view.SimView.{SimView}
use Rattle.dirty_lanes.specs.declared.view.PackView.{PackView}

-- the four steps
abbrev pub a_write : ℕ → ℕ → ℕ → SimStep
a_write object field value = Write (record { object = object; field = field; value = value })

abbrev pub a_raise : ℕ → ℕ → ℕ → SimStep
a_raise client object bits = Raise (record { client = client; object = object; bits = bits })

abbrev pub a_drain : ℕ → ℕ → PackStep
a_drain object bits = Drain (record { object = object; bits = bits })

abbrev pub a_read : ℕ → ℕ → ℕ → ℕ → PackStep
a_read object field version value = Read (record { object = object; field = field; version = version; value = value })

-- a view with one step more, and all else as it was
abbrev pub sim_with : SimView → SimStep → SimView
sim_with view step = record view { steps = step ∷ view.steps }

abbrev pub pack_with : PackView → PackStep → PackView
pack_with view step = record view { steps = step ∷ view.steps }

abbrev pub is_at : ℕ → ℕ → ℕ → ℕ → Bool
is_at a b object field = (a == object) && (b == field)

-- how often the field was written: the version of its newest value
abbrev pub newest : List SimStep → ℕ → ℕ → ℕ
newest [] object field = 0
newest (Write w ∷ l) object field = if is_at w.object w.field object field then newest l object field + 1 else newest l object field
newest (Raise r ∷ l) object field = newest l object field

-- the value written last, and 0 before the first
abbrev pub newest_value : List SimStep → ℕ → ℕ → ℕ
newest_value [] object field = 0
newest_value (Write w ∷ l) object field = if is_at w.object w.field object field then w.value else newest_value l object field
newest_value (Raise r ∷ l) object field = newest_value l object field

-- the values of the field by version; the first is the opening entry
abbrev pub values : List SimStep → ℕ → ℕ → List ℕ
values [] object field = 0 ∷ []
values (Write w ∷ l) object field =
    if is_at w.object w.field object field then values l object field ++ w.value ∷ [] else values l object field
values (Raise r ∷ l) object field = values l object field

-- the field was written, and its bit not raised for this client since
abbrev pub pending : List SimStep → ℕ → ℕ → ℕ → Bool
pending [] client object field = false
pending (Write w ∷ l) client object field = is_at w.object w.field object field || pending l client object field
pending (Raise r ∷ l) client object field =
    pending l client object field && not (is_at r.client r.object client object && has_bit r.bits field)

-- the bits that were raised for the client and the object, raise by raise, the newest first
abbrev pub raises_of : List SimStep → ℕ → ℕ → List ℕ
raises_of [] client object = []
raises_of (Write w ∷ l) client object = raises_of l client object
raises_of (Raise r ∷ l) client object =
    if is_at r.client r.object client object then r.bits ∷ raises_of l client object else raises_of l client object

-- the version that was read last, and 0 before the first read
abbrev pub last_read : List PackStep → ℕ → ℕ → ℕ
last_read [] object field = 0
last_read (Drain d ∷ l) object field = last_read l object field
last_read (Read r ∷ l) object field = if is_at r.object r.field object field then r.version else last_read l object field

-- the field's bit was drained, and the field not read since
abbrev pub owes : List PackStep → ℕ → ℕ → Bool
owes [] object field = false
owes (Drain d ∷ l) object field = ((d.object == object) && has_bit d.bits field) || owes l object field
owes (Read r ∷ l) object field = owes l object field && not (is_at r.object r.field object field)

-- the bits that were drained of the object, drain by drain, the newest first
abbrev pub drains_of : List PackStep → ℕ → List ℕ
drains_of [] object = []
drains_of (Drain d ∷ l) object = if d.object == object then d.bits ∷ drains_of l object else drains_of l object
drains_of (Read r ∷ l) object = drains_of l object

-- the versions read of a field never go down
abbrev pub VersionsRise : List PackStep → Type 0
VersionsRise [] = Unit {0}
VersionsRise (Drain d ∷ l) = VersionsRise l
VersionsRise (Read r ∷ l) = (last_read l r.object r.field ≤ r.version) × VersionsRise l

-- the packer's list of drains and its list of reads, the oldest first
abbrev pub drains : List PackStep → List DrainedBits
drains [] = []
drains (Drain d ∷ l) = drains l ++ d ∷ []
drains (Read r ∷ l) = drains l

abbrev pub reads : List PackStep → List ReadField
reads [] = []
reads (Drain d ∷ l) = reads l
reads (Read r ∷ l) = reads l ++ r ∷ []

-- field 0 of object 3 was written twice, and client 1 was told of both writes
simulated : List SimStep
simulated = a_raise 1 3 1 ∷ a_write 3 0 8 ∷ a_raise 0 3 1 ∷ a_raise 1 3 1 ∷ a_write 3 0 5 ∷ []

second_version : newest simulated 3 0 ≡ 2
unfolding simulated
second_version = refl

values_by_version : values simulated 3 0 ≡ 0 ∷ 5 ∷ 8 ∷ []
unfolding simulated
values_by_version = refl

told_second_client : pending simulated 1 3 0 ≡ false
unfolding simulated
told_second_client = refl

-- a packer drained the bit, and owes the field until it reads it
drained_only : owes (a_drain 3 1 ∷ []) 3 0 ≡ true
drained_only = refl

drained_and_read : owes (a_read 3 0 2 8 ∷ a_drain 3 1 ∷ []) 3 0 ≡ false
drained_and_read = refl
