-- What a packer's view says of periods. A read is one that the view has, of the object of its period; a value above the greatest
-- of the field counts as that greatest. What a pack reads are new entries of the view. A field that the view owes is owed for the shown
-- period of its object.
use Rattle.std.specs.Prelude.{◌≡◌, refl, ℕ, ℤ, pos, ◌<◌, ◌%◌, ◌^◌, ◌+ℤ◌, min, nat_lt, Bool, false, ◌&&◌, ◌||◌, ◌==◌, true, if◌then◌else◌, List, [], ◌∷◌, length, map, slice_index, Option, None, option_map, Some}
use Rattle.std.specs.List.{AllByRecursion, AllZip}
use Rattle.tn_types.specs.BitWords.{has_bit}
use Rattle.tn_types.specs.declared.choices.Drain.{Drain}
use Rattle.tn_types.specs.declared.choices.Read.{Read}
use Rattle.quantised_fields.specs.declared.field.FieldSpec.{FieldSpec}
use Rattle.quantised_fields.specs.declared.kind.Kind.{Kind}
use Rattle.quantised_fields.specs.Levels.{range_of}
use Rattle.dirty_lanes.specs.declared.view.DrainedBits.{DrainedBits}
use Rattle.dirty_lanes.specs.declared.view.ReadField.{ReadField}
use Rattle.dirty_lanes.specs.declared.view.PackStep.{PackStep}
use Rattle.dirty_lanes.specs.declared.view.PackStep.TheVariants as step
use Rattle.dirty_lanes.specs.Views.{owes, a_drain, a_read}
use Rattle.lane_periods.specs.Periods.{PeriodList, has, spec_at, field_count}

-- ---- values

-- what a word of the lanes says of the field: words count from the least value
abbrev pub value_in : FieldSpec → ℕ → ℤ
value_in spec word = spec.lo +ℤ pos (min word (range_of spec))

-- the fields that may be asked for: those of periods that are shown and not hidden, whose objects the lanes have
abbrev pub ranges : ℕ → PeriodList → ℕ → ℕ → Option (ℤ × ℤ)
ranges objects p n field =
    if has n p.up && nat_lt (slice_index p.objects n) objects
    then option_map (λ (spec : FieldSpec). (spec.lo, spec.hi)) (spec_at p.table p.kinds n field) else None

-- ---- reads

-- the view's read is this one
pub record IsTheRead (objects kinds : List ℕ) (table : List Kind) (x : ReadField) (r : Read) : Type 0 where
  pub spec : FieldSpec
  pub shown : r.n < length objects
  pub object : x.object ≡ slice_index objects r.n
  pub field : x.field ≡ r.field
  pub version : x.version ≡ r.version
  pub own : spec_at table kinds r.n r.field ≡ Some spec
  pub value : r.value ≡ value_in spec x.value

-- the view after these fields were read, in this order
abbrev pub read_onto : List ReadField → List PackStep → List PackStep
read_onto [] view = view
read_onto (x ∷ xs) view = read_onto xs (step.Read x ∷ view)

-- exactly these reads were made, of periods that are up: each is a new entry of the view, in this order
pub record ReadsOnto (p : PeriodList) (old : List PackStep) (reads : List Read) (new : List PackStep) : Type 0 where
  pub added : List ReadField
  pub each : AllZip (IsTheRead p.objects p.kinds p.table) added reads
  pub up : AllByRecursion (λ (r : Read). has r.n p.up ≡ true) reads
  pub onto : new ≡ read_onto added old

-- one of the reads is of this field of this period
abbrev pub is_read : List Read → ℕ → ℕ → Bool
is_read [] n field = false
is_read (r ∷ reads) n field = ((r.n == n) && (r.field == field)) || is_read reads n field

-- ---- drains

-- the view owes the field, for the shown period of its object
abbrev pub owes_of : List ℕ → List ℕ → List PackStep → ℕ → ℕ → Bool
owes_of objects up view n field = has n up && owes view (slice_index objects n) field

-- one of the drains has the bit
abbrev pub is_drained : List Drain → ℕ → ℕ → Bool
is_drained [] n field = false
is_drained (d ∷ ds) n field = ((d.n == n) && has_bit d.bits field) || is_drained ds n field

-- the view after these words were taken, each of the object of its period, in this order
abbrev pub drained_onto : List ℕ → List Drain → List PackStep → List PackStep
drained_onto objects [] view = view
drained_onto objects (d ∷ ds) view = drained_onto objects ds (a_drain (slice_index objects d.n) d.bits ∷ view)

-- the entries of the view's list of drains for these words
abbrev pub entries : List ℕ → List Drain → List DrainedBits
entries objects ds = map (λ (d : Drain). record { object = slice_index objects d.n; bits = d.bits }) ds

-- a word without the bits that are no fields of the period
abbrev pub own_bits : List Kind → List ℕ → Drain → Drain
own_bits table kinds d = record { n = d.n; bits = d.bits % 2 ^ field_count table kinds d.n }

-- the mask word of the object of each period that is up was taken, by rising period, and these are the fields in them
pub record Drains (p : PeriodList) (old new : List PackStep) (drains : List Drain) : Type 0 where
  pub words : List Drain
  pub each : map (λ (d : Drain). d.n) words ≡ p.up
  pub taken : new ≡ drained_onto p.objects words old
  pub own : drains ≡ map (own_bits p.table p.kinds) words

-- ---- examples: an object of one field from 10 to 20

abbrev ten : FieldSpec
ten = record { lo = pos 10; hi = pos 20; bits = 4 }

fourth : value_in ten 4 ≡ pos 14
fourth = refl

counts_as_greatest : value_in ten 99 ≡ pos 20
counts_as_greatest = refl

-- what is read last is the newest entry
newest_in_front :
    read_onto (record { object = 3; field = 0; version = 2; value = 8 } ∷ record { object = 3; field = 1; version = 1; value = 5 } ∷ []) []
    ≡ a_read 3 1 1 5 ∷ a_read 3 0 2 8 ∷ []
newest_in_front = refl
