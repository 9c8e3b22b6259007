-- What the first comparison tells the next ones: where each read has the value at its version, it has a place in the tables.
use Rattle.std.proofs.Common.{◌≡◌, ℕ, zero, suc, ◌-◌, ◌<◌, ◌≤◌, Bool, true, List, [], ◌∷◌, length, arith, Some}
use Rattle.std.specs.Prelude.{ℤ, slice_get}
use Rattle.std.specs.Option.{unwrap_or}
use Rattle.std.specs.List.{AllByRecursion}
use Rattle.dirty_lanes.specs.declared.limits.TheConstants.{MAX_LANE_FIELDS}
use Rattle.tn_types.specs.declared.choices.Read.{Read}
use Rattle.race_history.specs.Deciding.{Decides}
use Rattle.race_history.specs.History.{Values, fields_told}
use Rattle.race_reads.specs.Reads.{object_of, ReadStands}
use Rattle.race_reads.specs.Tables.{HasPlace, IsNarrow}
use Rattle.race_reads.proofs.Deciding.{holds}

pub in_fields : (fields : List (List ℤ)) (f v : ℕ) (x : ℤ) → slice_get (unwrap_or (slice_get fields f) []) v ≡ Some x → f < length fields
in_fields [] f v x e = absurd (cc)
in_fields (y ∷ ys) zero v x e = omega arith
in_fields (y ∷ ys) (suc f) v x e = let h = in_fields ys f v x e in omega (arith, h)

in_objects : (values : Values) (o f v : ℕ) (x : ℤ) → slice_get (unwrap_or (slice_get (unwrap_or (slice_get values o) []) f) []) v ≡ Some x → o < length values
in_objects [] o f v x e = absurd (cc)
in_objects (y ∷ ys) zero f v x e = omega arith
in_objects (y ∷ ys) (suc o) f v x e = let h = in_objects ys o f v x e in omega (arith, h)

-- a field that is told is of an object that is told
pub told_object : (values : Values) (o f : ℕ) → f < length (fields_told values o) → o < length values
told_object [] o f l = absurd (omega (arith, l))
told_object (y ∷ ys) zero f l = omega arith
told_object (y ∷ ys) (suc o) f l = let h = told_object ys o f l in omega (arith, h)

module _ (values : Values) (objects : List ℕ) (few : (object : ℕ) → length (fields_told values object) ≤ MAX_LANE_FIELDS) where
  place : (r : Read) → ReadStands values objects r → HasPlace objects (length values) r
  place r h =
      let f = in_fields (fields_told values (object_of objects r.n)) r.field (r.version - 1) r.value h.value in
      let o = in_objects values (object_of objects r.n) r.field (r.version - 1) r.value h.value in
      let m = few (object_of objects r.n) in
      record { shown = h.shown; object = o; field = omega (arith, f, m) }

  places : (reads : List Read) → AllByRecursion (ReadStands values objects) reads → AllByRecursion (HasPlace objects (length values)) reads
  places [] h = tt
  places (r ∷ reads) h = (place r h.0, places reads h.1)

  narrow : (reads : List Read) → AllByRecursion (ReadStands values objects) reads → AllByRecursion IsNarrow reads
  narrow [] h = tt
  narrow (r ∷ reads) h = ((place r h.0).field, narrow reads h.1)

pub told_places : (b : Bool) (values : Values) (objects : List ℕ) (reads : List Read) → ((object : ℕ) → length (fields_told values object) ≤ MAX_LANE_FIELDS)
    → Decides b (AllByRecursion (ReadStands values objects) reads) → b ≡ true → AllByRecursion (HasPlace objects (length values)) reads
told_places b values objects reads few d e = places values objects few reads (holds b (AllByRecursion (ReadStands values objects) reads) d e)

pub told_narrow : (b : Bool) (values : Values) (objects : List ℕ) (reads : List Read) → ((object : ℕ) → length (fields_told values object) ≤ MAX_LANE_FIELDS)
    → Decides b (AllByRecursion (ReadStands values objects) reads) → b ≡ true → AllByRecursion IsNarrow reads
told_narrow b values objects reads few d e = narrow values objects few reads (holds b (AllByRecursion (ReadStands values objects) reads) d e)
