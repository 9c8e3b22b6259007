-- The walk over reads that notes for each period and field the version that was read last.
use Rattle.std.proofs.Common.{◌≡◌, ◌∙◌, ◌⊎◌, inl, inr, ℕ, zero, suc, ◌<◌, ◌*◌, Bool, true, false, List, [], ◌∷◌, ◌++◌, length, refl, sym, ap, arith, replicate, Option, Some, None, eq-eqb}
use Rattle.std.specs.Prelude.{slice_set, slice_index_or, if◌then◌else◌}
use Rattle.std.specs.List.{AllByRecursion}
use Rattle.std.proofs.lemmas.Bool.{cases_eq, ne_eqb}
use Rattle.std.proofs.lemmas.List.{get_or-set_same, get_or-set_other, length-set, length-replicate}
use Rattle.tn_types.specs.declared.choices.Read.{Read}
use Rattle.dirty_lanes.specs.declared.limits.TheConstants.{MAX_LANE_FIELDS}
use Rattle.race_reads.specs.Reads.{last_read, or_earlier, is_read_of}
use Rattle.race_reads.specs.Tables.{place_in, IsNarrow, noted_periods, AreLast}

-- reads behind reads
pub noting_append : (last : List (Option ℕ)) (xs ys : List Read) → noted_periods last (xs ++ ys) ≡ noted_periods (noted_periods last xs) ys
noting_append last [] ys = refl
noting_append last (r ∷ xs) ys = noting_append (slice_set last (place_in r.n r.field) (Some r.version)) xs ys

-- ---- what the table means

-- what is still to be read, or what is noted
abbrev or_noted : Option ℕ → Option ℕ → Option ℕ
or_noted (Some v) noted = Some v
or_noted None noted = noted

earlier_noted : (x t : Option ℕ) (b : Bool) (v : ℕ) → or_noted x (if b then Some v else t) ≡ or_noted (or_earlier x b v) t
earlier_noted None t true v = refl
earlier_noted None t false v = refl
earlier_noted (Some w) t b v = refl

same_parts : (n field m f : ℕ) → field < MAX_LANE_FIELDS → f < MAX_LANE_FIELDS → place_in n field ≡ place_in m f → (n ≡ m) × (field ≡ f)
same_parts n field m f l k e = (omega (arith, l, k, e), omega (arith, l, k, e))

-- the table after a read is noted
after : (last : List (Option ℕ)) (r : Read) (n field : ℕ) → place_in n field < length last → r.field < MAX_LANE_FIELDS → field < MAX_LANE_FIELDS
    → slice_index_or (slice_set last (place_in r.n r.field) (Some r.version)) (place_in n field) None ≡ (if is_read_of n field r then Some r.version else slice_index_or last (place_in n field) None)
after last r n field l k f = by (cases_eq r.n n) (cases_eq r.field field)
  where
    away : (place_in n field ≡ place_in r.n r.field → ⊥) → slice_index_or (slice_set last (place_in r.n r.field) (Some r.version)) (place_in n field) None ≡ slice_index_or last (place_in n field) None
    away other = get_or-set_other last (place_in r.n r.field) (place_in n field) (Some r.version) None other

    by : (r.n ≡ n) ⊎ (r.n ≡ n → ⊥) → (r.field ≡ field) ⊎ (r.field ≡ field → ⊥) → slice_index_or (slice_set last (place_in r.n r.field) (Some r.version)) (place_in n field) None ≡ (if is_read_of n field r then Some r.version else slice_index_or last (place_in n field) None)
    by (inl e) (inl g) =
        let place : place_in n field ≡ place_in r.n r.field = rw (e, g) refl in
        let inside : place_in r.n r.field < length last = omega (arith, l, place) in
        let here = get_or-set_same last (place_in r.n r.field) (Some r.version) None inside in
        let en = eq-eqb r.n n e in
        let ef = eq-eqb r.field field g in
        rw (en, ef, place) here
    by (inl e) (inr g) =
        let en = eq-eqb r.n n e in
        let ef = ne_eqb r.field field g in
        rw (en, ef) (away (λ h. g (sym (same_parts n field r.n r.field f k h).1)))
    by (inr e) g = let en = ne_eqb r.n n e in rw en (away (λ h. e (sym (same_parts n field r.n r.field f k h).0)))

noted_at : (periods : ℕ) (last : List (Option ℕ)) (reads : List Read) → length last ≡ MAX_LANE_FIELDS * periods → AllByRecursion IsNarrow reads → (n field : ℕ) → n < periods → field < MAX_LANE_FIELDS
    → slice_index_or (noted_periods last reads) (place_in n field) None ≡ or_noted (last_read reads n field) (slice_index_or last (place_in n field) None)
noted_at periods last [] long narrow n field m f = refl
noted_at periods last (r ∷ reads) long narrow n field m f =
    let inside : place_in n field < length last = omega (arith, m, f, long) in
    noted_at periods (slice_set last (place_in r.n r.field) (Some r.version)) reads (length-set last (place_in r.n r.field) (Some r.version) ∙ long) narrow.1 n field m f
    ∙ ap (λ (t : Option ℕ). or_noted (last_read reads n field) t) (after last r n field inside narrow.0 f)
    ∙ earlier_noted (last_read reads n field) (slice_index_or last (place_in n field) None) (is_read_of n field r) r.version

pub noted_long : (last : List (Option ℕ)) (reads : List Read) → length (noted_periods last reads) ≡ length last
noted_long last [] = refl
noted_long last (r ∷ reads) = noted_long (slice_set last (place_in r.n r.field) (Some r.version)) reads ∙ length-set last (place_in r.n r.field) (Some r.version)

get_none : (n k : ℕ) → slice_index_or (let xs : List (Option ℕ) = replicate n None in xs) k None ≡ None
get_none zero k = refl
get_none (suc n) zero = refl
get_none (suc n) (suc k) = get_none n k

unnoted : (x : Option ℕ) → or_noted x None ≡ x
unnoted None = refl
unnoted (Some v) = refl

pub are_last : (periods : ℕ) (reads : List Read) → AllByRecursion IsNarrow reads → AreLast periods reads (noted_periods (replicate (MAX_LANE_FIELDS * periods) None) reads)
are_last periods reads narrow = record {
  long = noted_long (replicate (MAX_LANE_FIELDS * periods) None) reads ∙ length-replicate (MAX_LANE_FIELDS * periods) None;
  each = λ n field m f.
      noted_at periods (replicate (MAX_LANE_FIELDS * periods) None) reads (length-replicate (MAX_LANE_FIELDS * periods) None) narrow n field m f
      ∙ ap (λ (t : Option ℕ). or_noted (last_read reads n field) t) (get_none (MAX_LANE_FIELDS * periods) (place_in n field))
      ∙ unnoted (last_read reads n field);
}
