-- The walk over reads with a table of the versions that were read last, 0 where nothing was: no read is below the table exactly
-- where no read is of an older version than one before it.
use Rattle.std.proofs.Common.{◌≡◌, ◌∙◌, ◌⊎◌, inl, inr, ℕ, zero, suc, ◌<◌, ◌≤◌, ◌*◌, List, [], ◌∷◌, ◌++◌, length, refl, sym, subst, arith, replicate}
use Rattle.std.specs.Prelude.{◌↔◌, slice_set, slice_index}
use Rattle.std.specs.List.{AllByRecursion}
use Rattle.std.proofs.lemmas.Bool.{cases_eq}
use Rattle.std.proofs.lemmas.List.{get_or-set_same, get_or-set_other, length-set, length-replicate}
use Rattle.tn_types.specs.declared.choices.Read.{Read}
use Rattle.dirty_lanes.specs.declared.limits.TheConstants.{MAX_LANE_FIELDS}
use Rattle.race_reads.specs.Reads.{IsSameField, IsNoOlder, NeverFalls}
use Rattle.race_reads.specs.Tables.{place_of, HasPlace, noted, RisesFrom}

-- ---- reads behind reads

pub rises_append : (objects last : List ℕ) (xs ys : List Read) → RisesFrom objects last (xs ++ ys) ↔ (RisesFrom objects last xs × RisesFrom objects (noted objects last xs) ys)
rises_append objects last [] ys = (λ a. (tt, a), λ b. b.1)
rises_append objects last (r ∷ xs) ys =
    let h = rises_append objects (slice_set last (place_of objects r) r.version) xs ys in
    (λ a. ((a.0, (h.0 a.1).0), (h.0 a.1).1), λ b. (b.0.0, h.1 (b.0.1, b.1)))

pub noted-long : (objects last : List ℕ) (reads : List Read) → length (noted objects last reads) ≡ length last
noted-long objects last [] = refl
noted-long objects last (r ∷ reads) = noted-long objects (slice_set last (place_of objects r) r.version) reads ∙ length-set last (place_of objects r) r.version

-- ---- what the table means

-- the read is not below the table
abbrev IsAbove : List ℕ → List ℕ → Read → Type 0
IsAbove objects last s = slice_index last (place_of objects s) ≤ s.version

-- the place tells the object and the field
same_place : (objects : List ℕ) (r s : Read) → r.field < MAX_LANE_FIELDS → s.field < MAX_LANE_FIELDS → place_of objects r ≡ place_of objects s → IsSameField objects r s
same_place objects r s l m e = (omega (arith, l, m, e), omega (arith, l, m, e))

at_set : (last : List ℕ) (i v : ℕ) → i < length last → slice_index (slice_set last i v) i ≡ v
at_set last i v l = get_or-set_same last i v 0 l

at_other : (last : List ℕ) (i j v : ℕ) → (i ≡ j → ⊥) → slice_index (slice_set last i v) j ≡ slice_index last j
at_other last i j v n = get_or-set_other last i j v 0 (λ e. n (sym e))

module _ (objects : List ℕ) (count : ℕ) (last : List ℕ) (r : Read) (own : HasPlace objects count r) (l : place_of objects r < length last) where
  abbrev after : List ℕ
  after = slice_set last (place_of objects r) r.version

  -- one more read: the reads behind it stay above the new table
  behind : (reads : List Read) → AllByRecursion (HasPlace objects count) reads → AllByRecursion (IsNoOlder objects r) reads → AllByRecursion (IsAbove objects last) reads → AllByRecursion (IsAbove objects after) reads
  behind [] fit a b = tt
  behind (s ∷ reads) fit a b = (this (cases_eq (place_of objects r) (place_of objects s)), behind reads fit.1 a.1 b.1)
    where
      this : (place_of objects r ≡ place_of objects s) ⊎ (place_of objects r ≡ place_of objects s → ⊥) → IsAbove objects after s
      this (inl e) = let w = at_set last (place_of objects r) r.version l in let v = a.0 (same_place objects r s own.field fit.0.field e) in rw (sym e, w) v
      this (inr n) = rw (at_other last (place_of objects r) (place_of objects s) r.version n) b.0

  no_older : (reads : List Read) → AllByRecursion (IsAbove objects after) reads → AllByRecursion (IsNoOlder objects r) reads
  no_older [] b = tt
  no_older (s ∷ reads) b = (
    λ same.
        let e : place_of objects r ≡ place_of objects s = rw (same.0, same.1) refl in
        let w = at_set last (place_of objects r) r.version l in
        let v : slice_index after (place_of objects s) ≤ s.version = b.0 in
        let u : slice_index after (place_of objects r) ≤ s.version = subst (λ (k : ℕ). slice_index after k ≤ s.version) (sym e) v in
        omega (arith, w, u),
    no_older reads b.1,
  )

  still_above : (reads : List Read) → slice_index last (place_of objects r) ≤ r.version → AllByRecursion (IsAbove objects after) reads → AllByRecursion (IsAbove objects last) reads
  still_above [] h b = tt
  still_above (s ∷ reads) h b = (this (cases_eq (place_of objects r) (place_of objects s)), still_above reads h b.1)
    where
      this : (place_of objects r ≡ place_of objects s) ⊎ (place_of objects r ≡ place_of objects s → ⊥) → IsAbove objects last s
      this (inl e) =
          let w = at_set last (place_of objects r) r.version l in
          let v : slice_index after (place_of objects s) ≤ s.version = b.0 in
          let u : slice_index after (place_of objects r) ≤ s.version = subst (λ (k : ℕ). slice_index after k ≤ s.version) (sym e) v in
          let t : slice_index last (place_of objects s) ≤ r.version = subst (λ (k : ℕ). slice_index last k ≤ r.version) e h in
          omega (arith, w, u, t)
      this (inr n) = let v : slice_index after (place_of objects s) ≤ s.version = b.0 in rw (sym (at_other last (place_of objects r) (place_of objects s) r.version n)) v

pub rises : (objects : List ℕ) (count : ℕ) (last : List ℕ) (reads : List Read) → length last ≡ MAX_LANE_FIELDS * count → AllByRecursion (HasPlace objects count) reads
    → (NeverFalls objects reads × AllByRecursion (IsAbove objects last) reads) ↔ RisesFrom objects last reads
rises objects count last [] long fit = (λ a. tt, λ b. (tt, tt))
rises objects count last (r ∷ reads) long fit =
    let own = fit.0 in
    let l : place_of objects r < length last = omega (arith, own.object, own.field, long) in
    let more = rises objects count (slice_set last (place_of objects r) r.version) reads (length-set last (place_of objects r) r.version ∙ long) fit.1 in (
      λ a. (a.1.0, more.0 (a.0.1, behind objects count last r own l reads fit.1 a.0.0 a.1.1)),
      λ b.
          let rest = more.1 b.1 in
          ((no_older objects count last r own l reads rest.1, rest.0), (b.0, still_above objects count last r own l reads b.0 rest.1)),
    )

get_zeros : (n k : ℕ) → slice_index (replicate n 0) k ≡ 0
get_zeros zero k = refl
get_zeros (suc n) zero = refl
get_zeros (suc n) (suc k) = get_zeros n k

nothing_below : (objects : List ℕ) (n : ℕ) (reads : List Read) → AllByRecursion (IsAbove objects (replicate n 0)) reads
nothing_below objects n [] = tt
nothing_below objects n (r ∷ reads) = (rw (get_zeros n (place_of objects r)) (omega arith), nothing_below objects n reads)

pub never_falls : (objects : List ℕ) (count : ℕ) (reads : List Read) → AllByRecursion (HasPlace objects count) reads
    → NeverFalls objects reads ↔ RisesFrom objects (replicate (MAX_LANE_FIELDS * count) 0) reads
never_falls objects count reads fit =
    let h = rises objects count (replicate (MAX_LANE_FIELDS * count) 0) reads (length-replicate (MAX_LANE_FIELDS * count) 0) fit in
    (λ w. h.0 (w, nothing_below objects (MAX_LANE_FIELDS * count) reads), λ b. (h.1 b).0)
