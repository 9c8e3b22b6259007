-- What a relay shows and writes is in the ranges of its fields: the copies are in range, and a level shows a value in the field's range.
use Rattle.std.proofs.Common.{◌≡◌, ◌∙◌, ℕ, zero, suc, ◌+◌, ◌<◌, ◌^◌, List, [], ◌∷◌, length, map, Option, Some, None, refl, sym, ap, subst, arith}
use Rattle.std.specs.Prelude.{ℤ, pos, negsuc, ◌≤ℤ◌, IsTrue, slice_get, option_map, option_and_then, unwrap_or}
use Rattle.std.specs.Int.{int_gap}
use Rattle.std.specs.List.{All, AllByRecursion, range_with_len}
use Rattle.std.proofs.lemmas.Int.{ints}
use Rattle.std.proofs.lemmas.List.Elements.{recursion_from_All, All-head, All-tail}
use Rattle.quantised_fields.specs.declared.kind.Kind.{Kind}
use Rattle.quantised_fields.specs.declared.field.FieldSpec.{FieldSpec}
use Rattle.quantised_fields.specs.Kinds.{table_fault, IsWithinLimits}
use Rattle.quantised_fields.specs.Levels.{is_sound, shown_of, shown_in, range_of, greatest_of}
use Rattle.quantised_fields.proofs.Limits.{within_limits}
use Rattle.quantised_fields.proofs.Nearest.{shown_fits}
use Rattle.quantised_fields.proofs.Specs.{sound, greatest_above, shown_low, shown_high}
use Rattle.wire_format.specs.Ghosts.{AreLevels, field_widths}
use Rattle.ghost_masks.specs.Plan.{fields_of, fields_in}
use Rattle.ghost_masks.specs.Carried.{AreValues}
use Rattle.ghost_client.specs.declared.copy.GhostCopy.{GhostCopy}
use Rattle.ghost_client.specs.State.{IsInRange}
use Rattle.relay_model.specs.Items.{shown_at, values_of}

-- ---- the value that a level shows

pub record IsIn (s : FieldSpec) (value : ℤ) : Type 0 where
  pub least : s.lo ≤ℤ value
  pub most : value ≤ℤ s.hi

ordered : (lo hi : ℤ) → 0 < int_gap lo hi → lo ≤ℤ hi
ordered (pos a) (pos b) h = omega (arith, ints)
ordered (pos a) (negsuc b) h = absurd (omega (arith, h))
ordered (negsuc a) (pos b) h = omega (arith, ints)
ordered (negsuc a) (negsuc b) h = omega (arith, ints)

shown_is_in : (s : FieldSpec) (level : ℕ) → IsTrue (is_sound s) → level < 2 ^ s.bits → IsIn s (shown_of s level)
shown_is_in s level whole lt = record {
  least = shown_low s.lo (shown_in level (range_of s) (greatest_of s));
  most = shown_high s.lo s.hi (shown_in level (range_of s) (greatest_of s)) (ordered s.lo s.hi (sound s whole).above)
      (shown_fits level (range_of s) (greatest_of s) (omega (arith, lt)) (greatest_above s whole));
}

-- ---- the fields of a kind of the table

abbrev AllSound : List FieldSpec → Type 0
AllSound fs = AllByRecursion (λ s. IsTrue (is_sound s)) fs

sound_in : (kinds : List Kind) → All IsWithinLimits kinds → (k : ℕ) → AllSound (fields_in (slice_get kinds k))
sound_in [] all k = tt
sound_in (x ∷ kinds) all zero = recursion_from_All (λ (f : FieldSpec). IsTrue (is_sound f)) x.fields (All-head IsWithinLimits x kinds all).sound
sound_in (x ∷ kinds) all (suc k) = sound_in kinds (All-tail IsWithinLimits x kinds all) k

-- a field of a kind, and its level
record HasLevel (fs : List FieldSpec) (ls : List ℕ) (f : ℕ) : Type 0 where
  pub spec : FieldSpec
  pub field : slice_get fs f ≡ Some spec
  pub level : ℕ
  pub here : slice_get ls f ≡ Some level
  pub fits : level < 2 ^ spec.bits
  pub whole : IsTrue (is_sound spec)

has_level : (fs : List FieldSpec) (ls : List ℕ) (f : ℕ) → AllSound fs → AreLevels (map (λ s. s.bits) fs) ls → f < length ls → HasLevel fs ls f
has_level [] [] f a h lt = absurd (omega (arith, lt))
has_level [] (l ∷ ls) f a h lt = absurd h
has_level (s ∷ fs) [] f a h lt = absurd h
has_level (s ∷ fs) (l ∷ ls) zero a h lt = record { spec = s; field = refl; level = l; here = refl; fits = h.0; whole = a.0 }
has_level (s ∷ fs) (l ∷ ls) (suc f) a h lt =
    let rest = has_level fs ls f a.1 h.1 (omega (arith, lt)) in
    record { spec = rest.spec; field = rest.field; level = rest.level; here = rest.here; fits = rest.fits; whole = rest.whole }

some_at : (kinds : List Kind) (k : ℕ) → k < length kinds → (kind : Kind) × (slice_get kinds k ≡ Some kind)
some_at [] k lt = absurd (omega (arith, lt))
some_at (x ∷ kinds) zero lt = (x, refl)
some_at (x ∷ kinds) (suc k) lt = some_at kinds k (omega (arith, lt))

-- ---- what a copy shows

module _ (kinds : List Kind) (table : table_fault kinds ≡ None) (copy : GhostCopy) (range : IsInRange kinds copy) where
  pub record ShowsField (f : ℕ) : Type 0 where
    pub spec : FieldSpec
    pub field : slice_get (fields_of kinds copy.kind) f ≡ Some spec
    pub value : IsIn spec (shown_at kinds copy f)

  kind_there : (kind : Kind) × (slice_get kinds copy.kind ≡ Some kind)
  kind_there = some_at kinds copy.kind range.kind

  fields_are : fields_of kinds copy.kind ≡ kind_there.0.fields
  fields_are = ap fields_in kind_there.1

  levels_are : AreLevels (map (λ s. s.bits) kind_there.0.fields) copy.levels
  levels_are = subst (λ o. AreLevels (field_widths o) copy.levels) kind_there.1 range.levels

  all_sound : AllSound kind_there.0.fields
  all_sound = subst (λ (fs : List FieldSpec). AllSound fs) fields_are (sound_in kinds (within_limits kinds table) copy.kind)

  level_there : (f : ℕ) → f < length copy.levels → HasLevel kind_there.0.fields copy.levels f
  level_there f lt = has_level kind_there.0.fields copy.levels f all_sound levels_are lt

  value_is : (f : ℕ) (o : HasLevel kind_there.0.fields copy.levels f) → shown_at kinds copy f ≡ shown_of o.spec o.level
  value_is f o =
      ap (λ v. unwrap_or v (pos 0))
      (ap (option_and_then (λ (kind : Kind). option_and_then (λ spec. option_map (shown_of spec) (slice_get copy.levels f)) (slice_get kind.fields f))) kind_there.1
      ∙ ap (option_and_then (λ spec. option_map (shown_of spec) (slice_get copy.levels f))) o.field
      ∙ ap (option_map (shown_of o.spec)) o.here)

  pub shows_field : (f : ℕ) → f < length copy.levels → ShowsField f
  shows_field f lt =
      let o = level_there f lt in
      record {
        spec = o.spec;
        field = ap (λ (fs : List FieldSpec). slice_get fs f) fields_are ∙ o.field;
        value = subst (IsIn o.spec) (sym (value_is f o)) (shown_is_in o.spec o.level o.whole o.fits);
      }

  -- so the values of all fields are in the ranges
  values_from : (fs : List FieldSpec) (ls : List ℕ) (g : ℕ → ℤ) (i : ℕ) → AreLevels (map (λ s. s.bits) fs) ls
      → ((f : ℕ) (s : FieldSpec) → slice_get fs f ≡ Some s → f < length ls → IsIn s (g (i + f))) → AreValues fs (map g (range_with_len i (length ls)))
  values_from [] [] g i h each = tt
  values_from [] (l ∷ ls) g i h each = absurd h
  values_from (s ∷ fs) [] g i h each = absurd h
  values_from (s ∷ fs) (l ∷ ls) g i h each =
      let first = subst (λ k. IsIn s (g k)) (add_none i) (each 0 s refl (omega arith)) in (
        first.least,
        first.most,
        values_from fs ls g (i + 1) h.1 (λ f r e lt. subst (λ k. IsIn r (g k)) (add_one i f) (each (suc f) r e (omega (arith, lt)))),
      )
    where
      add_none : (k : ℕ) → k + 0 ≡ k
      add_none k = omega arith

      add_one : (k f : ℕ) → k + suc f ≡ k + 1 + f
      add_one k f = omega arith

  pub shows_values : AreValues (fields_of kinds copy.kind) (values_of kinds copy)
  shows_values =
      subst (λ (fs : List FieldSpec). AreValues fs (values_of kinds copy)) (sym fields_are)
      (values_from kind_there.0.fields copy.levels (shown_at kinds copy) 0 levels_are (λ f s e lt.
      let o = level_there f lt in
      let none : f ≡ 0 + f = omega arith in
      subst (λ k. IsIn s (shown_at kinds copy k)) none
      (subst (λ (r : FieldSpec). IsIn r (shown_at kinds copy f)) (same o.spec s (sym o.field ∙ e))
      (subst (IsIn o.spec) (sym (value_is f o)) (shown_is_in o.spec o.level o.whole o.fits)))))
    where
      same : (r s : FieldSpec) → ◌≡◌ {A = Option FieldSpec} (Some r) (Some s) → r ≡ s
      same r s e = cc (e)
