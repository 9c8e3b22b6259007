-- What a field of a copy shows, and that what is shown of a value is shown for itself again.
use Rattle.std.proofs.Common.{◌≡◌, ◌∙◌, ℕ, zero, suc, Bool, List, [], ◌∷◌, map, Option, Some, None, refl, sym, ap, subst}
use Rattle.std.specs.Prelude.{ℤ, pos, ◌+ℤ◌, IsTrue, slice_get, option_map, option_and_then}
use Rattle.std.specs.Int.{int_gap}
use Rattle.std.specs.List.{All, AllByRecursion}
use Rattle.std.proofs.lemmas.List.Elements.{recursion_from_All, All-head, All-tail}
use Rattle.quantised_fields.specs.declared.kind.Kind.{Kind}
use Rattle.quantised_fields.specs.declared.field.FieldSpec.{FieldSpec}
use Rattle.quantised_fields.specs.Kinds.{table_fault, IsWithinLimits}
use Rattle.quantised_fields.specs.Levels.{is_sound, level_in, level_of, shown_of, range_of, greatest_of}
use Rattle.quantised_fields.proofs.Gaps.{gap_of_sum}
use Rattle.quantised_fields.proofs.Limits.{within_limits}
use Rattle.quantised_fields.proofs.Specs.{level_again, shown_low}
use Rattle.wire_format.specs.Ghosts.{AreLevels, field_widths}
use Rattle.ghost_masks.specs.Plan.{fields_of, fields_in}
use Rattle.ghost_client.specs.declared.copy.GhostCopy.{GhostCopy}
use Rattle.ghost_client.specs.State.{IsInRange, field_value}
use Rattle.match_report.specs.declared.copies.FieldTold.{FieldTold}
use Rattle.match_laws.proofs.FieldsTold.{IsFieldOf}

-- ---- what is shown of a value has the value's level

pub again : (spec : FieldSpec) (v : ℤ) → IsTrue (is_sound spec) → level_of spec (shown_of spec (level_of spec v)) ≡ level_of spec v
again spec v sound =
    level_again spec (spec.lo +ℤ pos (int_gap spec.lo v)) (level_of spec v) sound (shown_low spec.lo (int_gap spec.lo v))
    (ap (λ (d : ℕ). level_in d (range_of spec) (greatest_of spec)) (sym (gap_of_sum spec.lo (int_gap spec.lo v))))

abbrev AllSound : List FieldSpec → Type 0
AllSound fs = AllByRecursion (λ (s : FieldSpec). IsTrue (is_sound s)) fs

all_sound : (kinds : List Kind) → All IsWithinLimits kinds → (k : ℕ) → AllSound (fields_in (slice_get kinds k))
all_sound [] all k = tt
all_sound (x ∷ kinds) all zero = recursion_from_All (λ (f : FieldSpec). IsTrue (is_sound f)) x.fields (All-head IsWithinLimits x kinds all).sound
all_sound (x ∷ kinds) all (suc k) = all_sound kinds (All-tail IsWithinLimits x kinds all) k

one_sound : (fs : List FieldSpec) → AllSound fs → (f : ℕ) (spec : FieldSpec) → slice_get fs f ≡ Some spec → IsTrue (is_sound spec)
one_sound [] all f spec e = absurd (cc)
one_sound (x ∷ fs) all zero spec e = subst (λ (s : FieldSpec). IsTrue (is_sound s)) (same x spec e) all.0
  where
    same : (a b : FieldSpec) → ◌≡◌ {A = Option FieldSpec} (Some a) (Some b) → a ≡ b
    same a b e = cc (e)
one_sound (x ∷ fs) all (suc f) spec e = one_sound fs all.1 f spec e

pub is_sound_field : (kinds : List Kind) → table_fault kinds ≡ None → (kind f : ℕ) (spec : FieldSpec) → slice_get (fields_of kinds kind) f ≡ Some spec
    → IsTrue (is_sound spec)
is_sound_field kinds table kind f spec e = one_sound (fields_of kinds kind) (all_sound kinds (within_limits kinds table) kind) f spec e

-- ---- what a told value is made of

module _ (kinds : List Kind) (f : ℕ) (copy : GhostCopy) (value : ℤ) where
  by_level : (spec : FieldSpec) → slice_get (fields_of kinds copy.kind) f ≡ Some spec → (o : Option ℕ) → slice_get copy.levels f ≡ o
      → option_map (shown_of spec) o ≡ Some value → IsFieldOf kinds f copy value
  by_level spec field None at e = absurd (cc)
  by_level spec field (Some level) at e = record { spec = spec; field = field; level = level; at = at; shows = cc }

  by_spec : (fs : List FieldSpec) → fields_of kinds copy.kind ≡ fs → (o : Option FieldSpec) → slice_get fs f ≡ o
      → option_and_then (λ spec. option_map (shown_of spec) (slice_get copy.levels f)) o ≡ Some value → IsFieldOf kinds f copy value
  by_spec fs is None at e = absurd (cc)
  by_spec fs is (Some spec) at e = by_level spec (ap (λ (l : List FieldSpec). slice_get l f) is ∙ at) (slice_get copy.levels f) refl e

  by_kind : (o : Option Kind) → slice_get kinds copy.kind ≡ o
      → option_and_then (λ (kind : Kind). option_and_then (λ spec. option_map (shown_of spec) (slice_get copy.levels f))
      (slice_get kind.fields f)) o ≡ Some value
      → IsFieldOf kinds f copy value
  by_kind None is e = absurd (cc)
  by_kind (Some kind) is e = by_spec kind.fields (ap fields_in is) (slice_get kind.fields f) refl e

  pub field_of : field_value kinds f copy ≡ Some value → IsFieldOf kinds f copy value
  field_of e = by_kind (slice_get kinds copy.kind) refl e

abbrev pub a_told : Bool → ℤ → FieldTold
a_told settled value = record { value = value; settled = settled }

pub told_value : (o : Option ℤ) (settled : Bool) (told : FieldTold) → option_map (a_told settled) o ≡ Some told → o ≡ Some told.value
told_value None settled told e = absurd (cc)
told_value (Some v) settled told e =
    let same : a_told settled v ≡ told = cc in ap (λ (x : FieldTold). Some x.value) same

pub told_mark : (o : Option ℤ) (settled : Bool) (told : FieldTold) → option_map (a_told settled) o ≡ Some told → settled ≡ told.settled
told_mark None settled told e = absurd (cc)
told_mark (Some v) settled told e =
    let same : a_told settled v ≡ told = cc in ap (λ (x : FieldTold). x.settled) same

-- ---- a copy in range shows each of its fields

level_there : (fs : List FieldSpec) (ls : List ℕ) (f : ℕ) (spec : FieldSpec) → AreLevels (map (λ (s : FieldSpec). s.bits) fs) ls → slice_get fs f ≡ Some spec
    → (l : ℕ) × (slice_get ls f ≡ Some l)
level_there [] ls f spec h e = absurd (cc)
level_there (x ∷ fs) [] f spec h e = absurd h
level_there (x ∷ fs) (l ∷ ls) zero spec h e = (l, refl)
level_there (x ∷ fs) (l ∷ ls) (suc f) spec h e = level_there fs ls f spec h.1 e

module _ (kinds : List Kind) (copy : GhostCopy) (range : IsInRange kinds copy) (f : ℕ) (spec : FieldSpec) where
  pub shows_some : slice_get (fields_of kinds copy.kind) f ≡ Some spec → (v : ℤ) × (field_value kinds f copy ≡ Some v)
  shows_some e = by (slice_get kinds copy.kind) refl e
    where
      by : (o : Option Kind) → slice_get kinds copy.kind ≡ o → slice_get (fields_in o) f ≡ Some spec → (v : ℤ) × (field_value kinds f copy ≡ Some v)
      by None is e = absurd (cc)
      by (Some kind) is e =
          let l = level_there kind.fields copy.levels f spec (subst (λ (o : Option Kind). AreLevels (field_widths o) copy.levels) is range.levels) e in (
            shown_of spec l.0,
            ap (option_and_then (λ (k : Kind). option_and_then (λ (s : FieldSpec). option_map (shown_of s) (slice_get copy.levels f)) (slice_get k.fields f))) is
                ∙ ap (option_and_then (λ (s : FieldSpec). option_map (shown_of s) (slice_get copy.levels f))) e
                ∙ ap (option_map (shown_of spec)) l.1,
          )
