-- A list of kinds without a fault keeps each limit.
use Rattle.std.proofs.Common.{◌≡◌, ℕ, zero, suc, ◌<◌, ◌≤◌, List, [], ◌∷◌, length, Option, Some, None, arith, refl, false, ltb, cond}
use Rattle.std.specs.Prelude.{IsTrue, All, position}
use Rattle.std.specs.Option.{option_or}
use Rattle.tn_types.specs.declared.limits.TheConstants.{MAX_FIELDS, MAX_KIND_BITS}
use Rattle.std.proofs.lemmas.Bool.Decides.{nat_tests}
use Rattle.quantised_fields.specs.declared.field.FieldSpec.{FieldSpec}
use Rattle.quantised_fields.specs.declared.kind.Kind.{Kind}
use Rattle.quantised_fields.specs.declared.table.KindFault.{KindFault}
use Rattle.quantised_fields.specs.declared.table.KindFault.TheVariants.{TooWide}
use Rattle.quantised_fields.specs.Levels.{is_sound}
use Rattle.quantised_fields.specs.Kinds.{is_unsound, width_of, kind_fault, fault_from, bad_range, table_fault, IsWithinLimits}

sound_of : (f : FieldSpec) → is_unsound f ≡ false → IsTrue (is_sound f)
sound_of f h = grind arith

sound_head : (f : FieldSpec) (fields : List FieldSpec) → position is_unsound (f ∷ fields) ≡ None → is_unsound f ≡ false
sound_head f fields h = grind arith

sound_tail : (f : FieldSpec) (fields : List FieldSpec) → position is_unsound (f ∷ fields) ≡ None → position is_unsound fields ≡ None
sound_tail f fields h = grind (arith, nat_tests)

sound_from : (fields : List FieldSpec) → position is_unsound fields ≡ None → All (λ f. IsTrue (is_sound f)) fields
sound_from [] h k d lt = absurd (omega arith)
sound_from (f ∷ fields) h zero d lt = sound_of f (sound_head f fields h)
sound_from (f ∷ fields) h (suc k) d lt = sound_from fields (sound_tail f fields h) k d (omega arith)

some_fields : (k : ℕ) (kind : Kind) → kind_fault k kind ≡ None → 0 < length kind.fields
some_fields k kind h = grind (arith, nat_tests)

few_fields : (k : ℕ) (kind : Kind) → kind_fault k kind ≡ None → length kind.fields ≤ MAX_FIELDS
few_fields k kind h = grind (arith, nat_tests)

first_none : (a b : Option KindFault) → option_or a b ≡ None → a ≡ None
first_none None b h = refl
first_none (Some f) b h = absurd (cc)

next_none : (a b : Option KindFault) → option_or a b ≡ None → b ≡ None
next_none None b h = h
next_none (Some f) b h = absurd (cc)

bad_none : (k : ℕ) (o : Option ℕ) → bad_range k o ≡ None → o ≡ None
bad_none k None h = refl
bad_none k (Some f) h = absurd (cc)

-- with some fields and few, what is left is their ranges and then their widths
later_faults : (k : ℕ) (kind : Kind) → kind_fault k kind ≡ None → option_or (bad_range k (position is_unsound kind.fields)) (cond (ltb MAX_KIND_BITS (width_of kind.fields)) (Some (TooWide k)) None) ≡ None
later_faults k kind h = grind (arith, nat_tests)

no_unsound : (k : ℕ) (kind : Kind) → kind_fault k kind ≡ None → position is_unsound kind.fields ≡ None
no_unsound k kind h = bad_none k _ (first_none _ _ (later_faults k kind h))

not_wide : (k width : ℕ) → cond (ltb MAX_KIND_BITS width) (Some (TooWide k)) None ≡ None → width ≤ MAX_KIND_BITS
not_wide k width h = grind (arith, nat_tests)

narrow_fields : (k : ℕ) (kind : Kind) → kind_fault k kind ≡ None → width_of kind.fields ≤ MAX_KIND_BITS
narrow_fields k kind h = not_wide k (width_of kind.fields) (next_none _ _ (later_faults k kind h))

of_kind : (k : ℕ) (kind : Kind) → kind_fault k kind ≡ None → IsWithinLimits kind
of_kind k kind h = record { some = some_fields k kind h; few = few_fields k kind h; sound = sound_from kind.fields (no_unsound k kind h); narrow = narrow_fields k kind h }

of_kinds : (k : ℕ) (kinds : List Kind) → fault_from k kinds ≡ None → All IsWithinLimits kinds
of_kinds k [] h i d lt = absurd (omega arith)
of_kinds k (x ∷ kinds) h zero d lt = of_kind k x (first_none _ _ h)
of_kinds k (x ∷ kinds) h (suc i) d lt = of_kinds (suc k) kinds (next_none _ _ h) i d (omega arith)

no_first_fault : (kinds : List Kind) → table_fault kinds ≡ None → fault_from 0 kinds ≡ None
no_first_fault kinds h = grind (arith, nat_tests)

-- each kind of a table keeps its limits
pub within_limits : (kinds : List Kind) → table_fault kinds ≡ None → All IsWithinLimits kinds
within_limits kinds h = of_kinds 0 kinds (no_first_fault kinds h)
