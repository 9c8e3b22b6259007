-- The periods of one connection: which object each is of, with which kind it was shown, and which are shown and not hidden.
use Rattle.std.specs.Prelude.{◌≡◌, refl, ℕ, ◌<◌, ◌==◌, Bool, true, List, [], ◌∷◌, length, slice_get, slice_index, Option, Some, None}
use Rattle.std.specs.Option.{option_and_then}
use Rattle.std.specs.List.{list_any}
use Rattle.quantised_fields.specs.declared.field.FieldSpec.{FieldSpec}
use Rattle.quantised_fields.specs.declared.kind.Kind.{Kind}

pub record PeriodList : Type 0 where
  pub objects : List ℕ
  pub kinds : List ℕ
  pub up : List ℕ  -- shown and not hidden, rising
  pub table : List Kind  -- the kinds of the match
  pub has_room : Bool  -- for one more period

-- the number is one of these
abbrev pub has : ℕ → List ℕ → Bool
has n ns = list_any (λ m. m == n) ns

-- one of these periods is of the object
abbrev pub has_object : List ℕ → List ℕ → ℕ → Bool
has_object objects up object = list_any (λ n. slice_index objects n == object) up

-- the field of a period, by the kind with which it was shown
abbrev pub spec_at : List Kind → List ℕ → ℕ → ℕ → Option FieldSpec
spec_at table kinds n field =
    option_and_then (λ k. option_and_then (λ (kind : Kind). slice_get kind.fields field) (slice_get table k)) (slice_get kinds n)

abbrev pub fields_in : Option Kind → ℕ
fields_in None = 0
fields_in (Some kind) = length kind.fields

-- how many fields a period has
abbrev pub field_count : List Kind → List ℕ → ℕ → ℕ
field_count table kinds n = fields_in (option_and_then (slice_get table) (slice_get kinds n))

-- what always holds of them: no two that are shown and not hidden have the same object
pub record ArePeriods (objects kinds up : List ℕ) : Type 0 where
  pub long : length kinds ≡ length objects
  pub shown : (n : ℕ) → has n up ≡ true → n < length objects
  pub apart : (m n : ℕ) → has m up ≡ true → has n up ≡ true → slice_index objects m ≡ slice_index objects n → m ≡ n

-- periods 0 and 2 are up, and period 1 had the object of period 2
of_object : has_object (5 ∷ 7 ∷ 7 ∷ []) (0 ∷ 2 ∷ []) 7 ≡ true
of_object = refl
