-- What a world's values of an object say of a field whose range is known.
use Rattle.std.proofs.Common.{◌≡◌, ◌∙◌, ◌<◌, ℕ, ℤ, zero, suc, List, [], ◌∷◌, length, get_or, Option, Some, None, sym, ap, subst, arith, inl, inr}
use Rattle.std.specs.Prelude.{slice_get, option_map, option_and_then, IsSome, IfSome, ◌≤ℤ◌}
use Rattle.std.proofs.lemmas.Bool.{cases_lt}
use Rattle.std.proofs.lemmas.Option.{slice_get-get_or, slice_get_past}
use Rattle.quantised_fields.specs.declared.field.FieldSpec.{FieldSpec}
use Rattle.quantised_fields.specs.declared.kind.Kind.{Kind}
use Rattle.world_rules.specs.Kinds.{match_kinds, kind_of}
use Rattle.world_rules.specs.declared.object.Object.{Object}
use Rattle.world_sim.specs.Facts.{AreInRange, ValuesFit}
use Rattle.world_sim.specs.Worlds.{Worlds, kind_at, values_at, value_at}
use Rattle.client_scope.specs.declared.period.ShownPeriod.{ShownPeriod}
use Rattle.match_engine.specs.Values.{period_of, range_in, range_at, ranges}

-- the value of a field that has a range: there is one, and it lies in the range
record Fits (range : Option (ℤ × ℤ)) (values : List ℤ) (field : ℕ) : Type 0 where
  pub inside : field < length values
  pub within : (d : ℤ) → IfSome range (λ r. (r.0 ≤ℤ get_or values field d) × (get_or values field d ≤ℤ r.1))

abbrev range_of : FieldSpec → ℤ × ℤ
range_of spec = (spec.lo, spec.hi)

fits_fields : (fields : List FieldSpec) (values : List ℤ) (f : ℕ) → AreInRange fields values
    → IsSome (option_map range_of (slice_get fields f)) → Fits (option_map range_of (slice_get fields f)) values f
fits_fields [] values f fit some = absurd (cc)
fits_fields (spec ∷ fields) [] f fit some = absurd fit
fits_fields (spec ∷ fields) (v ∷ values) zero fit some = record { inside = omega arith; within = λ d. (fit.0, fit.1) }
fits_fields (spec ∷ fields) (v ∷ values) (suc f) fit some =
    let rest = fits_fields fields values f fit.2 some in
    record { inside = omega (arith, rest.inside); within = rest.within }

fits_kind : (of : Option Kind) (values : List ℤ) (f : ℕ) → IfSome of (λ k. AreInRange k.fields values)
    → IsSome (option_and_then (range_in f) of) → Fits (option_and_then (range_in f) of) values f
fits_kind None values f fit some = absurd (cc)
fits_kind (Some k) values f fit some = fits_fields k.fields values f fit some

fits_object : (kind : Option ℕ) (values : List ℤ) (f : ℕ) → ValuesFit kind values
    → IsSome (option_and_then (range_in f) (option_and_then (slice_get match_kinds) kind)) → Fits (option_and_then (range_in f) (option_and_then (slice_get match_kinds) kind)) values f
fits_object None values f fit some = absurd (cc)
fits_object (Some k) values f fit some = fits_kind (slice_get match_kinds k) values f fit some

module _ (w : Worlds) (periods : List ShownPeriod) (n f : ℕ) where
  pub not_shown : period_of periods n ≡ None → IsSome (ranges w periods n f) → ⊥
  not_shown none some =
      let no : IsSome (option_and_then (λ (q : ShownPeriod). range_at w q.object f) None) = subst (λ (o : Option ShownPeriod). IsSome (option_and_then (λ (q : ShownPeriod). range_at w q.object f) o)) none some in
      cc

  module _ (p : ShownPeriod) (found : period_of periods n ≡ Some p) (some : IsSome (ranges w periods n f)) where
    of_range : ranges w periods n f ≡ range_at w p.object f
    of_range = ap (option_and_then (λ (q : ShownPeriod). range_at w q.object f)) found

    has_range : IsSome (range_at w p.object f)
    has_range = subst (IsSome {T = ℤ × ℤ}) of_range some

    -- the object is there
    pub there : p.object < length w.objects
    there = elim (cases_lt p.object (length w.objects)) [
      | inl within ↦ within
      | inr past ↦
          let no : IsSome (option_and_then (range_in f) None) = subst (λ (o : Option Object). IsSome (option_and_then (range_in f) (option_and_then (slice_get match_kinds)
          (option_map (λ o. kind_of o.state) o)))) (slice_get_past w.objects p.object past) has_range in
          absurd (cc)
    ]

    module _ (values : List ℤ) (are : Some values ≡ values_at w p.object) (fit : ValuesFit (kind_at w p.object) values) where
      fits : Fits (range_at w p.object f) values f
      fits = fits_object (kind_at w p.object) values f fit has_range

      pub inside : f < length values
      inside = fits.inside

      pub within : (d : ℤ) → IfSome (ranges w periods n f) (λ r. (r.0 ≤ℤ get_or values f d) × (get_or values f d ≤ℤ r.1))
      within d = subst (λ (o : Option (ℤ × ℤ)). IfSome o (λ r. (r.0 ≤ℤ get_or values f d) × (get_or values f d ≤ℤ r.1))) (sym of_range) (fits.within d)

      pub newest : (d : ℤ) → value_at w p.object f ≡ Some (get_or values f d)
      newest d = ap (option_and_then (λ vs. slice_get vs f)) (sym are) ∙ slice_get-get_or values f d inside
