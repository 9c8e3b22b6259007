-- The values that packs ask a world for: the newest of the objects of a client's shown periods.
use Rattle.std.specs.Prelude.{◌≡◌, ℕ, ℤ, ◌<◌, ◌==◌, List, find, slice_get, option_map, option_and_then, Option, Some}
use Rattle.std.specs.List.{AllPairs}
use Rattle.tn_types.specs.declared.choices.Read.{Read}
use Rattle.quantised_fields.specs.declared.kind.Kind.{Kind}
use Rattle.world_rules.specs.Kinds.{match_kinds}
use Rattle.world_sim.specs.Worlds.{Worlds, kind_at, value_at}
use Rattle.client_scope.specs.declared.period.ShownPeriod.{ShownPeriod}

-- the shown period of this number, if there is one
abbrev pub period_of : List ShownPeriod → ℕ → Option ShownPeriod
period_of periods n = find (λ p. p.n == n) periods

-- they stand by rising number
abbrev pub Rise : List ShownPeriod → Type 0
Rise periods = AllPairs (λ p q. p.n < q.n) periods

-- the shown period of this number stands at this place
pub record IsAt (periods : List ShownPeriod) (n i : ℕ) : Type 0 where
  pub period : ShownPeriod
  pub there : slice_get periods i ≡ Some period
  pub number : period.n ≡ n

abbrev pub range_in : ℕ → Kind → Option (ℤ × ℤ)
range_in field kind = option_map (λ spec. (spec.lo, spec.hi)) (slice_get kind.fields field)

-- the range of a field of an object
abbrev pub range_at : Worlds → ℕ → ℕ → Option (ℤ × ℤ)
range_at w object field = option_and_then (range_in field) (option_and_then (slice_get match_kinds) (kind_at w object))

-- the range of a field of a shown period
abbrev pub ranges : Worlds → List ShownPeriod → ℕ → ℕ → Option (ℤ × ℤ)
ranges w periods n field = option_and_then (λ p. range_at w p.object field) (period_of periods n)

-- the read is of a shown period, and has its object's newest value
pub record IsNewest (w : Worlds) (periods : List ShownPeriod) (r : Read) : Type 0 where
  pub period : ShownPeriod
  pub found : period_of periods r.n ≡ Some period
  pub newest : value_at w period.object r.field ≡ Some r.value
  pub plain : r.version ≡ 0
