-- What a match may rely on of its world: values in the ranges of their kinds, and writes of objects that were there before
-- the tick, of fields of their kind, with versions from 1 to the number of ticks.
use Rattle.std.specs.Prelude.{ℕ, ℤ, ◌+◌, ◌<◌, ◌≤◌, ◌≤ℤ◌, List, [], ◌∷◌, length, Option, IfSome, slice_get}
use Rattle.quantised_fields.specs.declared.field.FieldSpec.{FieldSpec}
use Rattle.quantised_fields.specs.declared.kind.Kind.{Kind}
use Rattle.world_rules.specs.Kinds.{match_kinds}
use Rattle.world_sim.specs.declared.rows.Write.{Write}
use Rattle.world_sim.specs.Worlds.{Worlds, kind_at}

-- one value for each field, each in the range of its field
abbrev pub AreInRange : List FieldSpec → List ℤ → Type 0
AreInRange [] [] = Unit {0}
AreInRange (field ∷ fields) (value ∷ values) = (field.lo ≤ℤ value) × (value ≤ℤ field.hi) × AreInRange fields values
AreInRange [] (value ∷ values) = ⊥
AreInRange (field ∷ fields) [] = ⊥

-- the values of an object of this kind
abbrev pub ValuesFit : Option ℕ → List ℤ → Type 0
ValuesFit kind values = IfSome kind (λ k. IfSome (slice_get match_kinds k) (λ (of : Kind). AreInRange of.fields values))

-- a value of this field of an object of this kind
abbrev pub ValueFits : Option ℕ → ℕ → ℤ → Type 0
ValueFits kind field value =
    IfSome kind (λ k. IfSome (slice_get match_kinds k) (λ (of : Kind).
    IfSome (slice_get of.fields field) (λ (spec : FieldSpec). (spec.lo ≤ℤ value) × (value ≤ℤ spec.hi))))

-- a write of the tick behind this world
pub record IsWriteOf (old : Worlds) (write : Write) : Type 0 where
  pub object : write.object < length old.objects
  pub value : ValueFits (kind_at old write.object) write.field write.value
  pub first : 1 ≤ write.version
  pub last : write.version ≤ old.ticks + 1
