-- A data packet with the values of what it carries stands for what was chosen.
use Rattle.std.proofs.Common.{◌≡◌, ℕ, ℤ, suc, ◌+◌, ◌/◌, ◌^◌, ◌<◌, ◌≤◌, true, false, cond, List, [], ◌∷◌, ◌++◌, ◌∙◌, length, length-append, drop, refl, sym, ap, inl, inr, arith, add-one}
use Rattle.std.specs.List.{AllByRecursion}
use Rattle.std.proofs.Math.Nat.{div-div-eq-div-mul, pow-suc}
use Rattle.std.proofs.lemmas.Bool.{cases_Bool, cases_eq, cases_lt}
use Rattle.tn_types.specs.BitWords.{has_bit}
use Rattle.tn_types.specs.declared.choices.Op.{Op}
use Rattle.tn_types.specs.declared.choices.Op.TheVariants.{Kill, Create, Update}
use Rattle.tn_types.specs.declared.choices.Choice.{Choice}
use Rattle.quantised_fields.specs.declared.field.FieldSpec.{FieldSpec}
use Rattle.quantised_fields.specs.declared.kind.Kind.{Kind}
use Rattle.ghost_model.specs.Scope.{traits}
use Rattle.ghost_model.specs.Ghosts.{GhostEvent, scope_log}
use Rattle.ghost_model.specs.Legal.{IsItsMask}
use Rattle.ghost_model.proofs.Bits.{no_bit}
use Rattle.stream_manager.specs.ghost_masks.Plan.{sizes, fields_of, kind_of, masked, carried_by}
use Rattle.stream_manager.specs.ghost_masks.Carried.{fields_carried, all_carried, levels_for, ghost_for, ghost_by, ghosts_for, AreValues}
use Rattle.stream_manager.proofs.Below.ghost_masks.Carried.{length-AreValues, values_split}
use Rattle.ghost_client.specs.Fields.{place_in, carried_level}
use Rattle.ghost_logs.specs.Sent.{items_of}
use Rattle.ghost_logs.proofs.Alike.{Spells, AreSpelled}

-- ---- the place of a field in an update

halved : (mask k : ℕ) → mask / 2 ^ k / 2 ≡ mask / 2 ^ suc k
halved mask k = div-div-eq-div-mul mask (2 ^ k) 2 ∙ ap (λ n. mask / n) (sym (pow-suc 2 k))

-- fields from k on
place-within : (k mask : ℕ) (fs : List FieldSpec) (f : ℕ) → k ≤ f → f < k + length fs → has_bit mask f ≡ true → place_in mask f < place_in mask k + length (masked (mask / 2 ^ k) fs)
place-within k mask [] f from below set = absurd (omega arith)
place-within k mask (g ∷ fs) f from below set = elim (cases_Bool (has_bit mask k)) [
  | inl has ↦
      let next : place_in mask (suc k) ≡ suc (place_in mask k) = ap (λ b. place_in mask k + cond b 1 0) has ∙ add-one (place_in mask k) in
      let long : length (masked (mask / 2 ^ k) (g ∷ fs)) ≡ suc (length (masked (mask / 2 ^ k / 2) fs)) = ap (λ b. length (cond b (g ∷ masked (mask / 2 ^ k / 2) fs) (masked (mask / 2 ^ k / 2) fs))) has in
      let rest : length (masked (mask / 2 ^ k / 2) fs) ≡ length (masked (mask / 2 ^ suc k) fs) = ap (λ m. length (masked m fs)) (halved mask k) in
      elim (cases_eq k f) [
        | inl same ↦ omega (arith, long, ap (place_in mask) same)
        | inr other ↦ omega (arith, long, rest, next, place-within (suc k) mask fs f (omega arith) (omega arith) set)
      ]
  | inr lacks ↦
      let next : place_in mask (suc k) ≡ place_in mask k = ap (λ b. place_in mask k + cond b 1 0) lacks ∙ omega arith in
      let long : length (masked (mask / 2 ^ k) (g ∷ fs)) ≡ length (masked (mask / 2 ^ k / 2) fs) = ap (λ b. length (cond b (g ∷ masked (mask / 2 ^ k / 2) fs) (masked (mask / 2 ^ k / 2) fs))) lacks in
      let rest : length (masked (mask / 2 ^ k / 2) fs) ≡ length (masked (mask / 2 ^ suc k) fs) = ap (λ m. length (masked m fs)) (halved mask k) in
      elim (cases_eq k f) [
        | inl same ↦ (let never : true ≡ false = sym set ∙ ap (has_bit mask) (sym same) ∙ lacks in absurd (cc))
        | inr other ↦ omega (arith, long, rest, next, place-within (suc k) mask fs f (omega arith) (omega arith) set)
      ]
]

whole-mask : (mask : ℕ) → mask / 2 ^ 0 ≡ mask
whole-mask mask = omega arith

place-below : (mask : ℕ) (fs : List FieldSpec) (f : ℕ) → mask < 2 ^ length fs → has_bit mask f ≡ true → place_in mask f < length (masked mask fs)
place-below mask fs f small set = elim (cases_lt f (length fs)) [
  | inl below ↦ omega (arith, place-within 0 mask fs f (omega arith) (omega arith) set, ap (λ m. length (masked m fs)) (whole-mask mask))
  | inr beyond ↦ (let never : true ≡ false = sym set ∙ no_bit mask (length fs) f small beyond in absurd (cc))
]

levels-count : (fs : List FieldSpec) (vs : List ℤ) → length fs ≤ length vs → length (levels_for fs vs) ≡ length fs
levels-count [] vs le = refl
levels-count (f ∷ fs) [] le = absurd (omega arith)
levels-count (f ∷ fs) (v ∷ vs) le = ap suc (levels-count fs vs (omega arith))

-- ---- items

module _ (kinds : List Kind) (log : List GhostEvent) where
  one-spelled : (values : List ℤ) (c : Choice) (o : Op) → c.op ≡ o → IsItsMask (sizes kinds) log c.n c.mask o → length (carried_by o c.mask (fields_of kinds (kind_of log c.n))) ≤ length values
      → Spells (traits (scope_log log)) (λ k. length (fields_of kinds k)) o (record { choice = c; levels = λ f. carried_level (ghost_for kinds log values c) f 0 }) (ghost_by kinds c.slot (kind_of log c.n) (traits (scope_log log) c.n).block c.mask values o)
  one-spelled values c Kill e its enough = refl
  one-spelled values c Create e its enough = (refl, refl, refl, levels-count (fields_of kinds (kind_of log c.n)) values enough, λ f lt. ap (λ o. carried_level (ghost_by kinds c.slot (kind_of log c.n) (traits (scope_log log) c.n).block c.mask values o) f 0) e)
  one-spelled values c Update e its enough = (
    refl,
    refl,
    refl,
    λ f set. (
      omega (arith, place-below c.mask (fields_of kinds (kind_of log c.n)) f its.0 set, levels-count (masked c.mask (fields_of kinds (kind_of log c.n))) values enough),
      ap (λ o. carried_level (ghost_by kinds c.slot (kind_of log c.n) (traits (scope_log log) c.n).block c.mask values o) f 0) e,
    ),
  )

  enough-values : (fs gs : List FieldSpec) (vs : List ℤ) → AreValues (fs ++ gs) vs → length fs ≤ length vs
  enough-values fs gs vs fit = omega (arith, length-AreValues (fs ++ gs) vs fit, length-append fs gs)

  pub spelled : (cs : List Choice) (values : List ℤ) → AllByRecursion (λ (c : Choice). IsItsMask (sizes kinds) log c.n c.mask c.op) cs → AreValues (all_carried kinds log cs) values
      → AreSpelled (traits (scope_log log)) (λ k. length (fields_of kinds k)) (items_of cs (ghosts_for kinds log cs values)) (ghosts_for kinds log cs values)
  spelled [] values its fit = tt
  spelled (c ∷ cs) values its fit = (
    one-spelled values c c.op refl its.0 (enough-values (fields_carried kinds log c) (all_carried kinds log cs) values fit),
    spelled cs (drop (length (fields_carried kinds log c)) values) its.1 (values_split (fields_carried kinds log c) (all_carried kinds log cs) values fit).rest,
  )
