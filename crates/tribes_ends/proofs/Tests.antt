-- Tests that a refusal is said by, and what they mean.
use Rattle.std.proofs.Common.{◌≡◌, ℕ, ◌≤◌, Bool, true, false, ◌&&◌, T, List, [], ◌∷◌, length, None, refl, sym, subst, arith}
use Rattle.std.specs.Prelude.{ℤ, int_le, IsTrue, ◌↔◌, nat_lt}
use Rattle.std.proofs.lemmas.Bool.Decides.{nat_tests}
use Rattle.std.proofs.lemmas.Bool.{ltb-true}
use Rattle.quantised_fields.specs.declared.field.FieldSpec.{FieldSpec}
use Rattle.quantised_fields.specs.declared.kind.Kind.{Kind}
use Rattle.quantised_fields.specs.Kinds.{table_fault}
use Rattle.ghost_model.specs.Phases.{is_up}
use Rattle.stream_manager.specs.ghost_scope.Table.{Table, phase_of}
use Rattle.stream_manager.specs.ghost_scope.Shown.{show_count, IsUp}
use Rattle.tn_types.specs.declared.limits.TheConstants.{MAX_KINDS}
use Rattle.tribes_ends.specs.Refusals.{are_values}
use Rattle.stream_manager.specs.ghost_masks.Carried.{AreValues}

pub few_kinds : (kinds : List Kind) → table_fault kinds ≡ None → length kinds ≤ MAX_KINDS
few_kinds kinds h = grind (arith, nat_tests)

-- ---- a period that is up

both-up : (b c : Bool) → b ≡ true → c ≡ true → b && c ≡ true
both-up true true h k = refl
both-up true false h k = k
both-up false c h k = h

parts : (b c : Bool) → b && c ≡ true → (b ≡ true) × (c ≡ true)
parts true true h = (refl, refl)
parts true false h = (refl, h)
parts false c h = (h, cc)

pub same-when : (b c : Bool) → (b ≡ true → c ≡ true) → (c ≡ true → b ≡ true) → b ≡ c
same-when true c f g = sym (f refl)
same-when false true f g = g refl
same-when false false f g = refl

pub shown-is : (b : Bool) (p : Table) (n : ℕ) → (IsTrue b ↔ IsUp p n) → b ≡ nat_lt n (show_count p) && is_up (phase_of p n)
shown-is b p n h = same-when b (nat_lt n (show_count p) && is_up (phase_of p n))
    (λ t. let up : IsUp p n = h.0 t in let shown = up.shown in both-up (nat_lt n (show_count p)) (is_up (phase_of p n)) (grind (arith, nat_tests)) up.up)
    (λ t. let both = parts (nat_lt n (show_count p)) (is_up (phase_of p n)) t in h.1 (record { shown = ltb-true n (show_count p) both.0; up = both.1 }))

-- ---- values in their ranges

holds : (b : Bool) → T b → b ≡ true
holds true t = refl
holds false t = absurd t

held : (b : Bool) → b ≡ true → T b
held b e = subst T (sym e) tt

pub values-are : (fs : List FieldSpec) (vs : List ℤ) → IsTrue (are_values fs vs) ↔ AreValues fs vs
values-are [] [] = (λ _. tt, λ _. refl)
values-are [] (v ∷ vs) = (λ h. absurd (cc), λ h. absurd h)
values-are (f ∷ fs) [] = (λ h. absurd (cc), λ h. absurd h)
values-are (f ∷ fs) (v ∷ vs) = (
  λ h. let one = parts (int_le f.lo v && int_le v f.hi) (are_values fs vs) h in let two = parts (int_le f.lo v) (int_le v f.hi) one.0 in
      (record { le = held (int_le f.lo v) two.0 }, record { le = held (int_le v f.hi) two.1 }, (values-are fs vs).0 one.1),
  λ h. both-up (int_le f.lo v && int_le v f.hi) (are_values fs vs) (both-up (int_le f.lo v) (int_le v f.hi) (holds (int_le f.lo v) h.0.le) (holds (int_le v f.hi) h.1.le)) ((values-are fs vs).1 h.2),
)
