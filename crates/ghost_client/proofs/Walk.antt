-- A walk over the kinds that the slots hold is one over their copies.
use Rattle.std.proofs.Common.{◌≡◌, ◌∙◌, ℕ, ◌<◌, ◌≤◌, List, Option, Some, None, length, refl, sym, subst, arith, inl, inr}
use Rattle.std.specs.Prelude.{IfSome, IsSome, IsNone}
use Rattle.std.proofs.lemmas.List.{get_or_past}
use Rattle.std.proofs.lemmas.Bool.{cases_lt}
use Rattle.wire_format.specs.Ghosts.{held_in}
use Rattle.ghost_client.specs.declared.copy.GhostCopy.{GhostCopy}
use Rattle.ghost_client.specs.State.{copy_in, kind_held, held_kinds, first_behind, IsNextFull, AreEmptyFrom}
use Rattle.ghost_client.proofs.Held.{held_at}

no_kind : (o : Option GhostCopy) → kind_held o ≡ None → o ≡ None
no_kind None e = refl
no_kind (Some c) e = search

some_kind : (o : Option GhostCopy) → IsSome (kind_held o) → IsSome o
some_kind None h = h
some_kind (Some c) h = refl

-- what a search of the kinds says from a slot on
abbrev pub IsNextKind : List (Option GhostCopy) → ℕ → ℕ → Type 0
IsNextKind slots first slot = (first ≤ slot) × IsSome (held_in (held_kinds slots) slot) × ((s : ℕ) → first ≤ s → s < slot → held_in (held_kinds slots) s ≡ None)

no_copy : (slots : List (Option GhostCopy)) (s : ℕ) → held_in (held_kinds slots) s ≡ None → copy_in slots s ≡ None
no_copy slots s e = no_kind (copy_in slots s) (sym (held_at slots s) ∙ e)

pub next_is : (slots : List (Option GhostCopy)) (at result : Option ℕ) → IfSome result (IsNextKind slots (first_behind at)) → IfSome result (IsNextFull slots at)
next_is slots at None h = tt
next_is slots at (Some slot) h = record {
  behind = h.0;
  full = some_kind (copy_in slots slot) (subst (λ (o : Option ℕ). IsSome o) (held_at slots slot) h.1);
  least = λ s from below. no_copy slots s (h.2 s from below);
}

pub none_is : (slots : List (Option GhostCopy)) (first : ℕ) → length slots ≡ 256 → ((s : ℕ) → first ≤ s → s < 256 → held_in (held_kinds slots) s ≡ None) → AreEmptyFrom slots first
none_is slots first len h s from = elim (cases_lt s 256) [
  | inl below ↦ no_copy slots s (h s from below)
  | inr past ↦ get_or_past slots s None (omega (arith, len, past))
]

-- where no slot holds a copy, none is found
pub none_found : (slots : List (Option GhostCopy)) (at result : Option ℕ) → IfSome result (IsNextFull slots at) → AreEmptyFrom slots (first_behind at) → IsNone result
none_found slots at None h empty = search
none_found slots at (Some slot) h empty =
    let full : IsSome (copy_in slots slot) = h.full in
    let none : copy_in slots slot ≡ None = empty slot h.behind in
    absurd (cc)
