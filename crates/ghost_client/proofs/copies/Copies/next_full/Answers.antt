use Rattle.std.proofs.Common.{◌≡◌, ◌∙◌, ap, subst, ℕ, ◌≤◌, ◌<◌, List, Option, None}
use Rattle.std.specs.Prelude.{IfSome, IsSome}
use Rattle.wire_format.specs.Ghosts.{held_in}
use Rattle.ghost_client.specs.declared.copy.GhostCopy.{GhostCopy}
use Rattle.ghost_client.specs.State.{State, held_kinds, first_behind, IsNextFull, AreEmptyFrom}
use Rattle.ghost_client.proofs.Walk.{IsNextKind, next_is, none_is, none_found}
use Rattle.ghost_client.proofs.copies.Copies.next_full.Goals as goal

pub returns-clause-next : goal.returns-clause-next
returns-clause-next c =
    let slots = c.self.inside.slots.items in
    let held : c.deref.result.now ≡ held_kinds slots = c.deref.ensures ∙ c.self.invariant.2 in
    let first : c.first_behind.result ≡ first_behind c.args.at = c.first_behind.ensures in
    let found : IfSome c.next_held.result (IsNextKind slots (first_behind c.args.at)) =
    subst (λ (f : ℕ). IfSome c.next_held.result (IsNextKind slots f)) first
    (subst (λ (h : List (Option ℕ)). IfSome c.next_held.result (λ slot. (c.first_behind.result ≤ slot) × IsSome (held_in h slot)
    × ((s : ℕ) → c.first_behind.result ≤ s → s < slot → held_in h s ≡ None))) held c.next_held.ensures.next) in
    subst (λ (s : State). IfSome c.next_held.result (IsNextFull s.slots c.args.at)) c.self.view_is (next_is slots c.args.at c.next_held.result found)

pub returns-clause-none : goal.returns-clause-none
returns-clause-none c =
    let slots = c.self.inside.slots.items in
    let held : c.deref.result.now ≡ held_kinds slots = c.deref.ensures ∙ c.self.invariant.2 in
    let first : c.first_behind.result ≡ first_behind c.args.at = c.first_behind.ensures in
    let there : slots ≡ c.args.self.now.slots = ap (λ (s : State). s.slots) c.self.view_is in (
      (λ none. subst (λ (s : List (Option GhostCopy)). AreEmptyFrom s (first_behind c.args.at)) there
          (none_is slots (first_behind c.args.at) c.self.invariant.0
          (subst (λ (f : ℕ). (s : ℕ) → f ≤ s → s < 256 → held_in (held_kinds slots) s ≡ None) first
          (subst (λ (h : List (Option ℕ)). (s : ℕ) → c.first_behind.result ≤ s → s < 256 → held_in h s ≡ None) held (c.next_held.ensures.none none))))),
      (λ empty. none_found c.args.self.now.slots c.args.at c.next_held.result (returns-clause-next c) empty),
    )
