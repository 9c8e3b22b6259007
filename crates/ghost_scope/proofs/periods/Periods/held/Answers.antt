use Rattle.std.proofs.Common.{◌≡◌, ◌<◌, ℕ, Some, length, ◌∙◌, sym, ap, subst}
use Rattle.std.proofs.lemmas.List.{get_or_default}
use denote.Bor.{Bor}
use Rattle.ghost_scope.specs.declared.period.Period.{Period}
use Rattle.ghost_scope.specs.Table.{Table, no_entry, entry_at, entry_of, number_at, slot_of}
use Rattle.ghost_scope.proofs.Lookups.{entry_found}
use Rattle.ghost_scope.proofs.Held.{IsEntry, number_held, each_held, phase_held, phase_told_held, traits_told_held, alive_held, range_held}
use Rattle.ghost_scope.proofs.periods.Periods.held.Goals as goal
use Rattle.ghost_scope.proofs.periods.Periods.held.Goals.{After-index}

module _ (c : After-index) where
  abbrev number : ℕ
  number = number_at c.args.self.now.entries c.in-Some.at

  found : Some c.index.result.now ≡ entry_of c.args.self.now.entries (number_at c.args.self.now.entries c.in-Some.at)
  found =
      let seat = c.in-Some.ensures.seat in
      let es = ap (λ (t : Table). t.entries) c.self.view_is in
      let in' : c.in-Some.at < length c.self.inside.entries.items = rw es seat.in_range in
      ap Some (c.index.ensures ∙ get_or_default _ _ c.index.result.now no_entry in' ∙ ap (λ l. entry_at l c.in-Some.at) es)
      ∙ sym (entry_found c.args.self.now.entries c.at_slot.ensures.ordered.rising c.in-Some.at seat.in_range)

  each : (P : Bor Period → Type 0) → ((x : Bor Period) → IsEntry c.args.self.now (number_at c.args.self.now.entries c.in-Some.at) c.args.slot x.now → P x) → P c.index.result
  each = each_held c.args.self.now c.at_slot.ensures.ordered (number_at c.args.self.now.entries c.in-Some.at) c.args.slot c.in-Some.ensures.seat.holds (Some c.index.result) found

pub returns-in-Some-clause-holder : goal.returns-in-Some-clause-holder
returns-in-Some-clause-holder c m =
    let seat = c.in-Some.ensures.seat in
    let p = c.args.self.now in
    let named = number_held p c.at_slot.ensures.ordered (number c) c.args.slot seat.holds (Some c.index.result) (found c) in (
      λ h. let e : Some (number c) ≡ Some m = sym named ∙ h in
          let same : number c ≡ m = cc in
          subst (λ n. slot_of p n ≡ Some c.args.slot) same seat.holds,
      λ h. named ∙ ap Some (sym (seat.alone m h)),
    )

pub returns-in-Some-clause-slot : goal.returns-in-Some-clause-slot
returns-in-Some-clause-slot c = each c _ (λ x is. is.slot)

pub returns-in-Some-clause-alive : goal.returns-in-Some-clause-alive
returns-in-Some-clause-alive c = each c _ (λ x is. alive_held c.args.self.now c.at_slot.ensures.ordered (number c) c.args.slot x.now is)

pub returns-in-Some-clause-phase : goal.returns-in-Some-clause-phase
returns-in-Some-clause-phase c = each c _ (λ x is. phase_held c.args.self.now c.at_slot.ensures.ordered (number c) c.args.slot x.now is)

pub returns-in-Some-clause-told : goal.returns-in-Some-clause-told
returns-in-Some-clause-told c = each c _ (λ x is. phase_told_held c.args.self.now c.at_slot.ensures.ordered (number c) c.args.slot x.now is)

pub returns-in-Some-clause-traits : goal.returns-in-Some-clause-traits
returns-in-Some-clause-traits c = each c _ (λ x is. traits_told_held c.args.self.now c.at_slot.ensures.ordered (number c) c.args.slot x.now is)

pub returns-in-Some-clause-ranges : goal.returns-in-Some-clause-ranges
returns-in-Some-clause-ranges c = each c _ (λ x is. range_held c.args.self.now c.at_slot.ensures.ordered (number c) c.args.slot x.now is)

pub returns-in-None-clause-holder : goal.returns-in-None-clause-holder
returns-in-None-clause-holder c m = (λ h. absurd (cc), λ h. absurd (c.in-None.ensures.found m h))
