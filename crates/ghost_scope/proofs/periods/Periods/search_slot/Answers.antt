use Rattle.std.proofs.Common.{◌≡◌, ◌<◌, ℕ, Some, None, sym, ap, ◌∙◌, subst, arith, length}
use Rattle.std.proofs.lemmas.List.{get_or_default}
use Rattle.ghost_scope.specs.Table.{Table, IsAt, IsSeat, slot_of, slot_in, entry_of}
use Rattle.ghost_scope.specs.Sound.{holder_at}
use Rattle.ghost_scope.proofs.Calls.{slot_held, slot_where}
use Rattle.ghost_scope.proofs.Held.{seat_is}
use Rattle.ghost_scope.proofs.periods.Periods.search_slot.Goals as goal
use Rattle.ghost_scope.proofs.periods.Periods.search_slot.Goals.{After-index}

-- what was read
read : (c : After-index) → c.index.result.now ≡ holder_at c.self.inside.holders.items c.args.slot
read c =
    let in' : c.args.slot < length c.self.inside.holders.items = omega (arith, c.self.invariant.0.slots, c.ranges.slot.fits) in
    c.index.ensures ∙ get_or_default _ _ c.index.result.now None in'

-- who holds the slot
held : (c : After-index) (n : ℕ) → slot_of c.args.self.now n ≡ Some c.args.slot → c.index.result.now ≡ Some n
held c n h =
    let old : slot_in (entry_of c.self.inside.entries.items n) ≡ Some c.args.slot = ap (λ t. slot_of t n) c.self.view_is ∙ h in
    read c ∙ slot_held _ _ _ _ c.self.invariant.0 n c.args.slot old

pub returns-in-Ok-clause-found : goal.returns-in-Ok-clause-found
returns-in-Ok-clause-found c n h =
    let e : Some c.in-Some.n ≡ Some n = sym c.in-Some.is ∙ held ((goal.at.returns-in-Ok-clause-found c).After-index) n h in
    let same : c.in-Some.n ≡ n = cc in
    subst (λ m. IsAt c.args.self.now.entries m c.in-Ok.at) same c.in-Ok.ensures.found

pub returns-in-Ok-clause-seat : goal.returns-in-Ok-clause-seat
returns-in-Ok-clause-seat c =
    let is_at : IsAt c.self.inside.entries.items c.in-Some.n c.in-Ok.at = subst (λ (t : Table). IsAt t.entries c.in-Some.n c.in-Ok.at) (sym c.self.view_is) c.in-Ok.ensures.found in
    let holds = sym (read ((goal.at.returns-in-Ok-clause-seat c).After-index)) ∙ c.in-Some.is ∙ ap Some (sym is_at.has_number) in
    subst (λ (t : Table). IsSeat t c.args.slot c.in-Ok.at) c.self.view_is
    (seat_is c.self.inside.entries.items c.self.inside.holders.items c.self.inside.first_waiting c.self.inside.shown c.self.invariant.0 c.self.inside.work c.args.slot c.in-Ok.at c.ranges.slot.fits is_at.in_range holds)

pub returns-in-Err-clause-found : goal.returns-in-Err-clause-found
returns-in-Err-clause-found c n h =
    let e : Some c.in-Some.n ≡ Some n = sym c.in-Some.is ∙ held ((goal.at.returns-in-Err-clause-found c).After-index) n h in
    let same : n ≡ c.in-Some.n = cc in
    let k = slot_where c.args.self.now.entries n c.args.slot h in
    c.in-Err.ensures.absent k.at k.in_range (k.number ∙ same)

pub returns-in-None-clause-found : goal.returns-in-None-clause-found
returns-in-None-clause-found c n h =
    let e : None ≡ Some n = sym c.in-None.is ∙ held ((goal.at.returns-in-None-clause-found c).After-index) n h in
    cc
