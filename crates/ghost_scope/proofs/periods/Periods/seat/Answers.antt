use Rattle.std.proofs.Common.{◌≡◌, ◌<◌, ℕ, Some, length, get_or, sym, ap, ◌∙◌, subst, arith}
use Rattle.std.proofs.lemmas.List.{get_or_default}
use Rattle.ghost_scope.specs.Table.{Table, IsSeat, no_entry, entry_at, number_at}
use Rattle.ghost_scope.specs.Sound.{holder_at}
use Rattle.ghost_scope.proofs.Held.{seat_is}
use Rattle.ghost_scope.proofs.periods.Periods.seat.Goals as goal

pub returns-then-index-slot-clause-seat : goal.returns-then-index-slot-clause-seat
returns-then-index-slot-clause-seat c =
    let sound = c.self.invariant.0 in
    let es = c.self.inside.entries.items in
    let at : ℕ = get_or c.self.inside.seats c.args.slot 0 in
    let early : at < c.self.inside.first_waiting = c.if-at-self.true in
    let in' : at < length es = omega (arith, early, sound.first_in) in
    let its : (entry_at es at).slot ≡ c.args.slot = ap (λ e. e.slot) (sym (c.index.ensures ∙ get_or_default _ _ c.index.result.now no_entry in')) ∙ c.if-index-slot.true in
    let holds : holder_at c.self.inside.holders.items c.args.slot ≡ Some (number_at es at) = ap (holder_at c.self.inside.holders.items) (sym its) ∙ sound.held at early in
    subst (λ (t : Table). IsSeat t c.args.slot at) c.self.view_is
    (seat_is es c.self.inside.holders.items c.self.inside.first_waiting c.self.inside.shown sound c.self.inside.work c.args.slot at c.ranges.slot.fits in' holds)
