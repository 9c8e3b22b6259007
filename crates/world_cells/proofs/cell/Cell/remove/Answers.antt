use Rattle.std.proofs.Common.{◌≡◌, ap, ◌∙◌, sym, arith, subst}
use Rattle.world_cells.specs.Rising.{IsGap, without}
use Rattle.world_cells.proofs.Places.{taken_at, absent_whole, IsRising-without}
use Rattle.world_cells.proofs.cell.Cell.remove.Goals as goal
use Rattle.world_cells.proofs.cell.Cell.remove.Goals.{After-remove}

module _ (c : After-remove) where
  taken : c.remove.new.self.items ≡ without c.args.number c.self.inside.numbers.items
  taken =
      let found = c.in-Ok.ensures.found in
      c.remove.ensures.items ∙ taken_at 0 1024 c.self.inside.numbers.items c.in-Ok.at c.args.number c.self.invariant.0 (rw c.deref.ensures.value at found.0) (rw c.deref.ensures.value at found.1)

pub invariant_of-self : goal.invariant_of-self
invariant_of-self c = (rw (taken c) (IsRising-without 0 1024 c.self.inside.numbers.items c.args.number c.self.invariant.0), omega (arith, c.remove.ensures.capacity, c.self.invariant.1))

pub returns-in-Ok : goal.returns-in-Ok
returns-in-Ok c = taken c ∙ ap (without c.args.number) c.self.view_is

pub returns-in_default : goal.returns-in_default
returns-in_default c =
    let gap = subst (λ xs. IsGap xs c.args.number c.in_default.field-0) (c.deref.ensures.value ∙ c.self.view_is) c.in_default.ensures.absent in
    sym (absent_whole c.args.self.now c.in_default.field-0 c.args.number gap)
