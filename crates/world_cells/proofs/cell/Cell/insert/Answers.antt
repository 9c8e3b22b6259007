use Rattle.std.proofs.Common.{ap, ◌∙◌, sym, arith, subst}
use Rattle.world_cells.specs.Rising.{IsGap, IsRising, put_in}
use Rattle.world_cells.proofs.Places.{insert_whole, put_there}
use Rattle.world_cells.proofs.cell.Cell.insert.Goals as goal

pub put_at-requires-clause-at : goal.put_at-requires-clause-at
put_at-requires-clause-at c =
    let gap : IsGap c.self.inside.numbers.items c.args.number c.in-Err.at = subst (λ xs. IsGap xs c.args.number c.in-Err.at) c.deref.ensures.value c.in-Err.ensures.absent in
    gap.within

pub put_at-requires-clause-room : goal.put_at-requires-clause-room
put_at-requires-clause-room c =
    let gap : IsGap c.self.inside.numbers.items c.args.number c.in-Err.at = subst (λ xs. IsGap xs c.args.number c.in-Err.at) c.deref.ensures.value c.in-Err.ensures.absent in
    omega (arith, (insert_whole c.self.inside.numbers.items c.in-Err.at c.args.number c.self.invariant.0 c.requires gap).2, c.self.invariant.1)

pub invariant_of-self : goal.invariant_of-self
invariant_of-self c =
    let gap : IsGap c.self.inside.numbers.items c.args.number c.in-Err.at = subst (λ xs. IsGap xs c.args.number c.in-Err.at) c.deref.ensures.value c.in-Err.ensures.absent in
    (rw c.put_at.ensures.value (insert_whole c.self.inside.numbers.items c.in-Err.at c.args.number c.self.invariant.0 c.requires gap).1, omega (arith, c.put_at.ensures.kept, c.self.invariant.1))

pub returns-in-Err : goal.returns-in-Err
returns-in-Err c =
    let gap : IsGap c.self.inside.numbers.items c.args.number c.in-Err.at = subst (λ xs. IsGap xs c.args.number c.in-Err.at) c.deref.ensures.value c.in-Err.ensures.absent in
    c.put_at.ensures.value ∙ (insert_whole c.self.inside.numbers.items c.in-Err.at c.args.number c.self.invariant.0 c.requires gap).0 ∙ ap (put_in c.args.number) c.self.view_is

pub returns-in_default : goal.returns-in_default
returns-in_default c =
    let found = c.in_default.ensures.found in
    let rising : IsRising 0 1024 c.args.self.now = subst (IsRising 0 1024) c.self.view_is c.self.invariant.0 in
    let es = c.deref.ensures.value ∙ c.self.view_is in
    sym (put_there 0 1024 c.args.self.now c.in_default.field-0 c.args.number rising (rw es at found.0) (rw es at found.1))
