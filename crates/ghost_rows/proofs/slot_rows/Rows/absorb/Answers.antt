use Rattle.std.proofs.Common.{refl, get_or, [], arith, bit_or}
use Rattle.ghost_rows.specs.Kept.{row_at, IsAbsorbed}
use Rattle.ghost_rows.specs.declared.slot_rows.Standing.{Standing}
use Rattle.ghost_rows.proofs.RowLists.{standing_is, standing_put}
use Rattle.ghost_rows.proofs.RowSteps.{absorbed_row}
use Rattle.ghost_rows.proofs.slot_rows.Rows.absorb.Goals as goal

pub returns : goal.returns
returns c =
    let v = c.self.inside in
    let i = c.args.slot in
    let old = c.args.self.now in
    let s : Standing = c.index_mut.result.now in
    let last = get_or v.lasts.items i 0 in
    let kept = get_or v.carriers.items i [] in
    let was = standing_is v old c.self.invariant c.self.view_is i (omega arith) s c.index_mut.ensures.value in
    standing_put v old c.self.invariant c.self.view_is i (omega arith) (record s { due = bit_or s.due c.args.bits }) last 0 kept [] refl refl _ refl
    (IsAbsorbed c.args.bits (row_at old i)) (rw was (absorbed_row s last kept c.args.bits))
