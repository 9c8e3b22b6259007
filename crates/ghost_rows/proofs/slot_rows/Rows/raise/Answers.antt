use Rattle.std.proofs.Common.{refl, arith, bit_or, List, ℕ}
use Rattle.ghost_rows.specs.declared.slot_rows.Standing.{Standing}
use Rattle.ghost_rows.specs.Kept.{row_at, IsRaised}
use Rattle.ghost_rows.proofs.RowLists.{row_is, standing_put}
use Rattle.ghost_rows.proofs.RowSteps.{raised_row}
use Rattle.ghost_rows.proofs.slot_rows.Rows.raise.Goals as goal

pub returns : goal.returns
returns c =
    let v = c.self.inside in
    let i = c.args.slot in
    let old = c.args.self.now in
    let s : Standing = c.index_mut-standing.result.now in
    let last : ℕ = c.index.result.now in
    let kept : List ℕ = c.index-2.result.now in
    let was = row_is v old c.self.invariant c.self.view_is i (omega arith) s last last kept kept c.index_mut-standing.ensures.value c.index.ensures c.index-2.ensures in
    standing_put v old c.self.invariant c.self.view_is i (omega arith) (record s { due = bit_or s.due c.last_of.result }) last last kept kept c.index.ensures c.index-2.ensures _ refl
    (IsRaised c.args.seq (row_at old i)) (rw was (raised_row s last kept c.args.seq c.last_of.result c.last_of.ensures))
