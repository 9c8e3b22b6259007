use Rattle.std.proofs.Common.{refl, arith}
use Rattle.ghost_rows.specs.declared.slot_rows.Standing.{Standing}
use Rattle.ghost_rows.specs.Kept.{IsFresh}
use Rattle.ghost_rows.proofs.RowLists.{row_put}
use Rattle.ghost_rows.proofs.RowSteps.{fresh_row, zeros}
use Rattle.ghost_rows.proofs.slot_rows.Rows.begin.Goals as goal

pub returns : goal.returns
returns c =
    let s : Standing = record { due = 65535; turn = c.args.turn } in
    row_put c.self.inside c.args.self.now c.self.invariant c.self.view_is c.args.slot (omega arith) s 0 _ _ refl (IsFresh c.args.turn) (fresh_row s 0 _ refl refl zeros)
