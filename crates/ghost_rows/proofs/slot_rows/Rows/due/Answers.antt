use Rattle.std.proofs.Common.{ap, sym, arith}
use Rattle.ghost_rows.specs.Kept.{Row}
use Rattle.ghost_rows.proofs.RowLists.{standing_is}
use Rattle.ghost_rows.proofs.slot_rows.Rows.due.Goals as goal

pub returns : goal.returns
returns c =
    ap (λ (r : Row). r.due) (sym (standing_is c.self.inside c.args.self.now c.self.invariant c.self.view_is c.args.slot (omega arith) c.index.result.now c.index.ensures))
