use Rattle.std.proofs.Common.{ap, sym, arith}
use Rattle.ghost_rows.specs.Kept.{Row}
use Rattle.ghost_rows.proofs.RowLists.{standing_is}
use Rattle.ghost_rows.proofs.slot_rows.Rows.standing.Goals as goal

pub returns : goal.returns
returns c =
    let is = sym (standing_is c.self.inside c.args.self.now c.self.invariant c.self.view_is c.args.slot (omega arith) c.index.result.now c.index.ensures) in
    (ap (λ (r : Row). r.due) is, ap (λ (r : Row). r.turn) is)
