use Rattle.std.proofs.Common.{length, ap, arith}
use Rattle.kept_pair.proofs.Cutting.{cut-length}
use Rattle.kept_pair.proofs.step_list.StepList.len.Goals as goal

pub returns-clause-count : goal.returns-clause-count
returns-clause-count c =
    let count = cut-length 0 0 c.self.inside.entries.items c.self.inside.drains.items c.self.inside.reads.items in
    let view = ap (λ s. length s.list) c.self.view_is in
    let own = c.len.ensures in let ok = c.self.inside.entries.ok in
    omega arith
