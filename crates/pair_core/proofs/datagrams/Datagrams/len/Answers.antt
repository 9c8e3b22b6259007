use Rattle.std.proofs.Common.{length, ap, arith}
use Rattle.pair_core.proofs.Flat.{cut-length}
use Rattle.pair_core.proofs.datagrams.Datagrams.len.Goals as goal

pub returns : goal.returns
returns c =
    let count = cut-length 0 c.self.inside.ends.items c.self.inside.bytes.items in
    let view = ap (λ d. length d.list) c.self.view_is in
    let own = c.len.ensures in let ok = c.self.inside.ends.ok in
    omega arith
