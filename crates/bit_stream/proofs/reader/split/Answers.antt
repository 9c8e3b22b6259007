use Rattle.std.proofs.Common.{arith}
use Rattle.std.proofs.lemmas.Nat.{one_shl, and_mask}
use Rattle.bit_stream.proofs.reader.split.Goals as goal

pub returns-clause-low : goal.returns-clause-low
returns-clause-low c =
    let s = one_shl c.args.width 64 (omega arith) in
    rw s (and_mask c.args.pending c.args.width)
