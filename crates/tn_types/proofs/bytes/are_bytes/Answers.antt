use Rattle.std.proofs.Common.{arith}
use Rattle.tn_types.proofs.ByteLists as laws
use Rattle.tn_types.proofs.bytes.are_bytes.Goals as goal

pub returns : goal.returns
returns c = laws.are_bytes c.args.bytes.now (λ i. omega (arith, c.type_inv.bytes i))
