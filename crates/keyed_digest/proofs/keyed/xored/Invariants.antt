use Rattle.std.proofs.Common.{◌≡◌, ◌++◌, take, drop, map}
use Rattle.std.specs.Prelude.{bit_xor}
use Rattle.keyed_digest.proofs.keyed.xored.Given as goal

abbrev pub invariant-bytes : goal.invariant-bytes
invariant-bytes l = l.mixed ≡ map (bit_xor l.byte) (take l.i l.block) ++ drop l.i l.block
