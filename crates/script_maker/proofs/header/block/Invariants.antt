use Rattle.std.proofs.Common.{◌≡◌, replicate}
use Rattle.script_maker.proofs.header.block.Given as goal

abbrev pub invariant-bytes : goal.invariant-bytes
invariant-bytes l = l.bytes ≡ replicate l.counter l.value
