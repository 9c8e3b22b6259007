use Rattle.std.proofs.Common.{◌≡◌, take}
use Rattle.match_script.proofs.types.copies.Given as goal

abbrev pub invariant-loop-block : goal.invariant-loop-block
invariant-loop-block l = l.all.items ≡ take l.block-index l.blocks
