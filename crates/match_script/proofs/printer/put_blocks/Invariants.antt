use Rattle.std.proofs.Common.{◌≡◌, ◌++◌, take}
use Rattle.std.specs.String.{string_bytes}
use Rattle.match_script.proofs.Joining.{blocks_text}
use Rattle.match_script.proofs.printer.put_blocks.Given as goal

abbrev pub invariant-loop-block : goal.invariant-loop-block
invariant-loop-block l = string_bytes l.out ≡ string_bytes l.fn.out ++ blocks_text (take l.block-index l.blocks)
