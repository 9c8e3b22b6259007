-- What is said of a block that is refused.
use Rattle.std.specs.Prelude.{ℕ, List, ◌++◌, codes}
use Rattle.std.specs.Fmt.{decimal}
use Rattle.datablocks.specs.declared.receiver.BlockFault.{BlockFault}
use Rattle.datablocks.specs.declared.receiver.BlockFault.TheVariants.{BlockDiffers}

abbrev pub block_fault_text : BlockFault → List ℕ
block_fault_text (BlockDiffers number) = codes "block " ++ decimal number
