use Rattle.pair_laws.proofs.Delivered.{good}
use Rattle.pair_laws.proofs.HeldBlocks.{holds_as_given}
use Rattle.pair_laws.proofs.held_blocks.held_blocks_are_as_given.Goals as goal

pub returns : goal.returns
returns c t steps limits fit met honest = holds_as_given t steps limits (good t limits steps fit met honest)
