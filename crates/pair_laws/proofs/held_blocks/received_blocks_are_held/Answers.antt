use Rattle.pair_laws.proofs.Delivered.{good}
use Rattle.pair_laws.proofs.ReceivedBlocks.{holds_received}
use Rattle.pair_laws.proofs.held_blocks.received_blocks_are_held.Goals as goal

pub returns : goal.returns
returns c t steps limits fit met honest = holds_received t steps limits (good t limits steps fit met honest)
