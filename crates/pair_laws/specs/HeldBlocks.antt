-- The datablocks that a client holds are those that its connection was made with: under each number the same bytes.
-- Those that a Received packet carried are held; of others nothing says that they are.
use Rattle.std.specs.Prelude.{ℕ, ◌≡◌, Bool, true, List, slice_get, is_some, Some}
use Rattle.wire_format.specs.declared.blocks.BlockItem.{BlockItem}
use Rattle.conn_packing.specs.stream_manager.datablocks.Holding.{held_of}
use Rattle.conn_packing.specs.stream_manager.datablocks.Sending.{carriers}
use Rattle.notify_window.specs.Fates.{any_received}
use Rattle.conn_packing.specs.stream_manager.Limits.{Terms}
use Rattle.conn_packing.specs.stream_manager.End.{fates}
use Rattle.conn_packing.specs.stream_manager.Server.{ServerEvent, server_end, block_log}
use Rattle.conn_packing.specs.stream_manager.Client.{blocks_came}
use Rattle.pair_core.specs.History.{PairStep, history}

-- the block of this number has these bytes
abbrev pub IsAsGiven : List (List ℕ) → BlockItem → Type 0
IsAsGiven blocks item = slice_get blocks item.number ≡ Some item.bytes

abbrev pub HoldsBlocksAsGiven : Terms → List PairStep → Type 0
HoldsBlocksAsGiven t steps =
    (b : ℕ) (v : List ℕ) → held_of b (blocks_came (history t steps).client) ≡ Some v → slice_get t.blocks b ≡ Some v

-- a Received packet carries the block
abbrev pub is_received : List ServerEvent → ℕ → Bool
is_received log b = any_received (fates (server_end log)) (carriers b (block_log log))

-- each block that a Received packet carries is held
abbrev pub HoldsReceivedBlocks : Terms → List PairStep → Type 0
HoldsReceivedBlocks t steps =
    (b : ℕ) → is_received (history t steps).server b ≡ true → is_some (held_of b (blocks_came (history t steps).client)) ≡ true
