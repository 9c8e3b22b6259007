-- The datablocks that copies need. A create is planned only once a packet with its block was received, and what was received
-- is held; so where the client holds what the server counts as received, it holds each block that a copy names.
use Rattle.std.specs.Prelude.{◌≡◌, ℕ, ◌<◌, true, List, is_some, Ok}
use Rattle.wire_format.specs.declared.server.ServerBody.{ServerBody}
use Rattle.stream_manager.specs.datablocks.Holding.{held_of}
use Rattle.stream_manager.specs.datablocks.Sending.{carriers}
use Rattle.notify_window.specs.Fates.{any_received}
use Rattle.stream_manager.specs.End.{fates}
use Rattle.stream_manager.specs.Server.{ServerEvent, server_end, block_log}
use Rattle.stream_manager.specs.Client.{ClientEvent, blocks_came, ghosts_check}
use Rattle.ghost_logs.specs.Sent.{WasPacked, horizon_at}

-- a received packet carries the block
abbrev pub IsReceived : List ServerEvent → ℕ → Type 0
IsReceived s b = any_received (fates (server_end s)) (carriers b (block_log s)) ≡ true

abbrev pub IsHeld : List ClientEvent → ℕ → Type 0
IsHeld c b = is_some (held_of b (blocks_came c)) ≡ true

abbrev pub HoldsReceived : List ServerEvent → List ClientEvent → Type 0
HoldsReceived s c = (b : ℕ) → IsReceived s b → IsHeld c b

-- the ghosts and the control slot of each data packet that is newer than what came are not refused
abbrev pub RefusesNoGhosts : List ServerEvent → List ClientEvent → Type 0
RefusesNoGhosts s c = (p : ServerBody) → WasPacked p s → horizon_at c < p.head.seq → ghosts_check c p ≡ Ok tt
