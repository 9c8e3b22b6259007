-- Two ends of a connection that are joined by a network: the server sends what its rules say, the client took only data
-- packets that were sent, each with a greater number than those before, and each verdict of the server is what the client
-- did. The network may lose, repeat and delay whatever it likes.
use Rattle.std.specs.Prelude.{◌≡◌, ℕ, ℤ, ◌<◌, ◌≤◌, List, [], ◌∷◌}
use Rattle.tn_types.specs.BitWords.{bit_of}
use Rattle.notify_window.specs.Log.{fate_of_bit}
use Rattle.wire_format.specs.declared.server.ServerBody.{ServerBody}
use Rattle.wire_format.specs.declared.server.ServerPacket.TheVariants as down
use Rattle.stream_manager.specs.ghost_masks.Carried.{all_carried, AreValues}
use Rattle.stream_manager.specs.Limits.{Terms}
use Rattle.stream_manager.specs.End.{fates, judged_at}
use Rattle.stream_manager.specs.Server as server
use Rattle.stream_manager.specs.Server.{ServerEvent, server_end, ghost_log, planned, data_body, choices_at}
use Rattle.stream_manager.specs.Client as client
use Rattle.stream_manager.specs.Client.{ClientEvent}
use Rattle.ghost_logs.specs.Sent.{WasPacked, horizon_at, processed_at}

-- a data packet with some values of the fields that the planned ghosts carry
pub record IsMadePacket (t : Terms) (log : List ServerEvent) (p : ServerBody) : Type 0 where
  pub values : List ℤ
  pub fit : AreValues (all_carried t.kinds (ghost_log log) (planned log)) values
  pub value : p ≡ data_body t log values

-- each plan and each data packet is the one that the rules give
abbrev pub IsMade : Terms → List ServerEvent → Type 0
IsMade t [] = Unit {0}
IsMade t (server.Planned choices ∷ log) = (choices ≡ choices_at t log) × IsMade t log
IsMade t (server.Packed p ∷ log) = IsMadePacket t log p × IsMade t log
IsMade t (server.Posted class payload ∷ log) = IsMade t log
IsMade t (server.Scoped change ∷ log) = IsMade t log
IsMade t (server.Pinged head ∷ log) = IsMade t log
IsMade t (server.Took p room ∷ log) = IsMade t log

-- each data packet that came was sent, and is newer than what came before
abbrev pub CameFrom : List ServerEvent → List ClientEvent → Type 0
CameFrom s [] = Unit {0}
CameFrom s (client.Took (down.Body p) ∷ log) = WasPacked p s × (horizon_at log < p.head.seq) × CameFrom s log
CameFrom s (client.Took (down.Ping head) ∷ log) = CameFrom s log
CameFrom s (client.Posted class payload ∷ log) = CameFrom s log
CameFrom s (client.Sampled m ∷ log) = CameFrom s log
CameFrom s (client.Packed p ∷ log) = CameFrom s log
CameFrom s (client.Pinged head ∷ log) = CameFrom s log

-- a packet that has a verdict is Received exactly where the client processed it
abbrev pub AreJudgedRight : List ServerEvent → List ClientEvent → Type 0
AreJudgedRight s c = (n : ℕ) → 0 < n → n ≤ judged_at (server_end s)
    → fates (server_end s) n ≡ fate_of_bit (bit_of (processed_at c n))

pub record AreJoined (t : Terms) (s : List ServerEvent) (c : List ClientEvent) : Type 0 where
  pub made : IsMade t s
  pub came : CameFrom s c
  pub judged : AreJudgedRight s c
