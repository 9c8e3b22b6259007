-- A client and a server over a network that repeats, loses and delays what was sent: each datagram is named by its
-- place among all that were sent that way. Steps stand the newest first.
use Rattle.std.specs.Prelude.{ℕ, ◌≡◌, ◌≤◌, List, [], ◌∷◌, ◌++◌, length, slice_get, Option, Some, None}
use Rattle.tn_types.specs.declared.moves.MoveBits.{MoveBits}
use Rattle.move_manager.specs.Sending as sending
use Rattle.tn_types.specs.Prefix.{IsPrefixOf}
use Rattle.move_manager.specs.Sending.{Packet, packet_of, sampled_of}
use Rattle.move_manager.specs.Accepting as accepting
use Rattle.move_manager.specs.Accepting.{accepted_of}

pub data Step : Type 0 where
  Sample : MoveBits → Step
  ClientPack : Step
  Pack : Step
  Up : (k room : ℕ) → Step
  Down : (k : ℕ) → Step

-- the two ends' logs, the packets sent up and the counts told down, the oldest first
pub record Ends : Type 0 where
  pub client : List sending.SenderEvent
  pub server : List accepting.ReceiverEvent
  pub up : List Packet
  pub down : List ℕ

abbrev pub came_up : ℕ → Option Packet → Ends → Ends
came_up room None e = e
came_up room (Some p) e = record e { server = accepting.Took p room ∷ e.server }

abbrev pub came_down : Option ℕ → Ends → Ends
came_down None e = e
came_down (Some n) e = record e { client = sending.Acked n ∷ e.client }

abbrev pub happens : ℕ → Step → Ends → Ends
happens life (Sample m) e = record e { client = sending.Sampled m ∷ e.client }
happens life ClientPack e = record e { up = e.up ++ packet_of e.client ∷ [] }
happens life Pack e = record e { down = e.down ++ length (accepted_of life e.server) ∷ [] }
happens life (Up k room) e = came_up room (slice_get e.up k) e
happens life (Down k) e = came_down (slice_get e.down k) e

abbrev pub history : ℕ → List Step → Ends
history life [] = record { client = []; server = []; up = []; down = [] }
history life (step ∷ steps) = happens life step (history life steps)

-- ---- what holds of every history

-- the accepted moves are the first of those sampled
abbrev pub AcceptsInOrder : ℕ → Ends → Type 0
AcceptsInOrder life e = IsPrefixOf (accepted_of life e.server) (sampled_of e.client)

-- no packet that was sent begins behind the next move
abbrev pub LeavesNoGap : ℕ → Ends → Type 0
LeavesNoGap life e = (k : ℕ) (p : Packet) → slice_get e.up k ≡ Some p → p.first ≤ length (accepted_of life e.server)

-- no count that was told is above the moves sampled
abbrev pub TellsNoneAhead : Ends → Type 0
TellsNoneAhead e = (k n : ℕ) → slice_get e.down k ≡ Some n → n ≤ length (sampled_of e.client)
