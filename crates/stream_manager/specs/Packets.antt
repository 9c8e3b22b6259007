-- What a client shows by the packets that it took alone, the newest first: its horizon, its blocks, its copies and what it
-- delivered do not depend on what it sent. So whoever is given the same packets, as a viewer is, shows the same.
use Rattle.std.specs.Prelude.{◌≡◌, ℕ, List, [], ◌∷◌, map}
use Rattle.tn_types.specs.declared.choices.Class.{Class}
use Rattle.wire_format.specs.declared.blocks.BlockItem.{BlockItem}
use Rattle.wire_format.specs.declared.events.EventItem.{EventItem}
use Rattle.wire_format.specs.declared.ghosts.GhostItem.{GhostItem}
use Rattle.wire_format.specs.declared.server.ServerPacket.{ServerPacket}
use Rattle.notify_window.specs.Log.{horizon_of}
use Rattle.event_manager.specs.Receiving.{delivered_of}
use Rattle.stream_manager.specs.End.{window_log, came_of, delivered_at}
use Rattle.stream_manager.specs.Client.{ClientEvent, Posted, Sampled, Packed, Pinged, Took, client_end, blocks_came, ghosts_came, control_at}

-- the packets that a client took
abbrev pub packets_at : List ClientEvent → List ServerPacket
packets_at [] = []
packets_at (Posted class payload ∷ log) = packets_at log
packets_at (Sampled m ∷ log) = packets_at log
packets_at (Packed p ∷ log) = packets_at log
packets_at (Pinged head ∷ log) = packets_at log
packets_at (Took p ∷ log) = p ∷ packets_at log

-- packets as all that happened at a client
abbrev pub took : List ServerPacket → List ClientEvent
took packets = map Took packets

-- the greatest number that came
abbrev pub horizon_seen : List ServerPacket → ℕ
horizon_seen packets = horizon_of (window_log (client_end (took packets)))

-- the blocks, the events and the ghosts that came, the newest first
abbrev pub blocks_seen : List ServerPacket → List BlockItem
blocks_seen packets = blocks_came (took packets)

abbrev pub events_seen : List ServerPacket → List EventItem
events_seen packets = came_of (client_end (took packets))

abbrev pub ghosts_seen : List ServerPacket → List GhostItem
ghosts_seen packets = ghosts_came (took packets)

-- what was delivered, the oldest first
abbrev pub delivered_to : List ServerPacket → List (Class × List ℕ)
delivered_to packets = delivered_of (events_seen packets)

-- what a client shows is what its packets show
pub record ShowsAlike (log : List ClientEvent) : Type 0 where
  pub horizon : horizon_seen (packets_at log) ≡ horizon_of (window_log (client_end log))
  pub blocks : blocks_seen (packets_at log) ≡ blocks_came log
  pub events : events_seen (packets_at log) ≡ came_of (client_end log)
  pub ghosts : ghosts_seen (packets_at log) ≡ ghosts_came log
  pub delivered : delivered_to (packets_at log) ≡ delivered_at (client_end log)
  pub control : control_at (took (packets_at log)) ≡ control_at log
