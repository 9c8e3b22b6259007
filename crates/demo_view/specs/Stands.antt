-- The tie between a viewer and the packets that it took.
use Rattle.std.specs.Prelude.{◌≡◌, ℕ, ◌*◌, ◌≤◌, List, Option}
use Rattle.tn_types.specs.declared.limits.TheConstants.{MAX_LIFE, MAX_PACKET_EVENTS}
use Rattle.std.specs.List.{AllByRecursion}
use Rattle.wire_format.specs.declared.ghosts.GhostItem.{GhostItem}
use Rattle.wire_format.specs.declared.server.ServerPacket.{ServerPacket}
use Rattle.wire_format.specs.Ghosts.{IsGhostInRange}
use Rattle.datablocks.specs.Holding.{StandsFor as BlocksStandFor}
use Rattle.event_manager.specs.ReceiverState.{ReceiverState, event_count}
use Rattle.event_manager.specs.ReceiverStands.{StandsFor as EventsStandFor}
use Rattle.ghost_client.specs.State as copies
use Rattle.ghost_client.specs.StandsFor as copies_stand
use Rattle.stream_manager.specs.Packets.{horizon_seen, blocks_seen, events_seen, ghosts_seen}
use Rattle.demo_view.specs.Viewing.{ViewTerms}

-- what contracts see of a viewer
pub record ViewerState : Type 0 where
  pub client : ℕ
  pub version : ℕ
  pub horizon : ℕ
  pub blocks : List (Option (List ℕ))
  pub events : ReceiverState
  pub copies : copies.State

-- what it was made with
abbrev pub terms_of : ViewerState → ViewTerms
terms_of v = record { client = v.client; version = v.version; kinds = v.copies.kinds }

pub record StandsFor (v : ViewerState) (packets : List ServerPacket) : Type 0 where
  pub horizon : v.horizon ≡ horizon_seen packets
  pub blocks : BlocksStandFor v.blocks (blocks_seen packets)
  pub events : EventsStandFor v.events (events_seen packets)
  pub copies : copies_stand.StandsFor v.copies (ghosts_seen packets)

-- each data packet that came raised the horizon, and brought so many events at most
pub record AreFew (horizon : ℕ) (events : ReceiverState) : Type 0 where
  pub horizon_most : horizon ≤ MAX_LIFE
  pub counted : event_count events ≤ MAX_PACKET_EVENTS * horizon

-- the copies are those of ghosts that came, each in the ranges of the table of kinds
pub record AreSeen (c : copies.State) : Type 0 where
  pub came : List GhostItem
  pub stands : copies_stand.StandsFor c came
  pub ranges : AllByRecursion (IsGhostInRange c.kinds) came
