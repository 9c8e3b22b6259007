-- What is kept of a viewer: all but the place where packets are read and the table of kinds, and of its copies those alone that
-- are there. Each copy is kept as the ghost of a packet that would create it, so what is kept shows what came by the client's own
-- words for ghosts.
use Rattle.std.specs.Prelude.{◌≡◌, ◌<◌, ℕ, List, [], ◌∷◌, Option}
use Rattle.tn_types.specs.declared.limits.TheConstants.{MAX_SLOTS}
use Rattle.quantised_fields.specs.declared.kind.Kind.{Kind}
use Rattle.wire_format.specs.declared.ghosts.GhostItem.{GhostItem}
use Rattle.wire_format.specs.declared.ghosts.GhostItem.TheVariants.{Kill, Create, Update}
use Rattle.wire_format.specs.Ghosts.{IsGhostInRange}
use Rattle.wire_format.specs.declared.server.ServerPacket.{ServerPacket}
use Rattle.event_manager.specs.ReceiverState.{ReceiverState}
use Rattle.ghost_client.specs.StandsFor as copies_stand
use Rattle.demo_view.specs.Stands.{ViewerState, StandsFor}

-- what contracts see of a kept viewer; its creates stand the newest first
pub record KeptState : Type 0 where
  pub client : ℕ
  pub version : ℕ
  pub horizon : ℕ
  pub blocks : List (Option (List ℕ))
  pub events : ReceiverState
  pub creates : List GhostItem

-- creates by these kinds, each of a slot below that of the one before it, and all below a slot
abbrev pub AreCreates : List Kind → ℕ → List GhostItem → Type 0
AreCreates kinds below [] = Unit {0}
AreCreates kinds below (Kill slot ∷ creates) = ⊥
AreCreates kinds below (Create slot kind block levels ∷ creates) =
    (slot < below) × IsGhostInRange kinds (Create slot kind block levels) × AreCreates kinds slot creates
AreCreates kinds below (Update slot kind mask levels ∷ creates) = ⊥

-- this is kept of a viewer
pub record Keeps (v : ViewerState) (k : KeptState) : Type 0 where
  pub client : k.client ≡ v.client
  pub version : k.version ≡ v.version
  pub horizon : k.horizon ≡ v.horizon
  pub blocks : k.blocks ≡ v.blocks
  pub events : k.events ≡ v.events
  pub creates : AreCreates v.copies.kinds MAX_SLOTS k.creates
  pub copies : copies_stand.StandsFor v.copies k.creates

-- a viewer stands for what any viewer stands for of which this is kept
abbrev pub StandsLike : KeptState → ViewerState → Type 0
StandsLike k v = (w : ViewerState) → Keeps w k → (packets : List ServerPacket) → StandsFor w packets → StandsFor v packets
