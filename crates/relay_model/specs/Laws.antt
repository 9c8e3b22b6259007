-- What a relay tells a spectator's server is an own list: each item may follow on those before it. It rests on three facts of the copies
-- of the relay's client, which its connection keeps: their kinds, blocks and levels are in range, a packet that leaves a copy in its
-- slot leaves its kind, and no slot beyond the last has one.
use Rattle.std.specs.Prelude.{◌≡◌, ℕ, ◌<◌, ◌≤◌, ◌*◌, List, [], ◌∷◌, length, Option, Some, None}
use Rattle.tn_types.specs.declared.limits.TheConstants.{MAX_SLOTS, MAX_BLOCKS, MAX_SHOWS}
use Rattle.quantised_fields.specs.declared.kind.Kind.{Kind}
use Rattle.quantised_fields.specs.Kinds.{table_fault}
use Rattle.ghost_client.specs.declared.copy.GhostCopy.{GhostCopy}
use Rattle.ghost_client.specs.Copies.{copy_of}
use Rattle.ghost_client.specs.State.{IsInRange}
use Rattle.wire_format.specs.declared.server.ServerPacket.{ServerPacket}
use Rattle.stream_manager.specs.Limits.{Terms}
use Rattle.match_script.specs.declared.types.BodyLine.{BodyLine}
use Rattle.match_script.specs.declared.types.BodyLine.TheVariants as script
use Rattle.stream_manager.specs.Packets.{packets_at, ghosts_seen}
use Rattle.pair_core.specs.History.{PairStep, history}
use Rattle.own_lists.specs.Conditions.{AreOwn}
use Rattle.relay_model.specs.Watching.{WatchEvent, Took, Scans, Own, copy_at}
use Rattle.relay_model.specs.Items.{items_of}

-- a copy that may be shown on
pub record IsCopy (kinds : List Kind) (copy : GhostCopy) : Type 0 where
  pub range : IsInRange kinds copy
  pub block : copy.block < MAX_BLOCKS

-- copies, by their slots, and what a packet makes of them
pub record IsChange (kinds : List Kind) (old new : ℕ → Option GhostCopy) : Type 0 where
  pub fits : (slot : ℕ) (copy : GhostCopy) → new slot ≡ Some copy → IsCopy kinds copy
  pub within : (slot : ℕ) → MAX_SLOTS ≤ slot → new slot ≡ None
  pub kept : (slot : ℕ) (was is : GhostCopy) → old slot ≡ Some was → new slot ≡ Some is → is.kind ≡ was.kind

abbrev pub AreCopies : List Kind → List WatchEvent → Type 0
AreCopies kinds [] = Unit {0}
AreCopies kinds (Took p ∷ events) = IsChange kinds (copy_at events) (copy_at (Took p ∷ events)) × AreCopies kinds events
AreCopies kinds (Scans ∷ events) = AreCopies kinds events
AreCopies kinds (Own line ∷ events) = AreCopies kinds events

-- a line that a spectator may have, but for its scans
abbrev pub IsSpectators : BodyLine → Type 0
IsSpectators (script.Pack c) = Unit {0}
IsSpectators (script.ClientPack c) = Unit {0}
IsSpectators (script.Down c k) = Unit {0}
IsSpectators (script.Up c k) = Unit {0}
IsSpectators (script.Show c) = Unit {0}
IsSpectators other = ⊥

abbrev pub AreSpectators : List WatchEvent → Type 0
AreSpectators [] = Unit {0}
AreSpectators (Took p ∷ events) = AreSpectators events
AreSpectators (Scans ∷ events) = AreSpectators events
AreSpectators (Own line ∷ events) = IsSpectators line × AreSpectators events

-- of these packets, the newest first, each makes such a change of the copies that those before it show
abbrev pub AreChanges : List Kind → List ServerPacket → Type 0
AreChanges kinds [] = Unit {0}
AreChanges kinds (p ∷ packets) =
    IsChange kinds (copy_of (ghosts_seen packets)) (copy_of (ghosts_seen (p ∷ packets))) × AreChanges kinds packets

-- the packets that a client of a connection takes are such
abbrev pub TakenAreChanges : Type 0
TakenAreChanges =
    (t : Terms) (steps : List PairStep) → table_fault t.kinds ≡ None → AreChanges t.kinds (packets_at (history t steps).client)

abbrev pub ItemsMayFollow : Type 0
ItemsMayFollow =
    (t : Terms) (events : List WatchEvent) → table_fault t.kinds ≡ None → AreCopies t.kinds events → AreSpectators events
    → MAX_SLOTS * length events < MAX_SHOWS → AreOwn t (items_of t events)
