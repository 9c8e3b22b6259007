-- What a client has of the ghosts, by what happened at both ends. Each of its copies is of the period that holds the copy's
-- slot at the server, with that period's kind and block, and each field at the level of the last packet that the client
-- processed and that carries the field; and what a newer packet speaks of is there.
use Rattle.std.specs.Prelude.{◌≡◌, ℕ, ◌<◌, ◌≤◌, ◌==◌, List, length, slice_index_or, Some, None, IsSome, count_by}
use Rattle.std.specs.List.{AllByRecursion}
use Rattle.wire_format.specs.declared.ghosts.GhostItem.{GhostItem}
use Rattle.wire_format.specs.declared.ghosts.GhostItem.TheVariants.{Kill, Create, Update}
use Rattle.wire_format.specs.declared.server.ServerBody.{ServerBody}
use Rattle.wire_format.specs.Ghosts.{slot_named}
use Rattle.ghost_model.specs.Ghosts.{slot}
use Rattle.stream_manager.specs.ghost_masks.Plan.{kind_of, block_of, fields_of}
use Rattle.ghost_client.specs.declared.copy.GhostCopy.{GhostCopy}
use Rattle.ghost_client.specs.Copies.{copy_of}
use Rattle.ghost_pair.specs.Levels.{processed_level}
use Rattle.stream_manager.specs.Limits.{Terms}
use Rattle.stream_manager.specs.Server.{ServerEvent, ghost_log}
use Rattle.stream_manager.specs.Client.{ClientEvent, ghosts_came}
use Rattle.ghost_logs.specs.Sent.{sent_items, WasPacked, horizon_at, processed_at}

-- the copy in a slot is that of a period which holds the slot
pub record IsOfHolder (t : Terms) (s : List ServerEvent) (c : List ClientEvent) (at : ℕ) (copy : GhostCopy) : Type 0 where
  pub period : ℕ
  pub holds : slot (ghost_log s) period ≡ Some at
  pub kind : copy.kind ≡ kind_of (ghost_log s) period
  pub block : copy.block ≡ block_of (ghost_log s) period
  pub fields : length copy.levels ≡ length (fields_of t.kinds copy.kind)
  pub levels : (f : ℕ) → f < length copy.levels
      → processed_level period f (processed_at c) (sent_items s) ≡ Some (slice_index_or copy.levels f 0)

abbrev pub CopiesAgree : Terms → List ServerEvent → List ClientEvent → Type 0
CopiesAgree t s c = (at : ℕ) (copy : GhostCopy) → copy_of (ghosts_came c) at ≡ Some copy → IsOfHolder t s c at copy

-- what an item finds at the client: a kill and an update a copy in their slot, an update one of its kind, a create none
abbrev pub Finds : List GhostItem → GhostItem → Type 0
Finds came (Kill slot) = IsSome (copy_of came slot)
Finds came (Create slot kind block levels) = copy_of came slot ≡ None
Finds came (Update slot kind mask levels) = (copy : GhostCopy) × (copy_of came slot ≡ Some copy) × (copy.kind ≡ kind)

-- no slot is named twice
abbrev pub NameOnce : List GhostItem → Type 0
NameOnce items = (slot : ℕ) → count_by (λ item. slot_named item == slot) items ≤ 1

-- each data packet that is newer than what came finds what it speaks of
pub record FitsCopies (c : List ClientEvent) (p : ServerBody) : Type 0 where
  pub each : AllByRecursion (Finds (ghosts_came c)) p.ghosts
  pub once : NameOnce p.ghosts

abbrev pub PacketsFit : List ServerEvent → List ClientEvent → Type 0
PacketsFit s c = (p : ServerBody) → WasPacked p s → horizon_at c < p.head.seq → FitsCopies c p
