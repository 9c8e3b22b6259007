-- What a spectator of a relay meets, the newest first: the packets that the relay's client took, and the spectator's own lines
-- among them. What the relay has to show is what its client shows of the packets, slot by slot. A slot is watched from the scan
-- that shows its copy until the packet that kills the copy; the stretches are numbered in the order in which scans begin them, and
-- within one scan by rising slot. They are the periods of the spectator's connection.
use Rattle.std.specs.Prelude.{◌≡◌, ℕ, ◌+◌, ◌&&◌, Bool, not, List, [], ◌∷◌, count_by, if◌then◌else◌, Option, None, Some, is_some, refl}
use Rattle.tn_types.specs.declared.limits.TheConstants.{MAX_SLOTS}
use Rattle.wire_format.specs.declared.ghosts.GhostItem.{GhostItem}
use Rattle.wire_format.specs.declared.ghosts.GhostItem.TheVariants.{Create, Kill}
use Rattle.wire_format.specs.declared.server.ServerPacket.{ServerPacket}
use Rattle.wire_format.specs.declared.server.ServerPacket.TheVariants.{Body}
use Rattle.ghost_model.specs.Words.{upto}
use Rattle.ghost_client.specs.declared.copy.GhostCopy.{GhostCopy}
use Rattle.ghost_client.specs.Copies.{copy_of}
use Rattle.stream_manager.specs.Packets.{ghosts_seen}
use Rattle.match_script.specs.declared.types.BodyLine.{BodyLine}

pub data WatchEvent : Type 0 where
  Took : ServerPacket → WatchEvent  -- the relay's client took a packet
  Scans : WatchEvent  -- the copies that the spectator isn't shown are shown
  Own : BodyLine → WatchEvent  -- another line of the spectator, in its plain form

abbrev pub packets_in : List WatchEvent → List ServerPacket
packets_in [] = []
packets_in (Took p ∷ events) = p ∷ packets_in events
packets_in (Scans ∷ events) = packets_in events
packets_in (Own line ∷ events) = packets_in events

-- the relay's copy in a slot
abbrev pub copy_at : List WatchEvent → ℕ → Option GhostCopy
copy_at events slot = copy_of (ghosts_seen (packets_in events)) slot

-- ---- what is watched

-- the period that watches a slot, and how many periods there were, are said of the same list at once
pub record Watched : Type 0 where
  pub period : ℕ → Option ℕ
  pub shows : ℕ

-- of these copies, by their slots, one that no period watches
abbrev pub is_unwatched : (ℕ → Option GhostCopy) → Watched → ℕ → Bool
is_unwatched copies w slot = is_some (copies slot) && not (is_some (w.period slot))

-- how many of them there are in the slots below one
abbrev pub begun_below : (ℕ → Option GhostCopy) → Watched → ℕ → ℕ
begun_below copies w slot = count_by (is_unwatched copies w) (upto slot)

-- a period begins for each of them
abbrev pub all_watched : (ℕ → Option GhostCopy) → Watched → Watched
all_watched copies w = record {
  period = λ slot. if is_unwatched copies w slot then Some (w.shows + begun_below copies w slot) else w.period slot;
  shows = w.shows + begun_below copies w MAX_SLOTS;
}

-- where there is no copy, nothing is watched
abbrev pub left_watched : (ℕ → Option GhostCopy) → Watched → Watched
left_watched copies w = record { period = λ slot. if is_some (copies slot) then w.period slot else None; shows = w.shows }

abbrev pub watched : List WatchEvent → Watched
watched [] = record { period = λ slot. None; shows = 0 }
watched (Took p ∷ events) = left_watched (copy_at (Took p ∷ events)) (watched events)
watched (Scans ∷ events) = all_watched (copy_at events) (watched events)
watched (Own line ∷ events) = watched events

-- ---- an example: copies come in slots 2 and 0 and are shown; the one in slot 0 is killed and comes again, and is shown again

abbrev packet : ℕ → List GhostItem → WatchEvent
packet seq ghosts = Took (Body (record {
  head = record { client = 0; seq = seq; horizon = 0; mask = 0 };
  accepted = 0;
  control = None;
  blocks = [];
  events = [];
  ghosts = ghosts;
}))

two_shown : List WatchEvent
two_shown = Scans ∷ packet 1 (Create 2 5 0 [] ∷ Create 0 5 0 [] ∷ []) ∷ []

by_rising_slot : (watched two_shown).period 2 ≡ Some 1
unfolding two_shown upto
by_rising_slot = refl

killed : (watched (packet 2 (Kill 0 ∷ []) ∷ two_shown)).period 0 ≡ None
unfolding two_shown
killed = refl

shown_again : (watched (Scans ∷ packet 3 (Create 0 5 0 [] ∷ []) ∷ packet 2 (Kill 0 ∷ []) ∷ two_shown)).period 0 ≡ Some 2
unfolding two_shown upto
shown_again = refl
