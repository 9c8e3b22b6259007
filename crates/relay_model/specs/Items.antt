-- What a relay tells a spectator's server, as an own list like that of a client of a match: a packet of the relay's client ends the
-- periods of the copies that it kills, by rising slot, writes each field whose level it changed, and posts the guaranteed events
-- that it delivers; a scan begins the periods of copies that aren't watched. Values are those that the relay's copies show.
use Rattle.std.specs.Prelude.{ℕ, ℤ, pos, ◌||◌, ◌==◌, Bool, false, not, List, [], ◌∷◌, map, filter_map, length, drop, slice_index_or, if◌then◌else◌, Option, None, Some, is_some, unwrap_or}
use Rattle.std.specs.Option.{option_map}
use Rattle.std.specs.List.{flat_map, range_with_len}
use Rattle.std.specs.Result.{is_ok}
use Rattle.tn_types.specs.declared.choices.Class.TheVariants.{Guaranteed}
use Rattle.tn_types.specs.declared.limits.TheConstants.{MAX_SLOTS}
use Rattle.quantised_fields.specs.declared.kind.Kind.{Kind}
use Rattle.wire_format.specs.declared.server.ServerPacket.{ServerPacket}
use Rattle.ghost_model.specs.Words.{upto}
use Rattle.ghost_client.specs.declared.copy.GhostCopy.{GhostCopy}
use Rattle.ghost_client.specs.State.{field_value}
use Rattle.event_manager.specs.Posted.{guaranteed_of}
use Rattle.stream_manager.specs.Limits.{Terms}
use Rattle.stream_manager.specs.Server.{posted_at_server}
use Rattle.stream_manager.specs.Packets.{delivered_to}
use Rattle.pair_core.specs.History.{history}
use Rattle.match_script.specs.declared.types.BodyLine.TheVariants as script
use Rattle.own_lists.specs.Own.{OwnShow, OwnWrite, OwnItem, Line, Scan, Tick}
use Rattle.own_lists.specs.Kept.{journal}
use Rattle.relay_model.specs.Watching.{WatchEvent, Took, Scans, Own, Watched, packets_in, copy_at, is_unwatched, watched}

-- ---- what begins and ends

-- the value that a copy shows of a field, and those of all its fields
abbrev pub shown_at : List Kind → GhostCopy → ℕ → ℤ
shown_at kinds copy f = unwrap_or (field_value kinds f copy) (pos 0)

abbrev pub values_of : List Kind → GhostCopy → List ℤ
values_of kinds copy = map (shown_at kinds copy) (range_with_len 0 (length copy.levels))

abbrev pub show_of : List Kind → GhostCopy → OwnShow
show_of kinds copy = record {
  how = record { kind = copy.kind; block = copy.block; level = 0; control = false };
  values = values_of kinds copy;
}

-- of these copies those that are not watched, by rising slot
abbrev pub shown_of : List Kind → (ℕ → Option GhostCopy) → Watched → List OwnShow
shown_of kinds copies w =
    filter_map (λ slot. if is_unwatched copies w slot then option_map (show_of kinds) (copies slot) else None) (upto MAX_SLOTS)

-- the periods in whose slots there is no copy now, by rising slot
abbrev pub hidden_of : (ℕ → Option GhostCopy) → Watched → List ℕ
hidden_of copies w = filter_map (λ slot. if is_some (copies slot) then None else w.period slot) (upto MAX_SLOTS)

-- ---- what is written

-- the field has another level than before
abbrev pub is_changed : GhostCopy → GhostCopy → ℕ → Bool
is_changed old new f = not (slice_index_or old.levels f 0 == slice_index_or new.levels f 0)

abbrev pub write_of : List Kind → ℕ → GhostCopy → GhostCopy → ℕ → Option OwnWrite
write_of kinds n old new f =
    if is_changed old new f then Some (record { n = n; field = f; value = shown_at kinds new f }) else None

-- of a slot that is watched, where both copies are there
abbrev pub writes_between : List Kind → Option ℕ → Option GhostCopy → Option GhostCopy → List OwnWrite
writes_between kinds (Some n) (Some old) (Some new) = filter_map (write_of kinds n old new) (upto (length new.levels))
writes_between kinds n old new = []

-- the fields that have another level than before, by rising slot and field
abbrev pub writes_of : List Kind → Watched → (ℕ → Option GhostCopy) → (ℕ → Option GhostCopy) → List OwnWrite
writes_of kinds w old new = flat_map (λ slot. writes_between kinds (w.period slot) (old slot) (new slot)) (upto MAX_SLOTS)

-- ---- what is posted

-- the guaranteed events that a packet newly delivers at the relay
abbrev pub news_by : ServerPacket → List WatchEvent → List (List ℕ)
news_by p events =
    guaranteed_of (drop (length (delivered_to (packets_in events))) (delivered_to (packets_in (Took p ∷ events))))

-- a post of the list is refused by what is before it
abbrev pub is_refused_post : Terms → List OwnItem → OwnItem → Bool
is_refused_post t items (Line (script.Post c Guaranteed payload)) = not (is_ok (posted_at_server t.config (history t (journal t items)).server))
is_refused_post t items item = false

abbrev pub is_stopped : Terms → List OwnItem → Bool
is_stopped t [] = false
is_stopped t (item ∷ items) = is_refused_post t items item || is_stopped t items

-- behind a refused post nothing more is posted
abbrev pub posting : Terms → List (List ℕ) → List OwnItem → List OwnItem
posting t [] items = items
posting t (payload ∷ payloads) items =
    posting t payloads (if is_stopped t items then items else Line (script.Post t.config.client Guaranteed payload) ∷ items)

-- ---- the own list

-- what a packet hides, then what it writes
abbrev pub hide_item : ServerPacket → List WatchEvent → OwnItem
hide_item p events = Scan (hidden_of (copy_at (Took p ∷ events)) (watched events)) [] []

abbrev pub write_item : List Kind → ServerPacket → List WatchEvent → OwnItem
write_item kinds p events = Tick (writes_of kinds (watched events) (copy_at events) (copy_at (Took p ∷ events))) 0

abbrev pub show_item : List Kind → List WatchEvent → OwnItem
show_item kinds events = Scan [] [] (shown_of kinds (copy_at events) (watched events))

-- the newest item first
abbrev pub items_of : Terms → List WatchEvent → List OwnItem
items_of t [] = []
items_of t (Took p ∷ events) = posting t (news_by p events) (write_item t.kinds p events ∷ hide_item p events ∷ items_of t events)
items_of t (Scans ∷ events) = show_item t.kinds events ∷ items_of t events
items_of t (Own line ∷ events) = Line line ∷ items_of t events
