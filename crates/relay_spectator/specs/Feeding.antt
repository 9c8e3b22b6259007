-- What the parts of a spectator's calls need and do; only they are said with these words.
use Rattle.std.specs.Prelude.{◌≡◌, ℕ, ◌+◌, ◌<◌, List, [], ◌∷◌}
use Rattle.match_script.specs.declared.limits.TheConstants.{MAX_COUNTED_LINES}
use Rattle.wire_format.specs.declared.server.ServerPacket.{ServerPacket}
use Rattle.own_lists.specs.pair_core.stream_manager.Limits.{Terms}
use Rattle.own_lists.specs.Own.{OwnWrite, OwnItem, Scan, Tick}
use Rattle.own_lists.specs.Kept.{kept}
use Rattle.own_lists.specs.Conditions.{MayFollow}
use Rattle.relay_model.specs.Watching.{WatchEvent, Took, Watched, watched, copy_at}
use Rattle.relay_model.specs.Items.{posting, hide_item, write_item, items_of}
use Rattle.alone_server.specs.declared.server.AloneServer.{AloneServer}
use Rattle.alone_server.specs.Stands.{StandsFor, counted_in}
use Rattle.relay_board.specs.declared.board.Change.{Change}
use Rattle.relay_spectator.specs.declared.spectator.Spectator.{Spectator}
use Rattle.relay_board.specs.Changes.{killed_between, changed_between}
use Rattle.relay_spectator.specs.Spectators.{Holds, Follows, AreMet}

-- ---- what ends, and what is written

abbrev pub both_items : List ℕ → List OwnWrite → List OwnItem → List OwnItem
both_items hides writes items = Tick writes 0 ∷ Scan hides [] [] ∷ items

-- a server that may be fed both, after these items
pub record MayEnd (s : AloneServer) (t : Terms) (items : List OwnItem) (hides : List ℕ) (writes : List OwnWrite) : Type 0 where
  pub stands : StandsFor s t items
  pub hide : MayFollow t (kept t items) (Scan hides [] [])
  pub write : MayFollow t (kept t (Scan hides [] [] ∷ items)) (Tick writes 0)
  pub few : counted_in items + 1 < MAX_COUNTED_LINES

pub record MayEndSome (s : AloneServer) (hides : List ℕ) (writes : List OwnWrite) : Type 0 where
  pub terms : Terms
  pub items : List OwnItem
  pub may : MayEnd s terms items hides writes

abbrev pub Ends : AloneServer → List ℕ → List OwnWrite → AloneServer → Type 0
Ends old hides writes new =
    (t : Terms) (items : List OwnItem) → MayEnd old t items hides writes → StandsFor new t (both_items hides writes items)

-- ---- a packet without what it delivered

pub record IsChanged (t : Terms) (p : ServerPacket) (events : List WatchEvent) (killed : List ℕ) (changed : List Change) : Type 0 where
  pub kills : killed ≡ killed_between (copy_at events) (copy_at (Took p ∷ events))
  pub changes : changed ≡ changed_between t.kinds (copy_at events) (copy_at (Took p ∷ events))
  pub met : AreMet t (Took p ∷ events)

pub record MayChange (s : Spectator) (killed : List ℕ) (changed : List Change) : Type 0 where
  pub terms : Terms
  pub packet : ServerPacket
  pub events : List WatchEvent
  pub follows : Follows s terms events
  pub is : IsChanged terms packet events killed changed

abbrev pub changed_items : Terms → ServerPacket → List WatchEvent → List OwnItem
changed_items t p events = write_item t.kinds p events ∷ hide_item p events ∷ items_of t events

abbrev pub Changes : Spectator → List ℕ → List Change → Spectator → Type 0
Changes old killed changed new =
    (t : Terms) (p : ServerPacket) (events : List WatchEvent) → Follows old t events → IsChanged t p events killed changed
    → Holds new t (changed_items t p events) (watched (Took p ∷ events))

-- ---- posts

pub record MayPost (s : Spectator) : Type 0 where
  pub terms : Terms
  pub items : List OwnItem
  pub slots : Watched
  pub holds : Holds s terms items slots
  pub few : counted_in items < MAX_COUNTED_LINES

abbrev pub Posts : Spectator → List (List ℕ) → Spectator → Type 0
Posts old payloads new =
    (t : Terms) (items : List OwnItem) (w : Watched) → Holds old t items w → Holds new t (posting t payloads items) w
