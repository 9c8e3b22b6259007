-- The tie between a server that serves one client alone and the items that it was fed, the newest first, and what it writes of them.
use Rattle.std.specs.Prelude.{ℕ, if◌then◌else◌, Option, List, [], ◌∷◌}
use Rattle.match_report.specs.Text.{report_line}
use Rattle.own_lists.specs.pair_steps.stream_manager.Limits.{Terms}
use Rattle.own_lists.specs.Own.{OwnItem}
use Rattle.own_lists.specs.Kept.{kept}
use Rattle.own_lists.specs.Conditions.{MayFollow}
use Rattle.alone_server.specs.own_items.client_seat.Told.{pack_told}
use Rattle.alone_server.specs.own_items.match_laws.Laws.{is_own_pack}
use Rattle.alone_server.specs.Stands as server
use Rattle.two_worlds.specs.declared.alone.Alone.{Alone}

abbrev pub ServesBy : Alone → Terms → List OwnItem → Type 0
ServesBy a t items = server.ServesBy a.server t items

abbrev pub StandsFor : Alone → Terms → List OwnItem → Type 0
StandsFor a t items = server.StandsFor a.server t items

-- it stands for some items, which this one may follow, and which were not too many
abbrev pub MayFeed : Alone → OwnItem → Type 0
MayFeed a item = server.MayFeed a.server item

-- for all items that the old server stood for, and that this one may follow, the new one stands for them with this one
abbrev pub Feeds : Alone → OwnItem → Alone → Type 0
Feeds old item new =
    (t : Terms) (items : List OwnItem) → StandsFor old t items → MayFollow t (kept t items) item → StandsFor new t (item ∷ items)

-- the text that an item adds: the report's line of a pack
abbrev pub item_text : Terms → List OwnItem → OwnItem → List ℕ
item_text t items item = if is_own_pack item then report_line (pack_told t (kept t items) t.config.client) else []

-- for all items that it stood for, that text was added, or a front of it
abbrev pub Tells :
    (Option (List ℕ) → Option (List ℕ) → List ℕ → Type 0) → Alone → OwnItem → Option (List ℕ) → Option (List ℕ) → Type 0
Tells adds a item written written' =
    (t : Terms) (items : List OwnItem) → ServesBy a t items → adds written written' (item_text t items item)
