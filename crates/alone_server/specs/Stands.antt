-- The tie between a server that serves one client alone and the items that it was fed, the newest first.
use Rattle.std.specs.Prelude.{◌≡◌, ℕ, ◌<◌, ◌≤◌, Bool, true, false, Option, Some, List, ◌∷◌, length, filter}
use Rattle.tn_types.specs.declared.limits.TheConstants.{MAX_BLOCKS, WORLD_MOVE_BITS}
use Rattle.match_script.specs.declared.limits.TheConstants.{MAX_COUNTED_LINES}
use Rattle.match_script.specs.declared.types.BodyLine.TheVariants as script
use Rattle.match_report.specs.declared.told.Told.{Told}
use Rattle.world_rules.specs.Kinds.{match_kinds}
use Rattle.stream_manager.specs.Limits.{Terms, IsConfig}
use Rattle.match_script.specs.Named.{client_named}
use Rattle.own_lists.specs.Own.{OwnItem, Line, Scan}
use Rattle.own_lists.specs.Kept.{kept, undrained}
use Rattle.own_lists.specs.Conditions.{AreOwn, MayFollow}
use Rattle.own_items.specs.client_seat.Stands.{SeatState, StandsFor as SeatStandsFor}
use Rattle.own_items.specs.client_seat.Told.{show_told}
use Rattle.own_items.specs.match_engine.Stands.{IsDirect}
use Rattle.alone_server.specs.declared.server.AloneHeader.{AloneHeader}
use Rattle.alone_server.specs.declared.server.AloneServer.{AloneServer}
use Rattle.alone_server.specs.Periods.{Table, Holds}
use Rattle.alone_server.specs.Telling.{item_told}

-- ---- what it is made with

-- what the header says of the client's connection, in a match
abbrev pub terms_of : AloneHeader → Terms
terms_of h = record {
  config = record { client = h.client; life = h.life; size = h.size; version = h.version; move_bits = WORLD_MOVE_BITS };
  kinds = match_kinds;
  blocks = h.blocks;
}

-- the header has the ranges of a match
pub record HeaderFits (h : AloneHeader) : Type 0 where
  pub config : IsConfig (terms_of h).config
  pub blocks : length h.blocks ≤ MAX_BLOCKS

-- ---- what it is fed

-- the items of which no more than a limit are fed: scans, and packs of either end
abbrev pub is_counted : OwnItem → Bool
is_counted (Line (script.Pack c)) = true
is_counted (Line (script.ClientPack c)) = true
is_counted (Scan hides nears shows) = true
is_counted item = false

abbrev pub counted_in : List OwnItem → ℕ
counted_in items = length (filter is_counted items)

-- its connection and what it holds of shown periods, after these items
pub record Serves (c : ℕ) (seat : SeatState) (x : Table) (t : Terms) (items : List OwnItem) : Type 0 where
  pub own : AreOwn t items
  pub config : IsConfig t.config
  pub move_bits : t.config.move_bits ≡ WORLD_MOVE_BITS
  pub kinds : t.kinds ≡ match_kinds
  pub client : t.config.client ≡ c
  pub course : SeatStandsFor seat t (kept t items).course
  pub keeps : seat.pair.keeps_all ≡ true
  pub periods : Holds x (kept t items)

abbrev pub table_of : AloneServer → Table
table_of a = record { shows = a.shows; periods = a.periods.items }

abbrev pub ServesBy : AloneServer → Terms → List OwnItem → Type 0
ServesBy a t items = Serves a.client a.seat (table_of a) t items

pub record StandsFor (a : AloneServer) (t : Terms) (items : List OwnItem) : Type 0 where
  pub serves : ServesBy a t items
  pub counted : a.counted ≡ counted_in items

-- it stands for some items, which this one may follow, and which were not too many
pub record MayFeed (a : AloneServer) (item : OwnItem) : Type 0 where
  pub terms : Terms
  pub items : List OwnItem
  pub stands : StandsFor a terms items
  pub follows : MayFollow terms (kept terms items) item
  pub few : a.counted < MAX_COUNTED_LINES

-- the same of its connection and of what it holds
pub record MayServe (a : AloneServer) (item : OwnItem) : Type 0 where
  pub terms : Terms
  pub items : List OwnItem
  pub serves : ServesBy a terms items
  pub follows : MayFollow terms (kept terms items) item
  pub few : counted_in items < MAX_COUNTED_LINES

-- ---- what it does

-- for all items that the old server stood for, and that this one may follow, the new one stands for them with this one
abbrev pub Feeds : AloneServer → OwnItem → AloneServer → Type 0
Feeds old item new =
    (t : Terms) (items : List OwnItem) → StandsFor old t items → MayFollow t (kept t items) item → StandsFor new t (item ∷ items)

abbrev pub Goes : AloneServer → OwnItem → AloneServer → Type 0
Goes old item new =
    (t : Terms) (items : List OwnItem) → ServesBy old t items → MayFollow t (kept t items) item → ServesBy new t (item ∷ items)

-- ---- what it tells

-- a line that is done on the connection alone names the client
abbrev pub IsFor : ℕ → OwnItem → Type 0
IsFor c (Line line) = IsDirect line → client_named line ≡ Some c
IsFor c item = Unit {0}

-- for all items that it stood for, it tells that of the next one
abbrev pub Tells : AloneServer → OwnItem → Option Told → Type 0
Tells a item told =
    (t : Terms) (items : List OwnItem) → ServesBy a t items → IsFor t.config.client item → told ≡ item_told t (kept t items) item

-- it stands for some items
pub record MayShow (a : AloneServer) : Type 0 where
  pub terms : Terms
  pub items : List OwnItem
  pub serves : ServesBy a terms items

-- for all items that it stands for, this is what the client has
abbrev pub Shows : AloneServer → Told → Type 0
Shows a told =
    (t : Terms) (items : List OwnItem) → ServesBy a t items
    → told ≡ show_told t (kept t items).course t.config.client (undrained (kept t items))
