-- The tie between a spectator and what it met: its server was fed the items that the relay makes of that, its watch is that of the
-- relay's copies, and it posts no more where a post was refused.
use Rattle.std.specs.Prelude.{◌≡◌, ℕ, ◌<◌, not, Bool, true, false, List, [], ◌∷◌, length, filter_map, Option, Some, None}
use Rattle.std.specs.Result.{is_ok}
use Rattle.tn_types.specs.declared.choices.Class.{Class}
use Rattle.tn_types.specs.declared.choices.Class.TheVariants.{Guaranteed, Loose}
use Rattle.match_script.specs.declared.limits.TheConstants.{MAX_COUNTED_LINES}
use Rattle.quantised_fields.specs.Kinds.{table_fault}
use Rattle.wire_format.specs.declared.server.ServerPacket.{ServerPacket}
use Rattle.ghost_client.specs.State.{State, copy_in}
use Rattle.match_script.specs.declared.types.BodyLine.{BodyLine}
use Rattle.match_script.specs.declared.types.BodyLine.TheVariants as script
use Rattle.match_report.specs.declared.told.Told.{Told}
use Rattle.match_report.specs.declared.told.Told.TheVariants as told_as
use Rattle.match_report.specs.declared.told.EventTold.{EventTold}
use Rattle.own_lists.specs.pair_core.stream_manager.Limits.{Terms}
use Rattle.own_lists.specs.Own.{OwnItem}
use Rattle.own_lists.specs.Kept.{kept, undrained}
use Rattle.relay_model.specs.Watching.{WatchEvent, Took, Scans, Own, Watched, watched, copy_at}
use Rattle.relay_model.specs.Items.{shown_of, news_by, is_stopped, items_of}
use Rattle.relay_model.specs.Laws.{AreCopies, AreSpectators}
use Rattle.alone_server.specs.Stands.{StandsFor}
use Rattle.alone_server.specs.Telling.{line_told}
use Rattle.alone_server.specs.own_items.client_seat.Told.{scan_told, show_told}
use Rattle.relay_board.specs.declared.board.Change.{Change}
use Rattle.relay_spectator.specs.declared.spectator.Spectator.{Spectator}
use Rattle.relay_board.specs.Changes.{killed_between, changed_between}
use Rattle.relay_spectator.specs.Watches.{IsWatch}

-- ---- what is told

abbrev pub is_guaranteed : Class → Bool
is_guaranteed Guaranteed = true
is_guaranteed Loose = false

-- the payload of a guaranteed event
abbrev pub guaranteed_payload : Class → List ℕ → Option (List ℕ)
guaranteed_payload Guaranteed payload = Some payload
guaranteed_payload Loose payload = None

-- the payloads of the guaranteed ones of these events
abbrev pub payloads_of : List EventTold → List (List ℕ)
payloads_of events = filter_map (λ event. guaranteed_payload event.class event.payload) events

-- it tells that a post was refused
abbrev pub is_refused : Option Told → Bool
is_refused (Some (told_as.Post by c number)) = not (is_ok number)
is_refused other = false

-- what a spectator's lines tell, by what it met before
abbrev pub scan_tells : Terms → List WatchEvent → Told
scan_tells t events = scan_told t.config.client [] [] (shown_of t.kinds (copy_at events) (watched events))

abbrev pub line_tells : Terms → List WatchEvent → BodyLine → Option Told
line_tells t events line = line_told t (kept t (items_of t events)) line

abbrev pub show_tells : Terms → List WatchEvent → Told
show_tells t events = let k = kept t (items_of t events) in show_told t k.course t.config.client (undrained k)

-- a line of which something is told, and which its connection does by itself
abbrev pub IsAsked : BodyLine → Type 0
IsAsked (script.Pack c) = Unit {0}
IsAsked (script.ClientPack c) = Unit {0}
IsAsked (script.Down c k) = Unit {0}
IsAsked (script.Up c k) = Unit {0}
IsAsked other = ⊥

-- ---- the tie

-- a spectator whose server was fed these items, where these slots are watched
pub record Holds (s : Spectator) (t : Terms) (items : List OwnItem) (w : Watched) : Type 0 where
  pub number : t.config.client ≡ s.number
  pub server : StandsFor s.server t items
  pub stopped : s.stopped ≡ is_stopped t items
  pub watch : IsWatch s.watch w

-- a spectator that met these
abbrev pub Follows : Spectator → Terms → List WatchEvent → Type 0
Follows s t events = Holds s t (items_of t events) (watched events)

-- what a relay sees to of what a spectator meets
pub record AreMet (t : Terms) (events : List WatchEvent) : Type 0 where
  pub table : table_fault t.kinds ≡ None
  pub copies : AreCopies t.kinds events
  pub own : AreSpectators events
  pub few : length events < MAX_COUNTED_LINES

-- ---- a packet

-- this is what the packet changed of the copies, and what it delivered
pub record IsToldOf (t : Terms) (p : ServerPacket) (events : List WatchEvent) (killed : List ℕ) (changed : List Change) (news : List EventTold) : Type 0 where
  pub kills : killed ≡ killed_between (copy_at events) (copy_at (Took p ∷ events))
  pub changes : changed ≡ changed_between t.kinds (copy_at events) (copy_at (Took p ∷ events))
  pub delivers : payloads_of news ≡ news_by p events

-- for all that the spectator met, it met the packet too
abbrev pub Takes : Spectator → List ℕ → List Change → List EventTold → Spectator → Type 0
Takes old killed changed news new =
    (t : Terms) (p : ServerPacket) (events : List WatchEvent) → Follows old t events → IsToldOf t p events killed changed news
    → AreMet t (Took p ∷ events) → Follows new t (Took p ∷ events)

-- there is something that it met, and a packet of which it may be told this
pub record MayTake (s : Spectator) (killed : List ℕ) (changed : List Change) (news : List EventTold) : Type 0 where
  pub terms : Terms
  pub packet : ServerPacket
  pub events : List WatchEvent
  pub follows : Follows s terms events
  pub told : IsToldOf terms packet events killed changed news
  pub met : AreMet terms (Took packet ∷ events)

-- ---- a scan

-- these are the copies that the relay's client shows of what it took
pub record AreShown (t : Terms) (events : List WatchEvent) (copies : State) : Type 0 where
  pub kinds : copies.kinds ≡ t.kinds
  pub slots : copy_in copies.slots ≡ copy_at events

pub record MayScan (s : Spectator) (copies : State) : Type 0 where
  pub terms : Terms
  pub events : List WatchEvent
  pub follows : Follows s terms events
  pub shown : AreShown terms events copies
  pub met : AreMet terms (Scans ∷ events)

-- for all that the spectator met, of which these are the copies, it met the scan too
abbrev pub ScansOf : Spectator → State → Spectator → Type 0
ScansOf old copies new =
    (t : Terms) (events : List WatchEvent) → Follows old t events → AreShown t events copies → AreMet t (Scans ∷ events)
    → Follows new t (Scans ∷ events)

abbrev pub TellsScan : Spectator → State → Told → Type 0
TellsScan old copies told =
    (t : Terms) (events : List WatchEvent) → Follows old t events → AreShown t events copies → AreMet t (Scans ∷ events)
    → told ≡ scan_tells t events

-- ---- other lines

pub record MayDo (s : Spectator) (line : BodyLine) : Type 0 where
  pub terms : Terms
  pub events : List WatchEvent
  pub follows : Follows s terms events
  pub met : AreMet terms (Own line ∷ events)

abbrev pub Does : Spectator → BodyLine → Spectator → Type 0
Does old line new =
    (t : Terms) (events : List WatchEvent) → Follows old t events → AreMet t (Own line ∷ events) → Follows new t (Own line ∷ events)

abbrev pub TellsLine : Spectator → BodyLine → Told → Type 0
TellsLine old line told =
    (t : Terms) (events : List WatchEvent) → Follows old t events → AreMet t (Own line ∷ events) → Some told ≡ line_tells t events line

-- ---- what it has

pub record MayShow (s : Spectator) : Type 0 where
  pub terms : Terms
  pub events : List WatchEvent
  pub follows : Follows s terms events

abbrev pub TellsShow : Spectator → Told → Type 0
TellsShow s told = (t : Terms) (events : List WatchEvent) → Follows s t events → told ≡ show_tells t events

abbrev pub Stays : Spectator → Spectator → Type 0
Stays old new = (t : Terms) (events : List WatchEvent) → Follows old t events → Follows new t events
