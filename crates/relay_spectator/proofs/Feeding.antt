-- What a spectator's server may be fed, and what it stands for then.
use Rattle.std.proofs.Common.{◌≡◌, ◌∙◌, ℕ, ◌+◌, ◌<◌, ◌≤◌, List, [], ◌∷◌, length, Option, None, if◌then◌else◌, refl, sym, ap, subst, arith}
use Rattle.std.specs.List.{filter_map}
use Rattle.tn_types.specs.declared.limits.TheConstants.{MAX_SLOTS}
use Rattle.wire_format.specs.declared.server.ServerPacket.{ServerPacket}
use Rattle.ghost_client.specs.declared.copy.GhostCopy.{GhostCopy}
use Rattle.ghost_client.specs.State.{State, copy_in}
use Rattle.client_scope.specs.declared.period.Near.{Near}
use Rattle.match_script.specs.declared.types.BodyLine.{BodyLine}
use Rattle.match_script.specs.declared.types.BodyLine.TheVariants as script
use Rattle.own_lists.specs.pair_core.stream_manager.Limits.{Terms}
use Rattle.own_lists.specs.Own.{OwnShow, OwnWrite, OwnItem, Line, Scan, Tick, StandsAlone}
use Rattle.own_lists.specs.Kept.{kept}
use Rattle.own_lists.specs.Conditions.{MayFollow}
use Rattle.relay_model.specs.Watching.{WatchEvent, Took, Scans, Watched, all_watched, watched, copy_at}
use Rattle.relay_model.specs.Items.{shown_of, hidden_of, writes_of, is_stopped, hide_item, write_item, show_item, items_of}
use Rattle.relay_model.proofs.Following.{few_shows}
use Rattle.relay_model.proofs.Following.{items_may_follow}
use Rattle.relay_board.specs.declared.board.Change.{Change}
use Rattle.alone_server.specs.declared.server.AloneServer.{AloneServer}
use Rattle.alone_server.specs.Stands.{StandsFor, counted_in}
use Rattle.alone_server.specs.Periods.{is_among}
use Rattle.alone_server.proofs.Feeding.{counted_more}
use Rattle.relay_spectator.specs.declared.spectator.Spectator.{Spectator}
use Rattle.relay_spectator.specs.Watches.{WatchState, period_at, write_at, IsWatch}
use Rattle.relay_spectator.specs.Spectators.{Follows, AreMet, AreShown, IsAsked}
use Rattle.relay_spectator.specs.Feeding.{both_items, MayEnd, IsChanged, changed_items}
use Rattle.relay_spectator.proofs.Changing.{hides_are, writes_are, left_at, own_both, watched_is_there, watched_below}
use Rattle.relay_spectator.proofs.Posting.{few_counted}

-- ---- other lines

pub stands_alone : (line : BodyLine) → IsAsked line → StandsAlone line
stands_alone script.Tick a = absurd a
stands_alone (script.Scan c) a = absurd a
stands_alone (script.Post c class payload) a = absurd a
stands_alone (script.ClientPost c class payload) a = absurd a
stands_alone (script.Pack c) a = tt
stands_alone (script.ClientPack c) a = tt
stands_alone (script.Down c k) a = tt
stands_alone (script.Up c k) a = tt
stands_alone (script.Raw c bytes) a = absurd a
stands_alone (script.Move c m) a = absurd a
stands_alone (script.Show c) a = absurd a
stands_alone script.World a = absurd a

pub not_refused : (t : Terms) (items : List OwnItem) (line : BodyLine) → IsAsked line → is_stopped t (Line line ∷ items) ≡ is_stopped t items
not_refused t items script.Tick a = absurd a
not_refused t items (script.Scan c) a = absurd a
not_refused t items (script.Post c class payload) a = absurd a
not_refused t items (script.ClientPost c class payload) a = absurd a
not_refused t items (script.Pack c) a = refl
not_refused t items (script.ClientPack c) a = refl
not_refused t items (script.Down c k) a = refl
not_refused t items (script.Up c k) a = refl
not_refused t items (script.Raw c bytes) a = absurd a
not_refused t items (script.Move c m) a = absurd a
not_refused t items (script.Show c) a = absurd a
not_refused t items script.World a = absurd a

-- ---- counts

pub few_changed : (t : Terms) (p : ServerPacket) (events : List WatchEvent) → counted_in (changed_items t p events) ≤ length events + 1
few_changed t p events =
    let rest = few_counted t events in
    let write = counted_more (write_item t.kinds p events) (hide_item p events ∷ items_of t events) in
    let hide = counted_more (hide_item p events) (items_of t events) in
    omega (arith, rest, write, hide)

-- ---- a packet

module _ (s : Spectator) (t : Terms) (p : ServerPacket) (events : List WatchEvent) (killed : List ℕ) (changed : List Change)
    (follows : Follows s t events) (is : IsChanged t p events killed changed) where
  abbrev now : ℕ → Option GhostCopy
  now slot = copy_at (Took p ∷ events) slot

  abbrev w : Watched
  w = watched events

  pub hides_is : (hides : List ℕ) → hides ≡ filter_map (period_at s.watch.periods) killed → hides ≡ hidden_of now w
  hides_is hides e =
      e ∙ ap (λ (l : List ℕ). filter_map (period_at s.watch.periods) l) is.kills
      ∙ hides_are (copy_at events) now w (watched_is_there t p events is.met) s.watch.periods follows.watch.periods

  pub writes_is : (writes : List OwnWrite) → writes ≡ filter_map (write_at s.watch.periods) changed → writes ≡ writes_of t.kinds w (copy_at events) now
  writes_is writes e =
      e ∙ ap (λ (l : List Change). filter_map (write_at s.watch.periods) l) is.changes
      ∙ writes_are (copy_at events) now w (watched_is_there t p events is.met) s.watch.periods follows.watch.periods t.kinds

  module _ (hides : List ℕ) (writes : List OwnWrite) (h : hides ≡ filter_map (period_at s.watch.periods) killed)
      (k : writes ≡ filter_map (write_at s.watch.periods) changed) where
    hide_same : Scan hides [] [] ≡ hide_item p events
    hide_same = ap (λ (l : List ℕ). Scan l [] []) (hides_is hides h)

    write_same : Tick writes 0 ≡ write_item t.kinds p events
    write_same = ap (λ (l : List OwnWrite). Tick l 0) (writes_is writes k)

    pub may_end : MayEnd s.server t (items_of t events) hides writes
    may_end =
        let own = own_both t p events is.met in
        let few = few_counted t events in
        record {
          stands = follows.server;
          hide = subst (MayFollow t (kept t (items_of t events))) (sym hide_same) own.1.0;
          write = let both : MayFollow t (kept t (Scan hides [] [] ∷ items_of t events)) (Tick writes 0) =
              subst (λ (x : OwnItem × OwnItem). MayFollow t (kept t (x.0 ∷ items_of t events)) x.1) (sym (λ j. (hide_same j, write_same j))) own.0 in both;
          few = let lt = is.met.few in omega (arith, few, lt);
        }

    pub ended : (new : AloneServer) → StandsFor new t (both_items hides writes (items_of t events)) → StandsFor new t (changed_items t p events)
    ended new = subst (λ (l : List OwnItem). StandsFor new t l) (λ j. write_same j ∷ hide_same j ∷ items_of t events)

  pub left : (new : WatchState) → ((slot : ℕ) → period_at new.periods slot ≡ (if is_among slot killed then None else period_at s.watch.periods slot))
      → new.shows ≡ s.watch.shows → IsWatch new (watched (Took p ∷ events))
  left new periods shows = record {
    periods = λ slot. periods slot
        ∙ ap (λ (l : List ℕ). if is_among slot l then None else period_at s.watch.periods slot) is.kills
        ∙ left_at (copy_at events) now w (watched_is_there t p events is.met) s.watch.periods follows.watch.periods (watched_below t p events is.met) slot;
    shows = shows ∙ follows.watch.shows;
  }

-- ---- a scan

module _ (s : Spectator) (t : Terms) (events : List WatchEvent) (copies : State) (follows : Follows s t events) (shown : AreShown t events copies)
    (met : AreMet t (Scans ∷ events)) where
  pub room : s.watch.shows + MAX_SLOTS < 4294967296
  room = let few = few_shows events in let lt = met.few in omega (arith, follows.watch.shows, few, lt)

  shows_same : (shows : List OwnShow) → shows ≡ shown_of copies.kinds (copy_in copies.slots) (watched events) → shows ≡ shown_of t.kinds (copy_at events) (watched events)
  shows_same shows e = e ∙ (λ j. shown_of (shown.kinds j) (shown.slots j) (watched events))

  module _ (hides : List ℕ) (nears : List Near) (shows : List OwnShow) (h : hides ≡ []) (n : nears ≡ [])
      (k : shows ≡ shown_of copies.kinds (copy_in copies.slots) (watched events)) where
    pub item_same : Scan hides nears shows ≡ show_item t.kinds events
    item_same = λ j. Scan (h j) (n j) (shows_same shows k j)

    pub may_show : MayFollow t (kept t (items_of t events)) (Scan hides nears shows)
    may_show =
        let own = items_may_follow t (Scans ∷ events) met.table met.copies met.own (let lt = met.few in omega (arith, lt)) in
        subst (MayFollow t (kept t (items_of t events))) (sym item_same) own.0

    pub shown_then : (new : AloneServer) → StandsFor new t (Scan hides nears shows ∷ items_of t events) → StandsFor new t (items_of t (Scans ∷ events))
    shown_then new = subst (λ (i : OwnItem). StandsFor new t (i ∷ items_of t events)) item_same

  pub watched_then : (new : WatchState) → IsWatch new (all_watched (copy_in copies.slots) (watched events)) → IsWatch new (watched (Scans ∷ events))
  watched_then new = subst (λ (c : ℕ → Option GhostCopy). IsWatch new (all_watched c (watched events))) shown.slots
