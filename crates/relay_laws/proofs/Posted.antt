-- What a spectator's server took of the relay's posts is the first of what was delivered to the relay.
use Rattle.std.proofs.Common.{◌≡◌, ℕ, Bool, true, false, not, ◌||◌, List, [], ◌∷◌, ◌++◌, map, if◌then◌else◌, refl, sym, ◌∙◌, ap, subst, append_assoc}
use Rattle.std.proofs.lemmas.List.{append-nil}
use Rattle.std.specs.Result.{is_ok}
use Rattle.tn_types.specs.Prefix.{IsPrefixOf}
use Rattle.tn_types.specs.declared.choices.Class.TheVariants.{Guaranteed}
use Rattle.client_scope.specs.declared.period.Near.{Near}
use Rattle.stream_manager.specs.End.{EndEvent}
use Rattle.stream_manager.specs.Limits.{Terms}
use Rattle.stream_manager.specs.Server as server
use Rattle.stream_manager.specs.Server.{ServerEvent, server_end, posted_at_server}
use Rattle.pair_core.specs.History.{PairStep, Pack, ClientPack, Down, Up, history}
use Rattle.pair_copies.specs.pair_laws.Laws.{posted_at}
use Rattle.match_script.specs.declared.types.BodyLine.{BodyLine}
use Rattle.match_script.specs.declared.types.BodyLine.TheVariants as script
use Rattle.own_lists.specs.Own.{OwnShow, OwnWrite, OwnItem, Line, Scan, Tick}
use Rattle.own_lists.specs.Course.{Course, room_in}
use Rattle.own_lists.specs.Kept.{kept, journal, drains_of, reads_of}
use Rattle.own_lists.proofs.Meeting.{scan_journal}
use Rattle.own_lists.proofs.KeptValues.{wrote_course}
use Rattle.match_laws.proofs.WordsSteps.{posted_down_same, scan_ends}
use Rattle.relay_model.specs.Watching.{WatchEvent, Took, Scans, Own, watched, copy_at}
use Rattle.relay_model.specs.Items.{posting, is_stopped, items_of, news_by, shown_of, hidden_of, writes_of, hide_item, write_item, show_item}
use Rattle.relay_model.specs.Laws.{AreSpectators, IsSpectators}
use Rattle.relay_model.proofs.Posting.{delivers-more}
use Rattle.relay_laws.proofs.Fine.{came}

module _ (t : Terms) where
  -- what the server took of the posts that stand in steps, and in items
  abbrev took_in : List PairStep → List (List ℕ)
  took_in steps = posted_at (server_end (history t steps).server)

  abbrev taken : List OwnItem → List (List ℕ)
  taken items = took_in (journal t items)

  -- ---- items that post nothing

  scan_same : (hides : List ℕ) (nears : List Near) (shows : List OwnShow) (items : List OwnItem)
      → taken (Scan hides nears shows ∷ items) ≡ taken items
  scan_same hides nears shows items =
      ap took_in (scan_journal hides nears shows (kept t items))
      ∙ ap (λ (e : List EndEvent × List EndEvent). posted_at e.0) (scan_ends t hides nears (map (λ (s : OwnShow). s.how) shows) (journal t items))

  tick_same : (writes : List OwnWrite) (count : ℕ) (items : List OwnItem) → taken (Tick writes count ∷ items) ≡ taken items
  tick_same writes count items = ap (λ (c : Course). took_in c.steps) (wrote_course t writes (kept t items))

  line_same : (line : BodyLine) (items : List OwnItem) → IsSpectators line → taken (Line line ∷ items) ≡ taken items
  line_same (script.Pack c) items is = posted_down_same t (Pack (drains_of t (kept t items)) (reads_of t (kept t items))) (journal t items) tt
  line_same (script.ClientPack c) items is = posted_down_same t ClientPack (journal t items) tt
  line_same (script.Down c k) items is = posted_down_same t (Down k) (journal t items) tt
  line_same (script.Up c k) items is = posted_down_same t (Up k (room_in t (kept t items).course)) (journal t items) tt
  line_same (script.Show c) items is = refl
  line_same (script.Post c class payload) items is = absurd is
  line_same (script.ClientPost c class payload) items is = absurd is
  line_same (script.Scan c) items is = absurd is
  line_same (script.Raw c bytes) items is = absurd is
  line_same (script.Move c m) items is = absurd is
  line_same script.Tick items is = absurd is
  line_same script.World items is = absurd is

  -- ---- what was taken

  -- the first of these, and all of them where no post was refused
  pub record AreTaken (items : List OwnItem) (events : List (List ℕ)) : Type 0 where
    pub front : IsPrefixOf (taken items) events
    pub whole : is_stopped t items ≡ false → taken items ≡ events

  same_taken : (items more : List OwnItem) (events : List (List ℕ)) → taken more ≡ taken items
      → (is_stopped t more ≡ false → is_stopped t items ≡ false) → AreTaken items events → AreTaken more events
  same_taken items more events same kept h = record {
    front = subst (λ (l : List (List ℕ)). IsPrefixOf l events) (sym same) h.front;
    whole = λ e. same ∙ h.whole (kept e);
  }

  abbrev log_of : List OwnItem → List ServerEvent
  log_of items = (history t (journal t items)).server

  abbrev with_post : List ServerEvent → List ℕ → Bool → List (List ℕ)
  with_post s v b = posted_at (server_end (if b then server.Posted Guaranteed v ∷ s else s))

  abbrev one_more : List ℕ → List OwnItem → Bool → List OwnItem
  one_more v items b = if b then items else Line (script.Post t.config.client Guaranteed v) ∷ items

  front_with : (s : List ServerEvent) (v : List ℕ) (events : List (List ℕ)) (b : Bool) → posted_at (server_end s) ≡ events
      → IsPrefixOf (with_post s v b) (events ++ v ∷ [])
  front_with s v events true e = ([], append-nil (posted_at (server_end s) ++ v ∷ []) ∙ ap (λ (l : List (List ℕ)). l ++ v ∷ []) e)
  front_with s v events false e = (v ∷ [], ap (λ (l : List (List ℕ)). l ++ v ∷ []) e)

  whole_with : (s : List ServerEvent) (v : List ℕ) (events : List (List ℕ)) (b stopped : Bool) → posted_at (server_end s) ≡ events
      → not b || stopped ≡ false → with_post s v b ≡ events ++ v ∷ []
  whole_with s v events true stopped e ok = ap (λ (l : List (List ℕ)). l ++ v ∷ []) e
  whole_with s v events false stopped e ok = cc

  more_taken : (v : List ℕ) (items : List OwnItem) (events : List (List ℕ)) (b : Bool) → is_stopped t items ≡ b
      → AreTaken items events → AreTaken (one_more v items b) (events ++ v ∷ [])
  more_taken v items events true is h = record {
    front = (h.front.0 ++ v ∷ [], sym (append_assoc (taken items) h.front.0 (v ∷ [])) ∙ ap (λ (l : List (List ℕ)). l ++ v ∷ []) h.front.1);
    whole = λ e. cc;
  }
  more_taken v items events false is h = record {
    front = front_with (log_of items) v events (is_ok (posted_at_server t.config (log_of items))) (h.whole is);
    whole = λ e. whole_with (log_of items) v events (is_ok (posted_at_server t.config (log_of items))) (is_stopped t items) (h.whole is) e;
  }

  posting_takes : (vs : List (List ℕ)) (items : List OwnItem) (events : List (List ℕ)) → AreTaken items events
      → AreTaken (posting t vs items) (events ++ vs)
  posting_takes [] items events h = subst (λ (l : List (List ℕ)). AreTaken items l) (sym (append-nil events)) h
  posting_takes (v ∷ vs) items events h =
      subst (λ (l : List (List ℕ)). AreTaken (posting t (v ∷ vs) items) l) (append_assoc events (v ∷ []) vs)
      (posting_takes vs (one_more v items (is_stopped t items)) (events ++ v ∷ []) (more_taken v items events (is_stopped t items) refl h))

  -- no line of a spectator is a refused post
  line_stops_none : (line : BodyLine) (items : List OwnItem) → IsSpectators line → is_stopped t (Line line ∷ items) ≡ false → is_stopped t items ≡ false
  line_stops_none (script.Pack c) items is e = e
  line_stops_none (script.ClientPack c) items is e = e
  line_stops_none (script.Down c k) items is e = e
  line_stops_none (script.Up c k) items is e = e
  line_stops_none (script.Show c) items is e = e
  line_stops_none (script.Post c class payload) items is e = absurd is
  line_stops_none (script.ClientPost c class payload) items is e = absurd is
  line_stops_none (script.Scan c) items is e = absurd is
  line_stops_none (script.Raw c bytes) items is e = absurd is
  line_stops_none (script.Move c m) items is e = absurd is
  line_stops_none script.Tick items is e = absurd is
  line_stops_none script.World items is e = absurd is

  pub are_taken : (events : List WatchEvent) → AreSpectators events → AreTaken (items_of t events) (came t events)
  are_taken [] own = record { front = ([], refl); whole = λ e. refl }
  are_taken (Took p ∷ events) own =
      let items = items_of t events in
      let hides = hidden_of (copy_at (Took p ∷ events)) (watched events) in
      let writes = writes_of t.kinds (watched events) (copy_at events) (copy_at (Took p ∷ events)) in
      let hidden = hide_item p events ∷ items in
      let written = write_item t.kinds p events ∷ hidden in
      let before : AreTaken written (came t events) =
      same_taken hidden written (came t events) (tick_same writes 0 hidden) (λ e. e)
      (same_taken items hidden (came t events) (scan_same hides [] [] items) (λ e. e) (are_taken events own)) in
      subst (λ (l : List (List ℕ)). AreTaken (items_of t (Took p ∷ events)) l) (sym (delivers-more p events))
      (posting_takes (news_by p events) written (came t events) before)
  are_taken (Scans ∷ events) own =
      let items = items_of t events in
      same_taken items (show_item t.kinds events ∷ items) (came t events) (scan_same [] [] (shown_of t.kinds (copy_at events) (watched events)) items) (λ e. e)
      (are_taken events own)
  are_taken (Own line ∷ events) own =
      let items = items_of t events in
      same_taken items (Line line ∷ items) (came t events) (line_same line items own.0) (line_stops_none line items own.0) (are_taken events own.1)
