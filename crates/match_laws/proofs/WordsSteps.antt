-- Which steps of a connection deliver guaranteed events or post them, and that those of scans do neither.
use Rattle.std.proofs.Common.{◌≡◌, ℕ, Bool, true, false, List, [], ◌∷◌, ◌++◌, map, if◌then◌else◌, Option, Some, None, Result, Ok, Err, refl, sym, ap, ◌∙◌, append_assoc, append-nil}
use Rattle.std.specs.Prelude.{slice_get}
use Rattle.std.specs.Result.{is_ok}
use Rattle.tn_types.specs.declared.choices.Class.{Class}
use Rattle.tn_types.specs.declared.choices.Class.TheVariants.{Guaranteed, Loose}
use Rattle.notify_window.specs.declared.SendState.{SendState}
use Rattle.notify_window.specs.declared.SendState.TheVariants.{Held, Worn, Room}
use Rattle.wire_format.specs.declared.events.EventItem.{EventItem}
use Rattle.wire_format.specs.declared.client.ClientPacket.{ClientPacket}
use Rattle.wire_format.specs.declared.server.ServerPacket.{ServerPacket}
use Rattle.event_manager.specs.Posted.{of_guaranteed, guaranteed_of}
use Rattle.event_manager.specs.Receiving.{items_onto, news, delivered_of}
use Rattle.client_scope.specs.declared.period.Near.{Near as NearPeriod}
use Rattle.stream_manager.specs.declared.fault.ArriveFault.{ArriveFault}
use Rattle.stream_manager.specs.declared.fault.ClientFault.{ClientFault}
use Rattle.stream_manager.specs.Limits.{Terms}
use Rattle.stream_manager.specs.End.{EndEvent, delivered_at, with_event}
use Rattle.stream_manager.specs.Server as server
use Rattle.stream_manager.specs.Server.{ServerEvent, server_end, server_state, server_answer, took_at_server, posted_at_server, server_datagrams}
use Rattle.stream_manager.specs.Client as client
use Rattle.stream_manager.specs.Client.{ClientEvent, client_end, client_state, client_answer, took_at_client, posted_at_client, sampled_answer, client_datagrams}
use Rattle.conn_packing.specs.Packs.{absorbing, values_of}
use Rattle.client_seat.specs.pair_core.History.{PairStep, Post, ClientPost, Sample, Pack, ClientPack, Down, Up, Raw, history, server_posts, client_posts, client_gets, server_gets}
use Rattle.client_seat.specs.pair_core.Answers.{client_delivered, server_delivered}
use Rattle.pair_copies.specs.pair_laws.Laws.{posted_at}
use Rattle.conn_packing.proofs.Absorbed.{absorbed-end}
use Rattle.client_seat.specs.own_lists.declared.showing.Showing.{Showing}
use Rattle.client_seat.specs.own_lists.Course.{onto, hide_step, near_step, show_step, scan_steps}

-- ---- the events of an end

pub guaranteed_append : (xs ys : List (Class × List ℕ)) → guaranteed_of (xs ++ ys) ≡ guaranteed_of xs ++ guaranteed_of ys
guaranteed_append [] ys = refl
guaranteed_append (x ∷ xs) ys = ap (of_guaranteed x.0 x.1) (guaranteed_append xs ys) ∙ go x.0
  where
    go : (class : Class) → of_guaranteed class x.1 (guaranteed_of xs ++ guaranteed_of ys) ≡ of_guaranteed class x.1 (guaranteed_of xs) ++ guaranteed_of ys
    go Guaranteed = refl
    go Loose = refl

-- a list with more behind it
abbrev pub GrowsTo : List (Class × List ℕ) → List (Class × List ℕ) → Type 0
GrowsTo old new = (more : List (Class × List ℕ)) × (new ≡ old ++ more)

pub same_list : (old : List (Class × List ℕ)) → GrowsTo old old
same_list old = ([], sym (append-nil old))

-- what comes is delivered behind what was delivered
pub delivers_more : (items came : List EventItem) → GrowsTo (delivered_of came) (delivered_of (items_onto items came))
delivers_more [] came = same_list (delivered_of came)
delivers_more (item ∷ items) came =
    let rest = delivers_more items (item ∷ came) in
    (news item came ++ rest.0, rest.1 ∙ append_assoc (delivered_of came) (news item came) rest.0)

-- ---- the two ends

module _ (t : Terms) where
  abbrev posted_down : List PairStep → List (List ℕ)
  posted_down steps = posted_at (server_end (history t steps).server)

  abbrev posted_up : List PairStep → List (List ℕ)
  posted_up steps = posted_at (client_end (history t steps).client)

  -- ---- what is delivered to the client

  abbrev pub IsNoDown : PairStep → Type 0
  IsNoDown (Down k) = ⊥
  IsNoDown step = Unit {0}

  pub down_same : (step : PairStep) (steps : List PairStep) → IsNoDown step → client_delivered t (step ∷ steps) ≡ client_delivered t steps
  down_same (Down k) steps never = absurd never
  down_same (ClientPost class v) steps never = go class
    where
      u : List ClientEvent
      u = (history t steps).client

      go : (class : Class) → delivered_at (client_end (client_posts t.config class v u)) ≡ delivered_at (client_end u)
      go Loose = refl
      go Guaranteed = by (is_ok (posted_at_client t.config u))
        where
          by : (b : Bool) → delivered_at (client_end (if b then client.Posted Guaranteed v ∷ u else u)) ≡ delivered_at (client_end u)
          by true = refl
          by false = refl
  down_same (Sample m) steps never = go (is_ok (sampled_answer t.config m (history t steps).client))
    where
      u : List ClientEvent
      u = (history t steps).client

      go : (b : Bool) → delivered_at (client_end (if b then client.Sampled m ∷ u else u)) ≡ delivered_at (client_end u)
      go true = refl
      go false = refl
  down_same ClientPack steps never = go (client_state t.config (history t steps).client)
    where
      u : List ClientEvent
      u = (history t steps).client

      go : (state : SendState) → delivered_at (client_end (with_event (client.pack_event t.config u state) u)) ≡ delivered_at (client_end u)
      go Held = refl
      go Worn = refl
      go Room = refl
  down_same step steps never = refl

  -- ---- what is delivered to the server

  abbrev pub IsNoUp : PairStep → Type 0
  IsNoUp (Up k room) = ⊥
  IsNoUp (Raw bytes room) = ⊥
  IsNoUp step = Unit {0}

  pub up_same : (step : PairStep) (steps : List PairStep) → IsNoUp step → server_delivered t (step ∷ steps) ≡ server_delivered t steps
  up_same (Up k room) steps never = absurd never
  up_same (Raw bytes room) steps never = absurd never
  up_same (Post class v) steps never = go class
    where
      s : List ServerEvent
      s = (history t steps).server

      go : (class : Class) → delivered_at (server_end (server_posts t.config class v s)) ≡ delivered_at (server_end s)
      go Loose = refl
      go Guaranteed = by (is_ok (posted_at_server t.config s))
        where
          by : (b : Bool) → delivered_at (server_end (if b then server.Posted Guaranteed v ∷ s else s)) ≡ delivered_at (server_end s)
          by true = refl
          by false = refl
  up_same (Pack drains reads) steps never =
      go (server_state t.config later) ∙ ap delivered_at (absorbed-end drains (history t steps).server)
    where
      later : List ServerEvent
      later = absorbing drains (history t steps).server

      go : (state : SendState) → delivered_at (server_end (server.packed_onto t later (values_of reads) state)) ≡ delivered_at (server_end later)
      go Held = refl
      go Worn = refl
      go Room = refl
  up_same step steps never = refl

  -- ---- what is posted at the server

  abbrev pub PostsNone : PairStep → Type 0
  PostsNone (Post Guaranteed v) = ⊥
  PostsNone step = Unit {0}

  gets-none : (room : ℕ) (o : Option (List ℕ)) (s : List ServerEvent)
      → posted_at (server_end (server_gets t.config room o s)) ≡ posted_at (server_end s)
  gets-none room None s = refl
  gets-none room (Some bytes) s = go (server_answer t.config s bytes)
    where
      go : (a : Result ClientPacket ArriveFault) → posted_at (server_end (took_at_server s room a)) ≡ posted_at (server_end s)
      go (Ok p) = refl
      go (Err e) = refl

  pub posted_down_same : (step : PairStep) (steps : List PairStep) → PostsNone step → posted_down (step ∷ steps) ≡ posted_down steps
  posted_down_same (Post Guaranteed v) steps never = absurd never
  posted_down_same (Pack drains reads) steps never =
      go (server_state t.config later) ∙ ap posted_at (absorbed-end drains (history t steps).server)
    where
      later : List ServerEvent
      later = absorbing drains (history t steps).server

      go : (state : SendState) → posted_at (server_end (server.packed_onto t later (values_of reads) state)) ≡ posted_at (server_end later)
      go Held = refl
      go Worn = refl
      go Room = refl
  posted_down_same (Up k room) steps never =
      gets-none room (slice_get (client_datagrams t.config (history t steps).client) k) (history t steps).server
  posted_down_same (Raw bytes room) steps never = gets-none room (Some bytes) (history t steps).server
  posted_down_same step steps never = refl

  -- ---- what is posted at the client

  abbrev pub ClientPostsNone : PairStep → Type 0
  ClientPostsNone (ClientPost Guaranteed v) = ⊥
  ClientPostsNone step = Unit {0}

  pub posted_up_same : (step : PairStep) (steps : List PairStep) → ClientPostsNone step → posted_up (step ∷ steps) ≡ posted_up steps
  posted_up_same (ClientPost Guaranteed v) steps never = absurd never
  posted_up_same (Sample m) steps never = go (is_ok (sampled_answer t.config m (history t steps).client))
    where
      u : List ClientEvent
      u = (history t steps).client

      go : (b : Bool) → posted_at (client_end (if b then client.Sampled m ∷ u else u)) ≡ posted_at (client_end u)
      go true = refl
      go false = refl
  posted_up_same ClientPack steps never = go (client_state t.config (history t steps).client)
    where
      u : List ClientEvent
      u = (history t steps).client

      go : (state : SendState) → posted_at (client_end (with_event (client.pack_event t.config u state) u)) ≡ posted_at (client_end u)
      go Held = refl
      go Worn = refl
      go Room = refl
  posted_up_same (Down k) steps never = go (slice_get (server_datagrams t (history t steps).server) k)
    where
      u : List ClientEvent
      u = (history t steps).client

      go : (o : Option (List ℕ)) → posted_at (client_end (client_gets t o u)) ≡ posted_at (client_end u)
      go None = refl
      go (Some bytes) = by (client_answer t.config t.kinds u bytes)
        where
          by : (a : Result ServerPacket ClientFault) → posted_at (client_end (took_at_client u a)) ≡ posted_at (client_end u)
          by (Ok p) = refl
          by (Err e) = refl
  posted_up_same step steps never = refl

  -- ---- a scan does neither

  abbrev pub ends : List PairStep → List EndEvent × List EndEvent
  ends steps = (server_end (history t steps).server, client_end (history t steps).client)

  shows-ends : (shows : List Showing) (steps : List PairStep) → ends (onto (map show_step shows) steps) ≡ ends steps
  shows-ends [] steps = refl
  shows-ends (s ∷ shows) steps = shows-ends shows (show_step s ∷ steps)

  nears-ends : (nears : List NearPeriod) (shows : List Showing) (steps : List PairStep)
      → ends (onto (map near_step nears ++ map show_step shows) steps) ≡ ends steps
  nears-ends [] shows steps = shows-ends shows steps
  nears-ends (p ∷ nears) shows steps = nears-ends nears shows (near_step p ∷ steps)

  pub scan_ends : (hides : List ℕ) (nears : List NearPeriod) (shows : List Showing) (steps : List PairStep)
      → ends (onto (scan_steps hides nears shows) steps) ≡ ends steps
  scan_ends [] nears shows steps = nears-ends nears shows steps
  scan_ends (n ∷ hides) nears shows steps = scan_ends hides nears shows (hide_step n ∷ steps)
