-- Each packet on its way has the unguaranteed events that were written under its number, and what came was in packets of
-- rising numbers.
use Rattle.std.proofs.Common.{◌≡◌, ℕ, Bool, true, false, List, [], ◌∷◌, ◌++◌, if◌then◌else◌, Option, Some, None, Ok, Err, refl, sym, subst}
use Rattle.std.specs.Prelude.{slice_get, ℤ}
use Rattle.tn_types.specs.declared.choices.Drain.{Drain}
use Rattle.std.specs.Result.{is_ok}
use Rattle.std.specs.List.{AllByRecursion}
use Rattle.tn_types.specs.declared.choices.Class.{Class}
use Rattle.tn_types.specs.declared.choices.Class.TheVariants.{Guaranteed, Loose}
use Rattle.tn_types.specs.declared.moves.MoveBits.{MoveBits}
use Rattle.notify_window.specs.declared.SendState.{SendState}
use Rattle.notify_window.specs.declared.SendState.TheVariants.{Held, Worn, Room}
use Rattle.notify_window.specs.Log.{horizon_of}
use Rattle.wire_format.specs.declared.server.ServerPacket.{ServerPacket}
use Rattle.wire_format.specs.declared.server.ServerPacket.TheVariants as down
use Rattle.wire_format.specs.declared.client.ClientPacket.{ClientPacket}
use Rattle.wire_format.specs.declared.client.ClientPacket.TheVariants as up
use Rattle.conn_packing.specs.stream_manager.declared.fault.HeadFault.{HeadFault}
use Rattle.conn_packing.specs.stream_manager.declared.fault.ArriveFault.{ArriveFault}
use Rattle.conn_packing.specs.stream_manager.declared.fault.ClientFault.{ClientFault}
use Rattle.conn_packing.specs.stream_manager.Limits.{Terms, AreTerms}
use Rattle.tn_types.specs.Checks.{Checked, then_check}
use Rattle.conn_packing.specs.stream_manager.Faults.{head_at_server, head_at_client, checked_packet}
use Rattle.conn_packing.specs.stream_manager.End.{Seen, window_log, head_answer, with_event}
use Rattle.conn_packing.specs.stream_manager.Server as server_log
use Rattle.conn_packing.specs.stream_manager.Server.{ServerEvent, server_end, server_datagrams, seen_ping, seen_body, seen_client_body, seen_up, server_state, posted_at_server, with_plan, next_body, server_ping, took_at_server}
use Rattle.conn_packing.specs.stream_manager.Client as client_log
use Rattle.conn_packing.specs.stream_manager.Client.{ClientEvent, client_end, client_datagrams, seen_down, client_state, posted_at_client, client_body, client_ping, took_at_client, sampled_answer}
use Rattle.conn_packing.specs.Packs.{absorbing, values_of}
use Rattle.pair_core.specs.History.{PairStep, Show, Hide, Near, Post, ClientPost, Sample, Pack, ClientPack, Down, Up, Raw, history, server_posts, client_posts, client_samples}
use Rattle.pair_laws.proofs.Good.{AreGood}
use Rattle.pair_laws.specs.LooseEvents.{LooseDown, LooseUp}
use Rattle.conn_packing.proofs.Lists.{all-append, all-map, all-at}
use Rattle.pair_laws.specs.Exchange.{server_packets, client_packets, given_down, given_up}
use Rattle.pair_laws.proofs.LooseItems.{loose_in, written, Sends, start-sends, posted-sends, loose-sends, packed-sends, pinged-sends, took-sends, Flies, flies-push, flies-last, IsNew, not-old, Gets, gets-push, gets-more, gets-posted}

abbrev SeenFlies : List (List (List ℕ)) → Seen → Type 0
SeenFlies ws p = Flies ws p.ping p.head.seq (loose_in p.events)

-- a packet with the unguaranteed events of its number
abbrev FliesDown : List (List (List ℕ)) → ServerPacket → Type 0
FliesDown ws p = SeenFlies ws (seen_down p)

abbrev FliesUp : List (List (List ℕ)) → ClientPacket → Type 0
FliesUp ws p = SeenFlies ws (seen_up p)

down-push : (ws : List (List (List ℕ))) (w : List (List ℕ)) (p : ServerPacket) → FliesDown ws p → FliesDown (ws ++ w ∷ []) p
down-push ws w p h = let q = seen_down p in flies-push ws w q.ping q.head.seq (loose_in q.events) h

up-push : (ws : List (List (List ℕ))) (w : List (List ℕ)) (p : ClientPacket) → FliesUp ws p → FliesUp (ws ++ w ∷ []) p
up-push ws w p h = let q = seen_up p in flies-push ws w q.ping q.head.seq (loose_in q.events) h

-- the invariant over the steps
record Ordered (t : Terms) (s : List ServerEvent) (u : List ClientEvent) : Type 0 where
  pub server : Sends (server_end s)
  pub client : Sends (client_end u)
  pub down : AllByRecursion (FliesDown (written (server_end s))) (server_packets s)
  pub up : AllByRecursion (FliesUp (written (client_end u))) (client_packets u)
  pub came_down : Gets (written (server_end s)) (client_end u)
  pub came_up : Gets (written (client_end u)) (server_end s)

-- ---- what is not refused

first-passed : {E : Type 0} (a b : Checked E) → then_check a b ≡ Ok tt → a ≡ Ok tt
first-passed (Ok x) b e = refl
first-passed (Err fault) b e = absurd cc

pub passed-at_client : (a : Checked HeadFault) → head_at_client a ≡ Ok tt → a ≡ Ok tt
passed-at_client (Ok x) e = refl
passed-at_client (Err fault) e = absurd cc

passed-at_server : (a : Checked HeadFault) → head_at_server a ≡ Ok tt → a ≡ Ok tt
passed-at_server (Ok x) e = refl
passed-at_server (Err fault) e = absurd cc

module _ (t : Terms) (limits : AreTerms t) where
  pub new-down : (u : List ClientEvent) (p : ServerPacket) → client_log.packet_check t.config u p ≡ Ok tt → IsNew (seen_down p).ping (seen_down p).head.seq (horizon_of (window_log (client_end u)))
  new-down u (down.Ping head) e = tt
  new-down u (down.Body p) e = not-old t.config.client (client_end u) (seen_body p) (passed-at_client (head_answer t.config.client (client_end u) (seen_body p)) (first-passed _ (client_log.body_check u p) e))

  pub new-up : (s : List ServerEvent) (p : ClientPacket) → server_log.packet_check t.config s p ≡ Ok tt → IsNew (seen_up p).ping (seen_up p).head.seq (horizon_of (window_log (server_end s)))
  new-up s (up.Ping head) e = tt
  new-up s (up.Body p) e = not-old t.config.client (server_end s) (seen_client_body p) (passed-at_server (head_answer t.config.client (server_end s) (seen_client_body p)) (first-passed _ (server_log.body_check t.config s p) e))

  -- ---- posts and samples

  posts-down : (class : Class) (v : List ℕ) (s : List ServerEvent) (u : List ClientEvent) → Ordered t s u → Ordered t (server_posts t.config class v s) u
  posts-down Loose v s u h = record { server = loose-sends (server_end s) v h.server; client = h.client; down = h.down; up = h.up; came_down = h.came_down; came_up = h.came_up }
  posts-down Guaranteed v s u h = go (is_ok (posted_at_server t.config s))
    where
      go : (b : Bool) → Ordered t (if b then server_log.Posted Guaranteed v ∷ s else s) u
      go false = h
      go true = record { server = posted-sends (server_end s) v h.server; client = h.client; down = h.down; up = h.up; came_down = h.came_down; came_up = h.came_up }

  posts-up : (class : Class) (v : List ℕ) (s : List ServerEvent) (u : List ClientEvent) → Ordered t s u → Ordered t s (client_posts t.config class v u)
  posts-up Loose v s u h = record { server = h.server; client = loose-sends (client_end u) v h.client; down = h.down; up = h.up; came_down = h.came_down; came_up = h.came_up }
  posts-up Guaranteed v s u h = go (is_ok (posted_at_client t.config u))
    where
      go : (b : Bool) → Ordered t s (if b then client_log.Posted Guaranteed v ∷ u else u)
      go false = h
      go true = record { server = h.server; client = posted-sends (client_end u) v h.client; down = h.down; up = h.up; came_down = h.came_down; came_up = h.came_up }

  samples-up : (m : MoveBits) (s : List ServerEvent) (u : List ClientEvent) → Ordered t s u → Ordered t s (client_samples t.config m u)
  samples-up m s u h = go (is_ok (sampled_answer t.config m u))
    where
      go : (b : Bool) → Ordered t s (if b then client_log.Sampled m ∷ u else u)
      go false = h
      go true = record { server = h.server; client = h.client; down = h.down; up = h.up; came_down = h.came_down; came_up = h.came_up }

  scoped : (change : server_log.ScopeChange) (s : List ServerEvent) (u : List ClientEvent) → Ordered t s u → Ordered t (server_log.Scoped change ∷ s) u
  scoped change s u h = record { server = h.server; client = h.client; down = h.down; up = h.up; came_down = h.came_down; came_up = h.came_up }

  absorbs-down : (drains : List Drain) (s : List ServerEvent) (u : List ClientEvent) → Ordered t s u → Ordered t (absorbing drains s) u
  absorbs-down [] s u h = h
  absorbs-down (d ∷ drains) s u h = absorbs-down drains (server_log.Scoped (server_log.Absorb d.n d.bits) ∷ s) u (scoped (server_log.Absorb d.n d.bits) s u h)

  -- ---- packs

  packs-down : (s : List ServerEvent) (u : List ClientEvent) (values : List ℤ) → Ordered t s u → Ordered t (server_log.packing t s values) u
  packs-down s u values h = go (server_state t.config s) refl
    where
      ws : List (List (List ℕ))
      ws = written (server_end s)

      body : Seen
      body = seen_body (next_body t s values)

      go : (state : SendState) → server_state t.config s ≡ state → Ordered t (server_log.packed_onto t s values state) u
      go Worn e = h
      go Held e = record {
        server = pinged-sends (server_end s) (seen_ping (server_ping t.config s)) h.server;
        client = h.client;
        down = all-append (FliesDown ws) (server_packets s) _ h.down (refl, tt);
        up = h.up;
        came_down = h.came_down;
        came_up = h.came_up;
      }
      go Room e = record {
        server = packed-sends t.config (server_end s) body (server_log.event_room t (with_plan t s)) refl h.server;
        client = h.client;
        down = all-append (FliesDown (ws ++ loose_in body.events ∷ [])) (server_packets s) _
            (all-map (FliesDown ws) (FliesDown (ws ++ loose_in body.events ∷ [])) (down-push ws (loose_in body.events)) (server_packets s) h.down)
            (flies-last (server_end s) body.head.seq (loose_in body.events) refl h.server, tt);
        up = h.up;
        came_down = gets-push ws (loose_in body.events) (client_end u) h.came_down;
        came_up = h.came_up;
      }

  packs-up : (s : List ServerEvent) (u : List ClientEvent) → Ordered t s u → Ordered t s (with_event (client_log.packing t.config u) u)
  packs-up s u h = go (client_state t.config u) refl
    where
      ws : List (List (List ℕ))
      ws = written (client_end u)

      body : Seen
      body = seen_client_body (client_body t.config u)

      go : (state : SendState) → client_state t.config u ≡ state → Ordered t s (with_event (client_log.pack_event t.config u state) u)
      go Worn e = h
      go Held e = record {
        server = h.server;
        client = pinged-sends (client_end u) (seen_ping (client_ping t.config u)) h.client;
        down = h.down;
        up = all-append (FliesUp ws) (client_packets u) _ h.up (refl, tt);
        came_down = h.came_down;
        came_up = h.came_up;
      }
      go Room e = record {
        server = h.server;
        client = packed-sends t.config (client_end u) body (client_log.event_room t.config u) refl h.client;
        down = h.down;
        up = all-append (FliesUp (ws ++ loose_in body.events ∷ [])) (client_packets u) _
            (all-map (FliesUp ws) (FliesUp (ws ++ loose_in body.events ∷ [])) (up-push ws (loose_in body.events)) (client_packets u) h.up)
            (flies-last (client_end u) body.head.seq (loose_in body.events) refl h.client, tt);
        came_down = h.came_down;
        came_up = gets-push ws (loose_in body.events) (server_end s) h.came_up;
      }

  -- ---- arrivals

  took-down : (s : List ServerEvent) (u : List ClientEvent) (p : ServerPacket) (a : Checked ClientFault) → client_log.packet_check t.config u p ≡ a → SeenFlies (written (server_end s)) (seen_down p) → Ordered t s u → Ordered t s (took_at_client u (checked_packet p a))
  took-down s u p (Err fault) e flies h = h
  took-down s u p (Ok x) e flies h = record {
    server = h.server;
    client = took-sends (client_end u) (seen_down p) h.client;
    down = h.down;
    up = h.up;
    came_down = gets-more (written (server_end s)) (client_end u) (seen_down p) flies (new-down u p e) h.came_down;
    came_up = h.came_up;
  }

  took-up : (s : List ServerEvent) (u : List ClientEvent) (room : ℕ) (p : ClientPacket) (a : Checked ArriveFault) → server_log.packet_check t.config s p ≡ a → SeenFlies (written (client_end u)) (seen_up p) → Ordered t s u → Ordered t (took_at_server s room (checked_packet p a)) u
  took-up s u room p (Err fault) e flies h = h
  took-up s u room p (Ok x) e flies h = record {
    server = took-sends (server_end s) (seen_up p) h.server;
    client = h.client;
    down = h.down;
    up = h.up;
    came_down = h.came_down;
    came_up = gets-more (written (client_end u)) (server_end s) (seen_up p) flies (new-up s p e) h.came_up;
  }

  given-down : (s : List ServerEvent) (u : List ClientEvent) (k : ℕ) (o : Option ServerPacket) → slice_get (server_packets s) k ≡ o → Ordered t s u → Ordered t s (given_down t.config o u)
  given-down s u k None e h = h
  given-down s u k (Some p) e h = took-down s u p (client_log.packet_check t.config u p) refl (all-at (FliesDown (written (server_end s))) (server_packets s) k p h.down e) h

  given-up : (s : List ServerEvent) (u : List ClientEvent) (k room : ℕ) (o : Option ClientPacket) → slice_get (client_packets u) k ≡ o → Ordered t s u → Ordered t (given_up t.config room o s) u
  given-up s u k room None e h = h
  given-up s u k room (Some p) e h = took-up s u room p (server_log.packet_check t.config s p) refl (all-at (FliesUp (written (client_end u))) (client_packets u) k p h.up e) h

  -- ---- all steps

  ordered : (steps : List PairStep) → AreGood t steps → Ordered t (history t steps).server (history t steps).client
  ordered [] fit = record { server = start-sends; client = start-sends; down = tt; up = tt; came_down = refl; came_up = refl }
  ordered (Post class v ∷ steps) fit = posts-down class v (history t steps).server (history t steps).client (ordered steps fit.1)
  ordered (ClientPost class v ∷ steps) fit = posts-up class v (history t steps).server (history t steps).client (ordered steps fit.1)
  ordered (Sample m ∷ steps) fit = samples-up m (history t steps).server (history t steps).client (ordered steps fit.1)
  ordered (Show kind block level control ∷ steps) fit = scoped (server_log.Show kind block level control) (history t steps).server (history t steps).client (ordered steps fit.1)
  ordered (Hide n ∷ steps) fit = scoped (server_log.Hide n) (history t steps).server (history t steps).client (ordered steps fit.1)
  ordered (Near n level ∷ steps) fit = scoped (server_log.Near n level) (history t steps).server (history t steps).client (ordered steps fit.1)
  ordered (Pack drains reads ∷ steps) fit =
      packs-down (absorbing drains (history t steps).server) (history t steps).client (values_of reads)
      (absorbs-down drains (history t steps).server (history t steps).client (ordered steps fit.1))
  ordered (Raw bytes room ∷ steps) fit = absurd fit.0.honest
  ordered (ClientPack ∷ steps) fit = packs-up (history t steps).server (history t steps).client (ordered steps fit.1)
  ordered (Down k ∷ steps) fit = subst (Ordered t (history t steps).server) (sym fit.0.read) (given-down (history t steps).server (history t steps).client k (slice_get (server_packets (history t steps).server) k) refl (ordered steps fit.1))
  ordered (Up k room ∷ steps) fit = subst (λ (s : List ServerEvent). Ordered t s (history t steps).client) (sym fit.0.read) (given-up (history t steps).server (history t steps).client k room (slice_get (client_packets (history t steps).client) k) refl (ordered steps fit.1))

pub loose_down : (t : Terms) (steps : List PairStep) → AreTerms t → AreGood t steps → LooseDown t steps
loose_down t steps limits fit = let h = ordered t limits steps fit in gets-posted (server_end (history t steps).server) (client_end (history t steps).client) h.server h.came_down

pub loose_up : (t : Terms) (steps : List PairStep) → AreTerms t → AreGood t steps → LooseUp t steps
loose_up t steps limits fit = let h = ordered t limits steps fit in gets-posted (client_end (history t steps).client) (server_end (history t steps).server) h.client h.came_up
