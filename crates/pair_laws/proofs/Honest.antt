-- Over every list of steps, what is on its way between the ends is what an honest end sent: its packets name the client, and
-- their events, blocks and moves fit what the other end has.
use Rattle.std.proofs.Common.{◌≡◌, ℕ, ◌-◌, ◌*◌, ◌≤◌, Bool, true, false, List, [], ◌∷◌, length, map, take, Option, Some, None, if◌then◌else◌, Ok, Err, refl, sym, subst, arith}
use Rattle.std.specs.Prelude.{slice_get, ℤ}
use Rattle.std.specs.Result.{is_ok}
use Rattle.std.specs.List.{AllByRecursion, slice_index_or}
use Rattle.tn_types.specs.declared.choices.Drain.{Drain}
use Rattle.tn_types.specs.declared.choices.Class.{Class}
use Rattle.tn_types.specs.declared.choices.Class.TheVariants.{Guaranteed, Loose}
use Rattle.tn_types.specs.declared.moves.MoveBits.{MoveBits}
use Rattle.notify_window.specs.declared.SendState.{SendState}
use Rattle.notify_window.specs.declared.SendState.TheVariants.{Held, Worn, Room}
use Rattle.wire_format.specs.declared.blocks.BlockItem.{BlockItem}
use Rattle.wire_format.specs.declared.server.ServerPacket.{ServerPacket}
use Rattle.wire_format.specs.declared.server.ServerPacket.TheVariants as down
use Rattle.wire_format.specs.declared.client.ClientPacket.{ClientPacket}
use Rattle.wire_format.specs.declared.client.ClientPacket.TheVariants as up
use Rattle.wire_format.specs.declared.widths.TheConstants.{SERVER_FIXED_BITS}
use Rattle.tn_types.specs.declared.limits.TheConstants.{MAX_PACKET_BLOCKS}
use Rattle.wire_format.specs.Blocks.{block_size}
use Rattle.conn_packing.specs.stream_manager.datablocks.Sending.{due_of}
use Rattle.tn_types.specs.Fitting.{fitting}
use Rattle.move_manager.specs.Sending.{acked_of}
use Rattle.conn_packing.specs.stream_manager.declared.fault.ArriveFault.{ArriveFault}
use Rattle.conn_packing.specs.stream_manager.declared.fault.ClientFault.{ClientFault}
use Rattle.conn_packing.specs.stream_manager.Limits.{Terms, AreTerms, wire_of}
use Rattle.tn_types.specs.Checks.{Checked}
use Rattle.conn_packing.specs.stream_manager.Faults.{checked_packet}
use Rattle.event_manager.specs.Receiving.{run_of}
use Rattle.notify_window.specs.Log.{sent_of}
use Rattle.conn_packing.specs.stream_manager.End.{window_log, fates, came_of, with_event}
use Rattle.conn_packing.proofs.Below.stream_manager.Fitting.{fitting-all}
use Rattle.conn_packing.specs.stream_manager.Server as server_log
use Rattle.conn_packing.specs.stream_manager.Server.{ServerEvent, server_end, block_log, server_datagrams, server_state, posted_at_server, seen_up, next_body, server_ping, took_at_server, block_item, accepted_at, move_log}
use Rattle.conn_packing.specs.stream_manager.Client as client_log
use Rattle.conn_packing.specs.stream_manager.Client.{ClientEvent, client_end, client_datagrams, client_state, posted_at_client, sampled_answer, seen_down, client_body, client_ping, took_at_client, sample_log, sampled_at}
use Rattle.conn_packing.specs.Packs.{absorbing, values_of}
use Rattle.pair_core.specs.History.{PairStep, Show, Hide, Near, Post, ClientPost, Sample, Pack, ClientPack, Down, Up, Raw, history, server_posts, client_posts, client_samples}
use Rattle.pair_laws.proofs.Good.{AreGood}
use Rattle.pair_laws.specs.Laws.{posted_at}
use Rattle.conn_packing.proofs.Lists.{all-at, all-take}
use Rattle.pair_laws.specs.Exchange.{server_packets, client_packets, given_down, given_up}
use Rattle.pair_laws.proofs.Carried.{Carried, carried, HoldsMoves, IsUp, moves-up}
use Rattle.pair_laws.proofs.VerdictLaw.{Windows, windows, true-verdicts, absorbs-down as windows-absorbed}
use Rattle.wire_logs.proofs.Below.event_logs.Sent.{events_of}
use Rattle.pair_laws.proofs.Reached.{Brings, EventsOn, start-events, near-events, sends-events, pings-events, takes-events, better}

-- a block of the script
abbrev pub IsOf : List (List ℕ) → BlockItem → Type 0
IsOf blocks item = item.bytes ≡ slice_index_or blocks item.number []

-- the blocks of a packet of the server are those of the script
abbrev pub IsScript : List (List ℕ) → ServerPacket → Type 0
IsScript blocks (down.Ping head) = Unit {0}
IsScript blocks (down.Body p) = AllByRecursion (IsOf blocks) p.blocks

-- the moves of a packet of the client leave no gap behind so many
abbrev pub BeginsWithin : ℕ → ClientPacket → Type 0
BeginsWithin count (up.Ping head) = Unit {0}
BeginsWithin count (up.Body p) = p.first ≤ count

begins-later : (m n : ℕ) → m ≤ n → (p : ClientPacket) → BeginsWithin m p → BeginsWithin n p
begins-later m n l (up.Ping head) h = tt
begins-later m n l (up.Body p) h = omega arith

pub record Honest (t : Terms) (s : List ServerEvent) (u : List ClientEvent) : Type 0 where
  pub down : EventsOn seen_down (IsScript t.blocks) t.config.client (server_end s) (client_end u) (server_packets s)
  pub up : EventsOn seen_up (BeginsWithin (length (accepted_at t.config s))) t.config.client (client_end u) (server_end s) (client_packets u)

are-of : (blocks : List (List ℕ)) (ns : List ℕ) → AllByRecursion (IsOf blocks) (map (block_item blocks) ns)
are-of blocks [] = tt
are-of blocks (n ∷ ns) = (refl, are-of blocks ns)

module _ (t : Terms) (limits : AreTerms t) where
  start : Honest t [] []
  start = record { down = start-events seen_down (IsScript t.blocks) t.config.client; up = start-events seen_up (BeginsWithin 0) t.config.client }

  -- ---- posts and samples

  posts-down : (class : Class) (v : List ℕ) (s : List ServerEvent) (u : List ClientEvent) → Honest t s u → Honest t (server_posts t.config class v s) u
  posts-down Loose v s u h = record { down = h.down; up = h.up }
  posts-down Guaranteed v s u h = go (is_ok (posted_at_server t.config s))
    where
      go : (b : Bool) → Honest t (if b then server_log.Posted Guaranteed v ∷ s else s) u
      go true = record { down = h.down; up = h.up }
      go false = h

  posts-up : (class : Class) (v : List ℕ) (s : List ServerEvent) (u : List ClientEvent) → Honest t s u → Honest t s (client_posts t.config class v u)
  posts-up Loose v s u h = record { down = h.down; up = h.up }
  posts-up Guaranteed v s u h = go (is_ok (posted_at_client t.config u))
    where
      go : (b : Bool) → Honest t s (if b then client_log.Posted Guaranteed v ∷ u else u)
      go true = record { down = h.down; up = h.up }
      go false = h

  samples-up : (m : MoveBits) (s : List ServerEvent) (u : List ClientEvent) → Honest t s u → Honest t s (client_samples t.config m u)
  samples-up m s u h = go (is_ok (sampled_answer t.config m u))
    where
      go : (b : Bool) → Honest t s (if b then client_log.Sampled m ∷ u else u)
      go true = record { down = h.down; up = h.up }
      go false = h

  scoped : (change : server_log.ScopeChange) (s : List ServerEvent) (u : List ClientEvent) → Honest t s u → Honest t (server_log.Scoped change ∷ s) u
  scoped change s u h = record { down = h.down; up = h.up }

  absorbs-down : (drains : List Drain) (s : List ServerEvent) (u : List ClientEvent) → Honest t s u → Honest t (absorbing drains s) u
  absorbs-down [] s u h = h
  absorbs-down (d ∷ drains) s u h = absorbs-down drains (server_log.Scoped (server_log.Absorb d.n d.bits) ∷ s) u (scoped (server_log.Absorb d.n d.bits) s u h)

  -- ---- packs

  script-next : (s : List ServerEvent) (values : List ℤ) → AllByRecursion (IsOf t.blocks) (next_body t s values).blocks
  script-next s values = script (due_of (fates (server_end s)) (block_log s) (length t.blocks))
    where
      script : (ns : List ℕ) → AllByRecursion (IsOf t.blocks) (fitting block_size (4 * t.config.size - SERVER_FIXED_BITS) (take MAX_PACKET_BLOCKS (map (block_item t.blocks) ns)))
      script ns = fitting-all (IsOf t.blocks) block_size (4 * t.config.size - SERVER_FIXED_BITS) (take MAX_PACKET_BLOCKS (map (block_item t.blocks) ns)) (all-take (IsOf t.blocks) MAX_PACKET_BLOCKS (map (block_item t.blocks) ns) (are-of t.blocks ns))

  packs-down : (s : List ServerEvent) (u : List ClientEvent) (values : List ℤ) → Windows t s u → Honest t s u → Honest t (server_log.packing t s values) u
  packs-down s u values w h = go (server_state t.config s) refl
    where
      go : (state : SendState) → server_state t.config s ≡ state → Honest t (server_log.packed_onto t s values state) u
      go Worn e = h
      go Held e = record {
        down = pings-events seen_down (IsScript t.blocks) t.config.client (server_end s) (client_end u) (server_packets s) h.down (down.Ping (server_ping t.config s))
            refl refl refl refl tt;
        up = h.up;
      }
      go Room e = record {
        down = sends-events seen_down (IsScript t.blocks) t.config.client (server_end s) (client_end u) (server_packets s) h.down (down.Body (next_body t s values))
            refl refl
            (near-events seen_down (IsScript t.blocks) t.config.client (server_end s) (client_end u) (server_packets s) h.down
            (true-verdicts seen_down (server_end s) (client_end u) (server_packets s) w.down).0 t.config _)
            (script-next s values) w.down.known;
        up = h.up;
      }

  packs-up : (s : List ServerEvent) (u : List ClientEvent) → Carried t s u → Windows t s u → Honest t s u → Honest t s (with_event (client_log.packing t.config u) u)
  packs-up s u c w h = go (client_state t.config u) refl
    where
      go : (state : SendState) → client_state t.config u ≡ state → Honest t s (with_event (client_log.pack_event t.config u state) u)
      go Worn e = h
      go Held e = record {
        down = h.down;
        up = pings-events seen_up (BeginsWithin (length (accepted_at t.config s))) t.config.client (client_end u) (server_end s) (client_packets u) h.up (up.Ping (client_ping t.config u))
            refl refl refl refl tt;
      }
      go Room e = record {
        down = h.down;
        up = sends-events seen_up (BeginsWithin (length (accepted_at t.config s))) t.config.client (client_end u) (server_end s) (client_packets u) h.up (up.Body (client_body t.config u))
            refl refl
            (near-events seen_up (BeginsWithin (length (accepted_at t.config s))) t.config.client (client_end u) (server_end s) (client_packets u) h.up
            (true-verdicts seen_up (client_end u) (server_end s) (client_packets u) w.up).0 t.config _)
            c.moves.acked w.up.known;
      }

  -- ---- arrivals

  took-down : (s : List ServerEvent) (u : List ClientEvent) (p : ServerPacket) (a : Checked ClientFault) (b : Brings seen_down (IsScript t.blocks) t.config.client (λ n. events_of n (server_end s)) (sent_of (window_log (server_end s))) (run_of (came_of (client_end u))) p)
      → Honest t s u → Honest t s (took_at_client u (checked_packet p a))
  took-down s u p (Err e) b h = h
  took-down s u p (Ok x) b h = record {
    down = takes-events seen_down (IsScript t.blocks) t.config.client (server_end s) (client_end u) (server_packets s) h.down (seen_down p) b.own;
    up = h.up;
  }

  took-up : (s : List ServerEvent) (u : List ClientEvent) (room : ℕ) (p : ClientPacket) (a : Checked ArriveFault) (b : Brings seen_up (BeginsWithin (length (accepted_at t.config s))) t.config.client (λ n. events_of n (client_end u)) (sent_of (window_log (client_end u))) (run_of (came_of (server_end s))) p)
      → HoldsMoves (sampled_at u) p → Carried t s u → Honest t s u → Honest t (took_at_server s room (checked_packet p a)) u
  took-up s u room p (Err e) b holds c h = h
  took-up s u room p (Ok x) b holds c h = record {
    down = h.down;
    up = better seen_up (BeginsWithin (length (accepted_at t.config s))) (BeginsWithin (length (accepted_at t.config (server_log.Took p room ∷ s)))) t.config.client (client_end u) (server_end (server_log.Took p room ∷ s)) (client_packets u)
        (begins-later (length (accepted_at t.config s)) (length (accepted_at t.config (server_log.Took p room ∷ s))) (moves-up t limits p room (move_log s) (sampled_at u) (acked_of (sample_log u)) holds c.moves).longer)
        (takes-events seen_up (BeginsWithin (length (accepted_at t.config s))) t.config.client (client_end u) (server_end s) (client_packets u) h.up (seen_up p) b.own);
  }

  given-down : (s : List ServerEvent) (u : List ClientEvent) (k : ℕ) (o : Option ServerPacket) → slice_get (server_packets s) k ≡ o → Honest t s u → Honest t s (given_down t.config o u)
  given-down s u k None e h = h
  given-down s u k (Some p) e h = took-down s u p (client_log.packet_check t.config u p) (all-at (Brings seen_down (IsScript t.blocks) t.config.client (λ n. events_of n (server_end s)) (sent_of (window_log (server_end s))) (run_of (came_of (client_end u)))) (server_packets s) k p h.down.brings e) h

  given-up : (s : List ServerEvent) (u : List ClientEvent) (k room : ℕ) (o : Option ClientPacket) → slice_get (client_packets u) k ≡ o → Carried t s u → Honest t s u → Honest t (given_up t.config room o s) u
  given-up s u k room None e c h = h
  given-up s u k room (Some p) e c h =
      let d : IsUp (wire_of t.config) (posted_at (client_end u)) (sampled_at u) p = all-at (IsUp (wire_of t.config) (posted_at (client_end u)) (sampled_at u)) (client_packets u) k p c.up e in
      took-up s u room p (server_log.packet_check t.config s p) (all-at (Brings seen_up (BeginsWithin (length (accepted_at t.config s))) t.config.client (λ n. events_of n (client_end u)) (sent_of (window_log (client_end u))) (run_of (came_of (server_end s)))) (client_packets u) k p h.up.brings e) d.moves c h

  -- ---- all steps

  pub honest : (steps : List PairStep) → AreGood t steps → Honest t (history t steps).server (history t steps).client
  honest [] fit = start
  honest (Post class v ∷ steps) fit = posts-down class v (history t steps).server (history t steps).client (honest steps fit.1)
  honest (ClientPost class v ∷ steps) fit = posts-up class v (history t steps).server (history t steps).client (honest steps fit.1)
  honest (Sample m ∷ steps) fit = samples-up m (history t steps).server (history t steps).client (honest steps fit.1)
  honest (Show kind block level control ∷ steps) fit = scoped (server_log.Show kind block level control) (history t steps).server (history t steps).client (honest steps fit.1)
  honest (Hide n ∷ steps) fit = scoped (server_log.Hide n) (history t steps).server (history t steps).client (honest steps fit.1)
  honest (Near n level ∷ steps) fit = scoped (server_log.Near n level) (history t steps).server (history t steps).client (honest steps fit.1)
  honest (Pack drains reads ∷ steps) fit =
      packs-down (absorbing drains (history t steps).server) (history t steps).client (values_of reads)
      (windows-absorbed t limits drains (history t steps).server (history t steps).client (windows t limits steps fit.1))
      (absorbs-down drains (history t steps).server (history t steps).client (honest steps fit.1))
  honest (Raw bytes room ∷ steps) fit = absurd fit.0.honest
  honest (ClientPack ∷ steps) fit = packs-up (history t steps).server (history t steps).client (carried t limits steps fit.1) (windows t limits steps fit.1) (honest steps fit.1)
  honest (Down k ∷ steps) fit = subst (Honest t (history t steps).server) (sym fit.0.read) (given-down (history t steps).server (history t steps).client k (slice_get (server_packets (history t steps).server) k) refl (honest steps fit.1))
  honest (Up k room ∷ steps) fit = subst (λ (s : List ServerEvent). Honest t s (history t steps).client) (sym fit.0.read) (given-up (history t steps).server (history t steps).client k room (slice_get (client_packets (history t steps).client) k) refl (carried t limits steps fit.1) (honest steps fit.1))
