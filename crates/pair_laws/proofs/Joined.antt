-- Over every list of steps the two ends are joined by a network: the server's plans and packets are those that its rules
-- give, and each data packet that the client took was sent, and is newer than those before.
use Rattle.std.proofs.Common.{◌≡◌, inl, inr, ℕ, Bool, true, false, List, [], ◌∷◌, if◌then◌else◌, Option, Some, None, Ok, Err, refl, sym, subst}
use Rattle.std.specs.Prelude.{slice_get, ℤ}
use Rattle.std.specs.Result.{is_ok}
use Rattle.std.specs.List.{AllByRecursion}
use Rattle.tn_types.specs.declared.choices.Class.{Class}
use Rattle.tn_types.specs.declared.choices.Class.TheVariants.{Guaranteed, Loose}
use Rattle.tn_types.specs.declared.choices.Drain.{Drain}
use Rattle.tn_types.specs.declared.moves.MoveBits.{MoveBits}
use Rattle.notify_window.specs.declared.SendState.{SendState}
use Rattle.notify_window.specs.declared.SendState.TheVariants.{Held, Worn, Room}
use Rattle.wire_format.specs.declared.server.ServerBody.{ServerBody}
use Rattle.wire_format.specs.declared.server.ServerPacket.{ServerPacket}
use Rattle.wire_format.specs.declared.server.ServerPacket.TheVariants as down
use Rattle.wire_format.specs.declared.client.ClientPacket.{ClientPacket}
use Rattle.conn_packing.specs.stream_manager.declared.fault.ArriveFault.{ArriveFault}
use Rattle.conn_packing.specs.stream_manager.declared.fault.ClientFault.{ClientFault}
use Rattle.conn_packing.specs.stream_manager.Limits.{Terms, AreTerms}
use Rattle.tn_types.specs.Checks.{Checked}
use Rattle.conn_packing.specs.stream_manager.Faults.{checked_packet}
use Rattle.conn_packing.specs.stream_manager.End.{with_event}
use Rattle.conn_packing.specs.stream_manager.Server as server_log
use Rattle.conn_packing.specs.stream_manager.Server.{ServerEvent, server_datagrams, server_state, posted_at_server, with_plan, next_body, server_ping, took_at_server, server_answer}
use Rattle.conn_packing.specs.stream_manager.Client as client_log
use Rattle.conn_packing.specs.stream_manager.Client.{ClientEvent, client_datagrams, client_state, posted_at_client, sampled_answer, took_at_client}
use Rattle.wire_logs.specs.ghost_logs.Sent.{WasPacked}
use Rattle.wire_logs.specs.ghost_logs.Ends.{IsMade, CameFrom, AreJoined}
use Rattle.conn_packing.specs.Packs.{absorbing, values_of}
use Rattle.pair_core.specs.History.{PairStep, Show, Hide, Near, Post, ClientPost, Sample, Pack, ClientPack, Down, Up, Raw, history, server_posts, client_posts, client_samples}
use Rattle.pair_laws.proofs.Good.{AreGood, FitRoom, reads-fit}
use Rattle.conn_packing.proofs.Lists.{all-append, all-map, all-at}
use Rattle.pair_laws.specs.Exchange.{server_packets, client_packets, given_down, given_up}
use Rattle.pair_laws.proofs.VerdictLaw.{windows}
use Rattle.pair_laws.proofs.LooseEvents.{new-down}

-- a packet that was sent
abbrev pub WasSent : List ServerEvent → ServerPacket → Type 0
WasSent s (down.Ping head) = Unit {0}
WasSent s (down.Body p) = WasPacked p s

-- the invariant over the steps
pub record Joins (t : Terms) (s : List ServerEvent) (u : List ClientEvent) : Type 0 where
  pub made : IsMade t s
  pub came : CameFrom s u
  pub sent : AllByRecursion (WasSent s) (server_packets s)

-- ---- what was sent stays sent

abbrev Later : List ServerEvent → List ServerEvent → Type 0
Later s new = (p : ServerBody) → WasPacked p s → WasPacked p new

came-later : (s new : List ServerEvent) → Later s new → (u : List ClientEvent) → CameFrom s u → CameFrom new u
came-later s new later [] h = tt
came-later s new later (client_log.Took (down.Body p) ∷ u) h = (later p h.0, h.1, came-later s new later u h.2)
came-later s new later (client_log.Took (down.Ping head) ∷ u) h = came-later s new later u h
came-later s new later (client_log.Posted class payload ∷ u) h = came-later s new later u h
came-later s new later (client_log.Sampled m ∷ u) h = came-later s new later u h
came-later s new later (client_log.Packed p ∷ u) h = came-later s new later u h
came-later s new later (client_log.Pinged head ∷ u) h = came-later s new later u h

sent-later : (s new : List ServerEvent) → Later s new → (p : ServerPacket) → WasSent s p → WasSent new p
sent-later s new later (down.Ping head) h = tt
sent-later s new later (down.Body p) h = later p h

module _ (t : Terms) (limits : AreTerms t) where
  -- the same packets were sent
  alike : (s new : List ServerEvent) (u : List ClientEvent) → Later s new → server_packets new ≡ server_packets s → IsMade t new → Joins t s u → Joins t new u
  alike s new u later same made h = record {
    made = made;
    came = came-later s new later u h.came;
    sent = subst (AllByRecursion (WasSent new)) (sym same) (all-map (WasSent s) (WasSent new) (sent-later s new later) (server_packets s) h.sent);
  }

  posts-down : (class : Class) (v : List ℕ) (s : List ServerEvent) (u : List ClientEvent) → Joins t s u → Joins t (server_posts t.config class v s) u
  posts-down Loose v s u h = alike s (server_log.Posted Loose v ∷ s) u (λ p w. w) refl h.made h
  posts-down Guaranteed v s u h = go (is_ok (posted_at_server t.config s))
    where
      go : (b : Bool) → Joins t (if b then server_log.Posted Guaranteed v ∷ s else s) u
      go false = h
      go true = alike s (server_log.Posted Guaranteed v ∷ s) u (λ p w. w) refl h.made h

  posts-up : (class : Class) (v : List ℕ) (s : List ServerEvent) (u : List ClientEvent) → Joins t s u → Joins t s (client_posts t.config class v u)
  posts-up Loose v s u h = record { made = h.made; came = h.came; sent = h.sent }
  posts-up Guaranteed v s u h = go (is_ok (posted_at_client t.config u))
    where
      go : (b : Bool) → Joins t s (if b then client_log.Posted Guaranteed v ∷ u else u)
      go false = h
      go true = record { made = h.made; came = h.came; sent = h.sent }

  samples-up : (m : MoveBits) (s : List ServerEvent) (u : List ClientEvent) → Joins t s u → Joins t s (client_samples t.config m u)
  samples-up m s u h = go (is_ok (sampled_answer t.config m u))
    where
      go : (b : Bool) → Joins t s (if b then client_log.Sampled m ∷ u else u)
      go false = h
      go true = record { made = h.made; came = h.came; sent = h.sent }

  scoped : (change : server_log.ScopeChange) (s : List ServerEvent) (u : List ClientEvent) → Joins t s u → Joins t (server_log.Scoped change ∷ s) u
  scoped change s u h = alike s (server_log.Scoped change ∷ s) u (λ p w. w) refl h.made h

  absorbs-down : (drains : List Drain) (s : List ServerEvent) (u : List ClientEvent) → Joins t s u → Joins t (absorbing drains s) u
  absorbs-down [] s u h = h
  absorbs-down (d ∷ drains) s u h = absorbs-down drains (server_log.Scoped (server_log.Absorb d.n d.bits) ∷ s) u (scoped (server_log.Absorb d.n d.bits) s u h)

  -- ---- packs

  packs-down : (s : List ServerEvent) (u : List ClientEvent) (values : List ℤ) → FitRoom t s values → Joins t s u → Joins t (server_log.packing t s values) u
  packs-down s u values fit h = go (server_state t.config s) refl
    where
      new : List ServerEvent
      new = server_log.Packed (next_body t s values) ∷ with_plan t s

      go : (state : SendState) → server_state t.config s ≡ state → Joins t (server_log.packed_onto t s values state) u
      go Worn e = h
      go Held e = record {
        made = h.made;
        came = came-later s (server_log.Pinged (server_ping t.config s) ∷ s) (λ p w. w) u h.came;
        sent = all-append (WasSent (server_log.Pinged (server_ping t.config s) ∷ s)) (server_packets s) _
            (all-map (WasSent s) (WasSent (server_log.Pinged (server_ping t.config s) ∷ s)) (sent-later s (server_log.Pinged (server_ping t.config s) ∷ s) (λ p w. w)) (server_packets s) h.sent) (tt, tt);
      }
      go Room e = record {
        made = (record { values = values; fit = fit e; value = refl }, (refl, h.made));
        came = came-later s new (λ p w. inr w) u h.came;
        sent = all-append (WasSent new) (server_packets s) _ (all-map (WasSent s) (WasSent new) (sent-later s new (λ p w. inr w)) (server_packets s) h.sent) (inl refl, tt);
      }

  packs-up : (s : List ServerEvent) (u : List ClientEvent) → Joins t s u → Joins t s (with_event (client_log.packing t.config u) u)
  packs-up s u h = go (client_state t.config u)
    where
      go : (state : SendState) → Joins t s (with_event (client_log.pack_event t.config u state) u)
      go Worn = h
      go Held = record { made = h.made; came = h.came; sent = h.sent }
      go Room = record { made = h.made; came = h.came; sent = h.sent }

  -- ---- arrivals

  comes : (s : List ServerEvent) (u : List ClientEvent) (p : ServerPacket) → client_log.packet_check t.config u p ≡ Ok tt → WasSent s p → CameFrom s u → CameFrom s (client_log.Took p ∷ u)
  comes s u (down.Ping head) e sent came = came
  comes s u (down.Body p) e sent came = (sent, new-down t limits u (down.Body p) e, came)

  took-down : (s : List ServerEvent) (u : List ClientEvent) (p : ServerPacket) (a : Checked ClientFault) → client_log.packet_check t.config u p ≡ a → WasSent s p → Joins t s u → Joins t s (took_at_client u (checked_packet p a))
  took-down s u p (Err fault) e sent h = h
  took-down s u p (Ok x) e sent h = record { made = h.made; came = comes s u p e sent h.came; sent = h.sent }

  given-down : (s : List ServerEvent) (u : List ClientEvent) (k : ℕ) (o : Option ServerPacket) → slice_get (server_packets s) k ≡ o → Joins t s u → Joins t s (given_down t.config o u)
  given-down s u k None e h = h
  given-down s u k (Some p) e h = took-down s u p (client_log.packet_check t.config u p) refl (all-at (WasSent s) (server_packets s) k p h.sent e) h

  took-up : (s : List ServerEvent) (u : List ClientEvent) (room : ℕ) (p : ClientPacket) (a : Checked ArriveFault) → Joins t s u → Joins t (took_at_server s room (checked_packet p a)) u
  took-up s u room p (Err e) h = h
  took-up s u room p (Ok x) h = alike s (server_log.Took p room ∷ s) u (λ q w. w) refl h.made h

  given-up : (s : List ServerEvent) (u : List ClientEvent) (room : ℕ) (o : Option ClientPacket) → Joins t s u → Joins t (given_up t.config room o s) u
  given-up s u room None h = h
  given-up s u room (Some p) h = took-up s u room p (server_log.packet_check t.config s p) h

  -- ---- all steps

  pub joins : (steps : List PairStep) → AreGood t steps → Joins t (history t steps).server (history t steps).client
  joins [] fit = record { made = tt; came = tt; sent = tt }
  joins (Show kind block level control ∷ steps) fit = scoped (server_log.Show kind block level control) (history t steps).server (history t steps).client (joins steps fit.1)
  joins (Hide n ∷ steps) fit = scoped (server_log.Hide n) (history t steps).server (history t steps).client (joins steps fit.1)
  joins (Near n level ∷ steps) fit = scoped (server_log.Near n level) (history t steps).server (history t steps).client (joins steps fit.1)
  joins (Post class v ∷ steps) fit = posts-down class v (history t steps).server (history t steps).client (joins steps fit.1)
  joins (ClientPost class v ∷ steps) fit = posts-up class v (history t steps).server (history t steps).client (joins steps fit.1)
  joins (Sample m ∷ steps) fit = samples-up m (history t steps).server (history t steps).client (joins steps fit.1)
  joins (Pack drains reads ∷ steps) fit =
      packs-down (absorbing drains (history t steps).server) (history t steps).client (values_of reads) (reads-fit t (history t steps).server drains reads fit.0.met.1)
      (absorbs-down drains (history t steps).server (history t steps).client (joins steps fit.1))
  joins (ClientPack ∷ steps) fit = packs-up (history t steps).server (history t steps).client (joins steps fit.1)
  joins (Down k ∷ steps) fit = subst (Joins t (history t steps).server) (sym fit.0.read) (given-down (history t steps).server (history t steps).client k (slice_get (server_packets (history t steps).server) k) refl (joins steps fit.1))
  joins (Up k room ∷ steps) fit = subst (λ (s : List ServerEvent). Joins t s (history t steps).client) (sym fit.0.read) (given-up (history t steps).server (history t steps).client room (slice_get (client_packets (history t steps).client) k) (joins steps fit.1))
  joins (Raw bytes room ∷ steps) fit = absurd fit.0.honest

  pub joined : (steps : List PairStep) → AreGood t steps → AreJoined t (history t steps).server (history t steps).client
  joined steps fit = let j = joins steps fit in record { made = j.made; came = j.came; judged = (windows t limits steps fit).down.right }
