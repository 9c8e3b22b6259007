-- Over every list of steps the client's end and the server's are joined on the way up as far as events go: the client sends, in
-- packets that are numbered one after the other, events that are due then, and each data packet that the server took was sent, and
-- is newer than those before.
use Rattle.std.proofs.Common.{◌≡◌, inl, inr, ℕ, Bool, true, false, List, [], ◌∷◌, if◌then◌else◌, Option, Some, None, Ok, Err, refl, sym, subst}
use Rattle.std.specs.Prelude.{slice_get, ℤ}
use Rattle.std.specs.Result.{is_ok}
use Rattle.std.specs.List.{AllByRecursion}
use Rattle.tn_types.specs.declared.choices.Class.{Class}
use Rattle.tn_types.specs.declared.choices.Class.TheVariants.{Guaranteed, Loose}
use Rattle.tn_types.specs.declared.choices.Drain.{Drain}
use Rattle.tn_types.specs.declared.moves.MoveBits.{MoveBits}
use Rattle.tn_types.specs.Checks.{Checked}
use Rattle.notify_window.specs.declared.SendState.{SendState}
use Rattle.notify_window.specs.declared.SendState.TheVariants.{Held, Worn, Room}
use Rattle.wire_format.specs.declared.client.ClientPacket.{ClientPacket}
use Rattle.wire_format.specs.declared.client.ClientPacket.TheVariants as up
use Rattle.wire_format.specs.declared.server.ServerPacket.{ServerPacket}
use Rattle.conn_packing.specs.stream_manager.declared.fault.ArriveFault.{ArriveFault}
use Rattle.conn_packing.specs.stream_manager.declared.fault.ClientFault.{ClientFault}
use Rattle.conn_packing.specs.stream_manager.Limits.{Terms, AreTerms}
use Rattle.conn_packing.specs.stream_manager.Faults.{checked_packet}
use Rattle.conn_packing.specs.stream_manager.End.{Seen, EndEvent, Posted, Packed, Pinged, Took, with_event}
use Rattle.conn_packing.specs.stream_manager.Server as server_log
use Rattle.conn_packing.specs.stream_manager.Server.{ServerEvent, server_end, seen_client_body, seen_up, server_state, posted_at_server, took_at_server}
use Rattle.conn_packing.specs.stream_manager.Client as client_log
use Rattle.conn_packing.specs.stream_manager.Client.{ClientEvent, client_end, client_state, client_body, client_ping, posted_at_client, sampled_answer, took_at_client}
use Rattle.wire_logs.specs.event_logs.Joined.{SendsDue, WasSent, IsOfOther, CameFrom, AreJoined}
use Rattle.wire_logs.proofs.Ends.{next-due}
use Rattle.conn_packing.specs.Packs.{absorbing, values_of}
use Rattle.pair_core.specs.History.{PairStep, Show, Hide, Near, Post, ClientPost, Sample, Pack, ClientPack, Down, Up, Raw, history, server_posts, client_posts, client_samples}
use Rattle.pair_laws.proofs.Good.{AreGood}
use Rattle.conn_packing.proofs.Lists.{all-append, all-map, all-at}
use Rattle.pair_laws.specs.Exchange.{server_packets, client_packets, given_down, given_up}
use Rattle.pair_laws.proofs.VerdictLaw.{true_up}
use Rattle.pair_laws.proofs.LooseEvents.{new-up}

-- a packet that was sent
abbrev pub WasSentUp : List EndEvent → ClientPacket → Type 0
WasSentUp x (up.Ping head) = Unit {0}
WasSentUp x (up.Body p) = WasSent (seen_client_body p) x

-- the invariant over the steps, by the client's end, what it sent, and the server's
pub record JoinsUp (x : List EndEvent) (packets : List ClientPacket) (y : List EndEvent) : Type 0 where
  pub made : SendsDue x
  pub came : CameFrom x y
  pub sent : AllByRecursion (WasSentUp x) packets

abbrev pub AreJoinedUp : List ServerEvent → List ClientEvent → Type 0
AreJoinedUp s u = JoinsUp (client_end u) (client_packets u) (server_end s)

-- ---- what was sent stays sent

abbrev Later : List EndEvent → List EndEvent → Type 0
Later x new = (p : Seen) → WasSent p x → WasSent p new

came-later : (x new : List EndEvent) → Later x new → (y : List EndEvent) → CameFrom x y → CameFrom new y
came-later x new later [] h = tt
came-later x new later (Took p ∷ y) h = (record { ping = h.0.ping; sent = λ e. later p (h.0.sent e); newer = h.0.newer }, came-later x new later y h.1)
came-later x new later (Posted class payload ∷ y) h = came-later x new later y h
came-later x new later (Packed p ∷ y) h = came-later x new later y h
came-later x new later (Pinged p ∷ y) h = came-later x new later y h

sent-later : (x new : List EndEvent) → Later x new → (p : ClientPacket) → WasSentUp x p → WasSentUp new p
sent-later x new later (up.Ping head) h = tt
sent-later x new later (up.Body p) h = later (seen_client_body p) h

-- the client sends nothing new
alike : (x new : List EndEvent) (packets : List ClientPacket) (y : List EndEvent) → Later x new → SendsDue new → JoinsUp x packets y → JoinsUp new packets y
alike x new packets y later made h = record { made = made; came = came-later x new later y h.came; sent = all-map (WasSentUp x) (WasSentUp new) (sent-later x new later) packets h.sent }

module _ (t : Terms) (limits : AreTerms t) where
  posts-down : (class : Class) (v : List ℕ) (s : List ServerEvent) (u : List ClientEvent) → AreJoinedUp s u → AreJoinedUp (server_posts t.config class v s) u
  posts-down Loose v s u h = record { made = h.made; came = h.came; sent = h.sent }
  posts-down Guaranteed v s u h = go (is_ok (posted_at_server t.config s))
    where
      go : (b : Bool) → AreJoinedUp (if b then server_log.Posted Guaranteed v ∷ s else s) u
      go false = h
      go true = record { made = h.made; came = h.came; sent = h.sent }

  posts-up : (class : Class) (v : List ℕ) (s : List ServerEvent) (u : List ClientEvent) → AreJoinedUp s u → AreJoinedUp s (client_posts t.config class v u)
  posts-up Loose v s u h = alike (client_end u) (Posted Loose v ∷ client_end u) (client_packets u) (server_end s) (λ p w. w) h.made h
  posts-up Guaranteed v s u h = go (is_ok (posted_at_client t.config u))
    where
      go : (b : Bool) → AreJoinedUp s (if b then client_log.Posted Guaranteed v ∷ u else u)
      go false = h
      go true = alike (client_end u) (Posted Guaranteed v ∷ client_end u) (client_packets u) (server_end s) (λ p w. w) h.made h

  samples-up : (m : MoveBits) (s : List ServerEvent) (u : List ClientEvent) → AreJoinedUp s u → AreJoinedUp s (client_samples t.config m u)
  samples-up m s u h = go (is_ok (sampled_answer t.config m u))
    where
      go : (b : Bool) → AreJoinedUp s (if b then client_log.Sampled m ∷ u else u)
      go false = h
      go true = h

  absorbs-down : (drains : List Drain) (s : List ServerEvent) (u : List ClientEvent) → AreJoinedUp s u → AreJoinedUp (absorbing drains s) u
  absorbs-down [] s u h = h
  absorbs-down (d ∷ drains) s u h = absorbs-down drains (server_log.Scoped (server_log.Absorb d.n d.bits) ∷ s) u h

  -- ---- packs

  packs-down : (s : List ServerEvent) (u : List ClientEvent) (values : List ℤ) → AreJoinedUp s u → AreJoinedUp (server_log.packing t s values) u
  packs-down s u values h = go (server_state t.config s)
    where
      go : (state : SendState) → AreJoinedUp (server_log.packed_onto t s values state) u
      go Worn = h
      go Held = record { made = h.made; came = h.came; sent = h.sent }
      go Room = record { made = h.made; came = h.came; sent = h.sent }

  packs-up : (s : List ServerEvent) (u : List ClientEvent) → AreJoinedUp s u → AreJoinedUp s (with_event (client_log.packing t.config u) u)
  packs-up s u h = go (client_state t.config u)
    where
      body : Seen
      body = seen_client_body (client_body t.config u)

      ping : Seen
      ping = seen_up (up.Ping (client_ping t.config u))

      next : JoinsUp (client_end u) (client_packets u) (server_end s) → JoinsUp (Packed body ∷ client_end u) (client_packets u) (server_end s)
      next k = alike (client_end u) (Packed body ∷ client_end u) (client_packets u) (server_end s) (λ p w. inr w)
          (refl, next-due t.config (client_log.event_room t.config u) (client_end u), k.made) k

      go : (state : SendState) → AreJoinedUp s (with_event (client_log.pack_event t.config u state) u)
      go Worn = h
      go Held =
          let k = alike (client_end u) (Pinged ping ∷ client_end u) (client_packets u) (server_end s) (λ p w. w) h.made h in
          record { made = k.made; came = k.came; sent = all-append (WasSentUp (Pinged ping ∷ client_end u)) (client_packets u) _ k.sent (tt, tt) }
      go Room =
          let k = next h in
          record { made = k.made; came = k.came; sent = all-append (WasSentUp (Packed body ∷ client_end u)) (client_packets u) _ k.sent (inl refl, tt) }

  -- ---- arrivals

  took-down : (s : List ServerEvent) (u : List ClientEvent) (p : ServerPacket) (a : Checked ClientFault) → AreJoinedUp s u → AreJoinedUp s (took_at_client u (checked_packet p a))
  took-down s u p (Err fault) h = h
  took-down s u p (Ok x) h = alike (client_end u) (client_end (client_log.Took p ∷ u)) (client_packets u) (server_end s) (λ q w. w) h.made h

  given-down : (s : List ServerEvent) (u : List ClientEvent) (o : Option ServerPacket) → AreJoinedUp s u → AreJoinedUp s (given_down t.config o u)
  given-down s u None h = h
  given-down s u (Some p) h = took-down s u p (client_log.packet_check t.config u p) h

  is-of-client : (s : List ServerEvent) (u : List ClientEvent) (p : ClientPacket) → server_log.packet_check t.config s p ≡ Ok tt → WasSentUp (client_end u) p → IsOfOther (client_end u) (server_end s) (seen_up p)
  is-of-client s u (up.Ping head) e sent = record { ping = λ same. refl; sent = λ other. absurd (apart other); newer = λ other. absurd (apart other) }
    where
      apart : true ≡ false → ⊥
      apart other = cc
  is-of-client s u (up.Body p) e sent = record { ping = λ other. absurd (apart other); sent = λ same. sent; newer = λ same. new-up t limits s (up.Body p) e }
    where
      apart : false ≡ true → ⊥
      apart other = cc

  took-up : (s : List ServerEvent) (u : List ClientEvent) (room : ℕ) (p : ClientPacket) (a : Checked ArriveFault) → server_log.packet_check t.config s p ≡ a → WasSentUp (client_end u) p → AreJoinedUp s u → AreJoinedUp (took_at_server s room (checked_packet p a)) u
  took-up s u room p (Err fault) e sent h = h
  took-up s u room p (Ok x) e sent h = record { made = h.made; came = (is-of-client s u p e sent, h.came); sent = h.sent }

  given-up : (s : List ServerEvent) (u : List ClientEvent) (k room : ℕ) (o : Option ClientPacket) → slice_get (client_packets u) k ≡ o → AreJoinedUp s u → AreJoinedUp (given_up t.config room o s) u
  given-up s u k room None e h = h
  given-up s u k room (Some p) e h = took-up s u room p (server_log.packet_check t.config s p) refl (all-at (WasSentUp (client_end u)) (client_packets u) k p h.sent e) h

  -- ---- all steps

  pub joins-up : (steps : List PairStep) → AreGood t steps → AreJoinedUp (history t steps).server (history t steps).client
  joins-up [] fit = record { made = tt; came = tt; sent = tt }
  joins-up (Show kind block level control ∷ steps) fit = joins-up steps fit.1
  joins-up (Hide n ∷ steps) fit = joins-up steps fit.1
  joins-up (Near n level ∷ steps) fit = joins-up steps fit.1
  joins-up (Post class v ∷ steps) fit = posts-down class v (history t steps).server (history t steps).client (joins-up steps fit.1)
  joins-up (ClientPost class v ∷ steps) fit = posts-up class v (history t steps).server (history t steps).client (joins-up steps fit.1)
  joins-up (Sample m ∷ steps) fit = samples-up m (history t steps).server (history t steps).client (joins-up steps fit.1)
  joins-up (Pack drains reads ∷ steps) fit =
      packs-down (absorbing drains (history t steps).server) (history t steps).client (values_of reads) (absorbs-down drains (history t steps).server (history t steps).client (joins-up steps fit.1))
  joins-up (ClientPack ∷ steps) fit = packs-up (history t steps).server (history t steps).client (joins-up steps fit.1)
  joins-up (Down k ∷ steps) fit =
      subst (AreJoinedUp (history t steps).server) (sym fit.0.read)
      (given-down (history t steps).server (history t steps).client (slice_get (server_packets (history t steps).server) k) (joins-up steps fit.1))
  joins-up (Up k room ∷ steps) fit =
      subst (λ (s : List ServerEvent). AreJoinedUp s (history t steps).client) (sym fit.0.read)
      (given-up (history t steps).server (history t steps).client k room (slice_get (client_packets (history t steps).client) k) refl (joins-up steps fit.1))
  joins-up (Raw bytes room ∷ steps) fit = absurd fit.0.honest

  pub joined-up : (steps : List PairStep) → AreGood t steps → AreJoined (client_end (history t steps).client) (server_end (history t steps).server)
  joined-up steps fit = let j = joins-up steps fit in record { made = j.made; came = j.came; right = (true_up t steps limits fit).0 }
