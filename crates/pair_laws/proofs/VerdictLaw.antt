-- Verdicts are true, both ways and for good: over every list of steps the two ways between the ends keep what `Way` says.
use Rattle.std.proofs.Common.{◌≡◌, ◌≢◌, ℕ, zero, suc, ◌<◌, ◌≤◌, Bool, true, false, List, [], ◌∷◌, ◌++◌, Option, Some, None, Ok, Err, if◌then◌else◌, refl, sym, ◌∙◌, ap, subst, arith, inl, inr}
use Rattle.std.specs.Prelude.{slice_get, ℤ}
use Rattle.tn_types.specs.declared.choices.Drain.{Drain}
use Rattle.std.specs.Result.{is_ok}
use Rattle.std.proofs.lemmas.Bool.{cases_lt}
use Rattle.tn_types.specs.declared.choices.Class.{Class}
use Rattle.tn_types.specs.declared.choices.Class.TheVariants.{Guaranteed, Loose}
use Rattle.tn_types.specs.declared.moves.MoveBits.{MoveBits}
use Rattle.notify_window.specs.declared.SendState.{SendState}
use Rattle.notify_window.specs.declared.SendState.TheVariants.{Held, Worn, Room}
use Rattle.tn_types.specs.BitWords.{bit_of}
use Rattle.notify_window.specs.Log.{WindowEvent, Sent, Came, Told, judged_of, is_processed, fate_of, fate_of_bit, Unjudged, Received, Lost}
use Rattle.notify_window.proofs.Verdicts.{fate-above, fate-later, fate-told_judged}
use Rattle.wire_format.specs.declared.server.ServerPacket.{ServerPacket}
use Rattle.wire_format.specs.declared.server.ServerPacket.TheVariants as down
use Rattle.wire_format.specs.declared.client.ClientPacket.{ClientPacket}
use Rattle.wire_format.specs.declared.client.ClientPacket.TheVariants as up
use Rattle.conn_packing.specs.stream_manager.declared.fault.ArriveFault.{ArriveFault}
use Rattle.conn_packing.specs.stream_manager.declared.fault.ClientFault.{ClientFault}
use Rattle.conn_packing.specs.stream_manager.Limits.{Terms, AreTerms}
use Rattle.tn_types.specs.Checks.{Checked}
use Rattle.conn_packing.specs.stream_manager.Faults.{checked_packet}
use Rattle.conn_packing.specs.stream_manager.End.{Seen, EndEvent, window_log, fates, with_event}
use Rattle.conn_packing.specs.stream_manager.Server as server_log
use Rattle.conn_packing.specs.stream_manager.Server.{ServerEvent, server_end, server_datagrams, server_state, posted_at_server, seen_up, next_body, server_ping, took_at_server}
use Rattle.conn_packing.specs.stream_manager.Client as client_log
use Rattle.conn_packing.specs.stream_manager.Client.{ClientEvent, client_end, client_datagrams, client_state, posted_at_client, sampled_answer, seen_down, client_body, client_ping, took_at_client}
use Rattle.conn_packing.specs.Packs.{absorbing, values_of}
use Rattle.pair_core.specs.History.{PairStep, Show, Hide, Near, Post, ClientPost, Sample, Pack, ClientPack, Down, Up, Raw, history, server_posts, client_posts, client_samples}
use Rattle.pair_laws.proofs.Good.{AreGood}
use Rattle.pair_laws.specs.Verdicts.{VerdictsAreTrue, VerdictsAreTrueDown, VerdictsAreTrueUp, LostForGoodDown, LostForGoodUp}
use Rattle.conn_packing.proofs.Lists.{all-at}
use Rattle.pair_laws.specs.Exchange.{server_packets, client_packets, given_down, given_up}
use Rattle.pair_laws.proofs.Heads.{head-ok_down, head-ok_up}
use Rattle.pair_laws.proofs.Grown.{Grew, server-grew, client-grew}
use Rattle.pair_laws.proofs.Windows.{Tells, TellsOf, Way, Meets, tells-data, tells-ping, start-way, sends, pings, other-sends, takes, other-takes, head-meets}

-- both ways, by the windows and the packets of both ends
pub record Both (s u : List WindowEvent) (downs : List ServerPacket) (ups : List ClientPacket) : Type 0 where
  pub down : Way seen_down s u downs
  pub up : Way seen_up u s ups

abbrev pub Windows : Terms → List ServerEvent → List ClientEvent → Type 0
Windows t s u = Both (window_log (server_end s)) (window_log (client_end u)) (server_packets s) (client_packets u)

module _ (t : Terms) (limits : AreTerms t) where
  -- ---- posts and samples change no window

  posts-down : (class : Class) (v : List ℕ) (s : List ServerEvent) (u : List ClientEvent) → Windows t s u → Windows t (server_posts t.config class v s) u
  posts-down Loose v s u h = h
  posts-down Guaranteed v s u h = go (is_ok (posted_at_server t.config s))
    where
      go : (b : Bool) → Windows t (if b then server_log.Posted Guaranteed v ∷ s else s) u
      go true = h
      go false = h

  posts-up : (class : Class) (v : List ℕ) (s : List ServerEvent) (u : List ClientEvent) → Windows t s u → Windows t s (client_posts t.config class v u)
  posts-up Loose v s u h = h
  posts-up Guaranteed v s u h = go (is_ok (posted_at_client t.config u))
    where
      go : (b : Bool) → Windows t s (if b then client_log.Posted Guaranteed v ∷ u else u)
      go true = h
      go false = h

  samples-up : (m : MoveBits) (s : List ServerEvent) (u : List ClientEvent) → Windows t s u → Windows t s (client_samples t.config m u)
  samples-up m s u h = go (is_ok (sampled_answer t.config m u))
    where
      go : (b : Bool) → Windows t s (if b then client_log.Sampled m ∷ u else u)
      go true = h
      go false = h

  pub absorbs-down : (drains : List Drain) (s : List ServerEvent) (u : List ClientEvent) → Windows t s u → Windows t (absorbing drains s) u
  absorbs-down [] s u h = h
  absorbs-down (d ∷ drains) s u h = absorbs-down drains (server_log.Scoped (server_log.Absorb d.n d.bits) ∷ s) u h

  -- ---- packs

  packs-down : (s : List ServerEvent) (u : List ClientEvent) (values : List ℤ) → Windows t s u → Windows t (server_log.packing t s values) u
  packs-down s u values h = go (server_state t.config s) refl
    where
      go : (state : SendState) → server_state t.config s ≡ state → Windows t (server_log.packed_onto t s values state) u
      go Worn e = h
      go Held e = record {
        down = pings seen_down (window_log (server_end s)) (window_log (client_end u)) (server_packets s) (down.Ping (server_ping t.config s)) (tells-ping t.config.client (server_end s)) h.down;
        up = h.up;
      }
      go Room e = record {
        down = sends seen_down t.config.life (window_log (server_end s)) (window_log (client_end u)) (server_packets s) (down.Body (next_body t s values)) e (tells-data t.config.client (server_end s)) h.down;
        up = other-sends seen_up (window_log (client_end u)) (window_log (server_end s)) (client_packets u) h.up;
      }

  packs-up : (s : List ServerEvent) (u : List ClientEvent) → Windows t s u → Windows t s (with_event (client_log.packing t.config u) u)
  packs-up s u h = go (client_state t.config u) refl
    where
      go : (state : SendState) → client_state t.config u ≡ state → Windows t s (with_event (client_log.pack_event t.config u state) u)
      go Worn e = h
      go Held e = record {
        down = h.down;
        up = pings seen_up (window_log (client_end u)) (window_log (server_end s)) (client_packets u) (up.Ping (client_ping t.config u)) (tells-ping t.config.client (client_end u)) h.up;
      }
      go Room e = record {
        down = other-sends seen_down (window_log (server_end s)) (window_log (client_end u)) (server_packets s) h.down;
        up = sends seen_up t.config.life (window_log (client_end u)) (window_log (server_end s)) (client_packets u) (up.Body (client_body t.config u)) e (tells-data t.config.client (client_end u)) h.up;
      }

  -- ---- arrivals

  took-down : (s : List ServerEvent) (u : List ClientEvent) (p : ServerPacket) (a : Checked ClientFault) → client_log.packet_check t.config u p ≡ a → Tells (seen_down p).head (window_log (server_end s)) → Windows t s u
      → Windows t s (took_at_client u (checked_packet p a))
  took-down s u p (Err e) is tells h = h
  took-down s u p (Ok x) is tells h =
      let meets : Meets (client_end u) (seen_down p) = head-meets t.config.client (client_end u) (seen_down p) (head-ok_down t.config u p (ap is_ok is)) in
      record {
        down = other-takes seen_down (seen_down p).head (seen_down p).ping (window_log (server_end s)) (window_log (client_end u)) (server_packets s) tells meets.fresh h.down;
        up = takes seen_up (seen_down p).head (seen_down p).ping (window_log (client_end u)) (window_log (server_end s)) (client_packets u) tells meets.fresh meets.within h.up;
      }

  took-up : (s : List ServerEvent) (u : List ClientEvent) (room : ℕ) (p : ClientPacket) (a : Checked ArriveFault) → server_log.packet_check t.config s p ≡ a → Tells (seen_up p).head (window_log (client_end u)) → Windows t s u
      → Windows t (took_at_server s room (checked_packet p a)) u
  took-up s u room p (Err e) is tells h = h
  took-up s u room p (Ok x) is tells h =
      let meets : Meets (server_end s) (seen_up p) = head-meets t.config.client (server_end s) (seen_up p) (head-ok_up t.config s p (ap is_ok is)) in
      record {
        down = takes seen_down (seen_up p).head (seen_up p).ping (window_log (server_end s)) (window_log (client_end u)) (server_packets s) tells meets.fresh meets.within h.down;
        up = other-takes seen_up (seen_up p).head (seen_up p).ping (window_log (client_end u)) (window_log (server_end s)) (client_packets u) tells meets.fresh h.up;
      }

  given-down : (s : List ServerEvent) (u : List ClientEvent) (k : ℕ) (o : Option ServerPacket) → slice_get (server_packets s) k ≡ o → Windows t s u → Windows t s (given_down t.config o u)
  given-down s u k None e h = h
  given-down s u k (Some p) e h = took-down s u p (client_log.packet_check t.config u p) refl (all-at (TellsOf seen_down (window_log (server_end s))) (server_packets s) k p h.down.told e) h

  given-up : (s : List ServerEvent) (u : List ClientEvent) (k room : ℕ) (o : Option ClientPacket) → slice_get (client_packets u) k ≡ o → Windows t s u → Windows t (given_up t.config room o s) u
  given-up s u k room None e h = h
  given-up s u k room (Some p) e h = took-up s u room p (server_log.packet_check t.config s p) refl (all-at (TellsOf seen_up (window_log (client_end u))) (client_packets u) k p h.up.told e) h

  -- ---- all steps

  pub windows : (steps : List PairStep) → AreGood t steps → Windows t (history t steps).server (history t steps).client
  windows [] fit = record { down = start-way seen_down; up = start-way seen_up }
  windows (Post class v ∷ steps) fit = posts-down class v (history t steps).server (history t steps).client (windows steps fit.1)
  windows (ClientPost class v ∷ steps) fit = posts-up class v (history t steps).server (history t steps).client (windows steps fit.1)
  windows (Sample m ∷ steps) fit = samples-up m (history t steps).server (history t steps).client (windows steps fit.1)
  windows (Show kind block level control ∷ steps) fit = windows steps fit.1
  windows (Hide n ∷ steps) fit = windows steps fit.1
  windows (Near n level ∷ steps) fit = windows steps fit.1
  windows (Pack drains reads ∷ steps) fit =
      packs-down (absorbing drains (history t steps).server) (history t steps).client (values_of reads) (absorbs-down drains (history t steps).server (history t steps).client (windows steps fit.1))
  windows (Raw bytes room ∷ steps) fit = absurd fit.0.honest
  windows (ClientPack ∷ steps) fit = packs-up (history t steps).server (history t steps).client (windows steps fit.1)
  windows (Down k ∷ steps) fit = subst (Windows t (history t steps).server) (sym fit.0.read) (given-down (history t steps).server (history t steps).client k (slice_get (server_packets (history t steps).server) k) refl (windows steps fit.1))
  windows (Up k room ∷ steps) fit = subst (λ (s : List ServerEvent). Windows t s (history t steps).client) (sym fit.0.read) (given-up (history t steps).server (history t steps).client k room (slice_get (client_packets (history t steps).client) k) refl (windows steps fit.1))

-- ---- what the verdicts say

-- number 0 has no verdict
none-judged : (w : List WindowEvent) → fate_of 0 w ≡ Unjudged
none-judged [] = refl
none-judged (Sent ∷ w) = none-judged w
none-judged (Came ping seq ∷ w) = none-judged w
none-judged (Told horizon mask ∷ w) = fate-told_judged 0 horizon mask w (omega arith) ∙ none-judged w

judged-some : (s : ℕ) (w : List WindowEvent) → fate_of s w ≢ Unjudged → 0 < s
judged-some zero w known = absurd (known (none-judged w))
judged-some (suc s) w known = omega arith

judged-within : (s : ℕ) (w : List WindowEvent) → fate_of s w ≢ Unjudged → s ≤ judged_of w
judged-within s w known = elim (cases_lt (judged_of w) s) [ inl above ↦ absurd (known (fate-above s w above)) | inr judged ↦ judged ]

module _ {P : Type 0} (seen : P → Seen) where
  pub true-verdicts : (x y : List EndEvent) (sent : List P) → Way seen (window_log x) (window_log y) sent → VerdictsAreTrue x y
  true-verdicts x y sent way = (λ s e. received (is_processed s (window_log y)) (sym e ∙ says s (λ u. cc)), λ s e. lost (is_processed s (window_log y)) (sym e ∙ says s (λ u. cc)))
    where
      says : (s : ℕ) → fates x s ≢ Unjudged → fates x s ≡ fate_of_bit (bit_of (is_processed s (window_log y)))
      says s known = way.right s (judged-some s (window_log x) known) (judged-within s (window_log x) known)

      received : (b : Bool) → Received ≡ fate_of_bit (bit_of b) → b ≡ true
      received true e = refl
      received false e = cc

      lost : (b : Bool) → Lost ≡ fate_of_bit (bit_of b) → b ≡ false
      lost true e = cc
      lost false e = refl

pub true_down : (t : Terms) (steps : List PairStep) → AreTerms t → AreGood t steps → VerdictsAreTrueDown t steps
true_down t steps limits fit =
    true-verdicts seen_down (server_end (history t steps).server) (client_end (history t steps).client) (server_packets (history t steps).server) (windows t limits steps fit).down

pub true_up : (t : Terms) (steps : List PairStep) → AreTerms t → AreGood t steps → VerdictsAreTrueUp t steps
true_up t steps limits fit =
    true-verdicts seen_up (client_end (history t steps).client) (server_end (history t steps).server) (client_packets (history t steps).client) (windows t limits steps fit).up

-- ---- and go on saying

-- a verdict stays while the window grows
lost-later : (s : ℕ) (old new : List EndEvent) → Grew (window_log old) (window_log new) → fates old s ≡ Lost → fates new s ≡ Lost
lost-later s old new grew e = ap (fate_of s) grew.1 ∙ fate-later s grew.0 (window_log old) (λ u. cc) ∙ e

pub lost_down : (t : Terms) (later steps : List PairStep) → AreTerms t → AreGood t (later ++ steps) → LostForGoodDown t later steps
lost_down t later steps limits fit s e =
    (true_down t (later ++ steps) limits fit).1 s (lost-later s (server_end (history t steps).server) (server_end (history t (later ++ steps)).server) (server-grew t later steps) e)

pub lost_up : (t : Terms) (later steps : List PairStep) → AreTerms t → AreGood t (later ++ steps) → LostForGoodUp t later steps
lost_up t later steps limits fit s e =
    (true_up t (later ++ steps) limits fit).1 s (lost-later s (client_end (history t steps).client) (client_end (history t (later ++ steps)).client) (client-grew t later steps) e)
