-- Each packet on the way down has blocks of the match alone, and so has each that came.
use Rattle.std.proofs.Common.{◌≡◌, ℕ, zero, suc, ◌<◌, ◌==◌, Bool, true, false, List, [], ◌∷◌, if◌then◌else◌, length, reverse, Option, Some, None, Ok, Err, refl, sym, subst, arith}
use Rattle.std.specs.Prelude.{slice_get, ℤ}
use Rattle.tn_types.specs.declared.choices.Drain.{Drain}
use Rattle.std.specs.Result.{is_ok}
use Rattle.std.specs.List.{AllByRecursion, slice_index_or}
use Rattle.std.proofs.lemmas.Bool.Decides.{nat_tests}
use Rattle.tn_types.specs.declared.choices.Class.{Class}
use Rattle.tn_types.specs.declared.choices.Class.TheVariants.{Guaranteed, Loose}
use Rattle.tn_types.specs.declared.moves.MoveBits.{MoveBits}
use Rattle.notify_window.specs.declared.SendState.{SendState}
use Rattle.notify_window.specs.declared.SendState.TheVariants.{Held, Worn, Room}
use Rattle.wire_format.specs.declared.blocks.BlockItem.{BlockItem}
use Rattle.wire_format.specs.declared.client.ClientPacket.{ClientPacket}
use Rattle.wire_format.specs.declared.server.ServerPacket.{ServerPacket}
use Rattle.conn_packing.specs.stream_manager.datablocks.Holding.{held_of}
use Rattle.conn_packing.specs.stream_manager.declared.fault.ArriveFault.{ArriveFault}
use Rattle.conn_packing.specs.stream_manager.declared.fault.ClientFault.{ClientFault}
use Rattle.conn_packing.specs.stream_manager.Limits.{Terms, AreTerms}
use Rattle.tn_types.specs.Checks.{Checked}
use Rattle.conn_packing.specs.stream_manager.Faults.{checked_packet}
use Rattle.conn_packing.specs.stream_manager.End.{with_event}
use Rattle.conn_packing.specs.stream_manager.Server as server_log
use Rattle.conn_packing.specs.stream_manager.Server.{ServerEvent, server_datagrams, server_state, posted_at_server, next_body, server_ping, took_at_server, server_answer}
use Rattle.conn_packing.specs.stream_manager.Client as client_log
use Rattle.conn_packing.specs.stream_manager.Client.{ClientEvent, blocks_in, blocks_came, client_datagrams, client_state, posted_at_client, sampled_answer, took_at_client}
use Rattle.conn_packing.specs.Packs.{absorbing, values_of}
use Rattle.pair_core.specs.History.{PairStep, Show, Hide, Near, Post, ClientPost, Sample, Pack, ClientPack, Down, Up, Raw, history, server_posts, client_posts, client_samples}
use Rattle.pair_laws.proofs.Good.{AreGood}
use Rattle.pair_laws.specs.HeldBlocks.{IsAsGiven, HoldsBlocksAsGiven}
use Rattle.conn_packing.proofs.Lists.{all-append, all-at, all-reverse}
use Rattle.pair_laws.specs.Exchange.{server_packets, client_packets, given_down, given_up}
use Rattle.pair_laws.proofs.Sections.{blocks-all}

-- a packet whose blocks are all as they were given
abbrev pub BringsGivenBlocks : Terms → ServerPacket → Type 0
BringsGivenBlocks t p = AllByRecursion (IsAsGiven t.blocks) (blocks_in p)

-- the invariant over the steps
pub record Given (t : Terms) (s : List ServerEvent) (u : List ClientEvent) : Type 0 where
  pub down : AllByRecursion (BringsGivenBlocks t) (server_packets s)
  pub came : AllByRecursion (IsAsGiven t.blocks) (blocks_came u)

-- a block of the script, as a packet has it
script-block : (blocks : List (List ℕ)) (b : ℕ) → b < length blocks → slice_get blocks b ≡ Some (slice_index_or blocks b [])
script-block [] b l = absurd (omega arith)
script-block (x ∷ blocks) zero l = refl
script-block (x ∷ blocks) (suc b) l = script-block blocks b (omega arith)

held-given : (blocks : List (List ℕ)) (came : List BlockItem) (b : ℕ) (v : List ℕ) → AllByRecursion (IsAsGiven blocks) came → held_of b came ≡ Some v → slice_get blocks b ≡ Some v
held-given blocks [] b v h e = cc
held-given blocks (item ∷ came) b v h e = go (item.number == b) refl (held-given blocks came b v h.1) e
  where
    go : (same : Bool) → (item.number == b) ≡ same → (held_of b came ≡ Some v → slice_get blocks b ≡ Some v) → (if same then Some item.bytes else held_of b came) ≡ Some v → slice_get blocks b ≡ Some v
    go true is rest found = let at : item.number ≡ b = grind (arith, nat_tests) in let here : IsAsGiven blocks item = h.0 in cc
    go false is rest found = rest found

module _ (t : Terms) (limits : AreTerms t) where
  posts-down : (class : Class) (v : List ℕ) (s : List ServerEvent) (u : List ClientEvent) → Given t s u → Given t (server_posts t.config class v s) u
  posts-down Loose v s u h = record { down = h.down; came = h.came }
  posts-down Guaranteed v s u h = go (is_ok (posted_at_server t.config s))
    where
      go : (b : Bool) → Given t (if b then server_log.Posted Guaranteed v ∷ s else s) u
      go false = h
      go true = record { down = h.down; came = h.came }

  posts-up : (class : Class) (v : List ℕ) (s : List ServerEvent) (u : List ClientEvent) → Given t s u → Given t s (client_posts t.config class v u)
  posts-up Loose v s u h = record { down = h.down; came = h.came }
  posts-up Guaranteed v s u h = go (is_ok (posted_at_client t.config u))
    where
      go : (b : Bool) → Given t s (if b then client_log.Posted Guaranteed v ∷ u else u)
      go false = h
      go true = record { down = h.down; came = h.came }

  samples-up : (m : MoveBits) (s : List ServerEvent) (u : List ClientEvent) → Given t s u → Given t s (client_samples t.config m u)
  samples-up m s u h = go (is_ok (sampled_answer t.config m u))
    where
      go : (b : Bool) → Given t s (if b then client_log.Sampled m ∷ u else u)
      go false = h
      go true = record { down = h.down; came = h.came }

  absorbs-down : (drains : List Drain) (s : List ServerEvent) (u : List ClientEvent) → Given t s u → Given t (absorbing drains s) u
  absorbs-down [] s u h = h
  absorbs-down (d ∷ drains) s u h = absorbs-down drains (server_log.Scoped (server_log.Absorb d.n d.bits) ∷ s) u (record { down = h.down; came = h.came })

  packs-down : (s : List ServerEvent) (u : List ClientEvent) (values : List ℤ) → Given t s u → Given t (server_log.packing t s values) u
  packs-down s u values h = go (server_state t.config s)
    where
      go : (state : SendState) → Given t (server_log.packed_onto t s values state) u
      go Worn = h
      go Held = record {
        down = all-append (BringsGivenBlocks t) (server_packets s) _ h.down (tt, tt);
        came = h.came;
      }
      go Room = record {
        down = all-append (BringsGivenBlocks t) (server_packets s) _ h.down
            (blocks-all (IsAsGiven t.blocks) t (server_log.with_plan t s) (script-block t.blocks), tt);
        came = h.came;
      }

  packs-up : (s : List ServerEvent) (u : List ClientEvent) → Given t s u → Given t s (with_event (client_log.packing t.config u) u)
  packs-up s u h = go (client_state t.config u)
    where
      go : (state : SendState) → Given t s (with_event (client_log.pack_event t.config u state) u)
      go Worn = h
      go Held = record { down = h.down; came = h.came }
      go Room = record { down = h.down; came = h.came }

  took-down : (s : List ServerEvent) (u : List ClientEvent) (p : ServerPacket) (a : Checked ClientFault) → AllByRecursion (IsAsGiven t.blocks) (blocks_in p) → Given t s u → Given t s (took_at_client u (checked_packet p a))
  took-down s u p (Err e) known h = h
  took-down s u p (Ok x) known h = record { down = h.down; came = all-append (IsAsGiven t.blocks) (reverse (blocks_in p)) (blocks_came u) (all-reverse (IsAsGiven t.blocks) (blocks_in p) known) h.came }

  given-down : (s : List ServerEvent) (u : List ClientEvent) (k : ℕ) (o : Option ServerPacket) → slice_get (server_packets s) k ≡ o → Given t s u → Given t s (given_down t.config o u)
  given-down s u k None e h = h
  given-down s u k (Some p) e h = took-down s u p (client_log.packet_check t.config u p) (all-at (BringsGivenBlocks t) (server_packets s) k p h.down e) h

  took-up : (s : List ServerEvent) (u : List ClientEvent) (room : ℕ) (p : ClientPacket) (a : Checked ArriveFault) → Given t s u → Given t (took_at_server s room (checked_packet p a)) u
  took-up s u room p (Err e) h = h
  took-up s u room p (Ok x) h = record { down = h.down; came = h.came }

  given-up : (s : List ServerEvent) (u : List ClientEvent) (room : ℕ) (o : Option ClientPacket) → Given t s u → Given t (given_up t.config room o s) u
  given-up s u room None h = h
  given-up s u room (Some p) h = took-up s u room p (server_log.packet_check t.config s p) h

  pub given : (steps : List PairStep) → AreGood t steps → Given t (history t steps).server (history t steps).client
  given [] fit = record { down = tt; came = tt }
  given (Post class v ∷ steps) fit = posts-down class v (history t steps).server (history t steps).client (given steps fit.1)
  given (ClientPost class v ∷ steps) fit = posts-up class v (history t steps).server (history t steps).client (given steps fit.1)
  given (Sample m ∷ steps) fit = samples-up m (history t steps).server (history t steps).client (given steps fit.1)
  given (Show kind block level control ∷ steps) fit = let h = given steps fit.1 in record { down = h.down; came = h.came }
  given (Hide n ∷ steps) fit = let h = given steps fit.1 in record { down = h.down; came = h.came }
  given (Near n level ∷ steps) fit = let h = given steps fit.1 in record { down = h.down; came = h.came }
  given (Pack drains reads ∷ steps) fit =
      packs-down (absorbing drains (history t steps).server) (history t steps).client (values_of reads)
      (absorbs-down drains (history t steps).server (history t steps).client (given steps fit.1))
  given (Raw bytes room ∷ steps) fit = absurd fit.0.honest
  given (ClientPack ∷ steps) fit = packs-up (history t steps).server (history t steps).client (given steps fit.1)
  given (Down k ∷ steps) fit = subst (Given t (history t steps).server) (sym fit.0.read) (given-down (history t steps).server (history t steps).client k (slice_get (server_packets (history t steps).server) k) refl (given steps fit.1))
  given (Up k room ∷ steps) fit = subst (λ (s : List ServerEvent). Given t s (history t steps).client) (sym fit.0.read) (given-up (history t steps).server (history t steps).client room (slice_get (client_packets (history t steps).client) k) (given steps fit.1))

pub holds_as_given : (t : Terms) (steps : List PairStep) → AreTerms t → AreGood t steps → HoldsBlocksAsGiven t steps
holds_as_given t steps limits fit b v held = held-given t.blocks (blocks_came (history t steps).client) b v (given t limits steps fit).came held
