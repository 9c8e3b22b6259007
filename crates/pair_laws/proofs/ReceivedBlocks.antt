-- The blocks of each packet that the client processed are among those that came, so each block of a Received packet is held.
use Rattle.std.proofs.Common.{◌≡◌, ℕ, ◌≤◌, ◌+◌, ◌++◌, ◌∙◌, ap, not, ◌&&◌, ◌||◌, inl, inr, ◌==◌, Bool, true, false, List, [], ◌∷◌, if◌then◌else◌, reverse, Option, Some, None, Ok, Err, refl, sym, subst, arith}
use Rattle.std.specs.Prelude.{slice_get, ℤ, is_some}
use Rattle.tn_types.specs.declared.choices.Drain.{Drain}
use Rattle.std.specs.Result.{is_ok}
use Rattle.std.proofs.lemmas.Bool.{cases_lt}
use Rattle.std.specs.List.{AllByRecursion}
use Rattle.std.proofs.lemmas.Grind.{reverse_onto}
use Rattle.std.proofs.lemmas.Bool.Decides.{nat_tests}
use Rattle.tn_types.specs.declared.choices.Class.{Class}
use Rattle.tn_types.specs.declared.choices.Class.TheVariants.{Guaranteed, Loose}
use Rattle.tn_types.specs.declared.moves.MoveBits.{MoveBits}
use Rattle.notify_window.specs.declared.SendState.{SendState}
use Rattle.notify_window.specs.declared.SendState.TheVariants.{Held, Worn, Room}
use Rattle.wire_format.specs.declared.blocks.BlockItem.{BlockItem}
use Rattle.wire_format.specs.declared.client.ClientPacket.{ClientPacket}
use Rattle.wire_format.specs.declared.server.ServerBody.{ServerBody}
use Rattle.wire_format.specs.declared.server.ServerPacket.{ServerPacket}
use Rattle.conn_packing.specs.stream_manager.datablocks.Holding.{held_of}
use Rattle.conn_packing.specs.stream_manager.declared.fault.ArriveFault.{ArriveFault}
use Rattle.conn_packing.specs.stream_manager.declared.fault.ClientFault.{ClientFault}
use Rattle.conn_packing.specs.stream_manager.Limits.{Terms, AreTerms}
use Rattle.tn_types.specs.Checks.{Checked}
use Rattle.conn_packing.specs.stream_manager.Faults.{checked_packet}
use Rattle.conn_packing.specs.stream_manager.End.{window_log, fates, with_event}
use Rattle.conn_packing.specs.stream_manager.Server as server_log
use Rattle.conn_packing.specs.stream_manager.Server.{ServerEvent, server_end, block_log, server_datagrams, server_state, posted_at_server, next_body, server_ping, took_at_server, server_answer, wrote_blocks}
use Rattle.conn_packing.specs.stream_manager.Client as client_log
use Rattle.conn_packing.specs.stream_manager.Client.{ClientEvent, client_end, seen_down, blocks_in, blocks_came, client_datagrams, client_state, posted_at_client, sampled_answer, took_at_client}
use Rattle.conn_packing.specs.Packs.{absorbing, values_of}
use Rattle.pair_core.specs.History.{PairStep, Show, Hide, Near, Post, ClientPost, Sample, Pack, ClientPack, Down, Up, Raw, history, server_posts, client_posts, client_samples}
use Rattle.pair_laws.proofs.Good.{AreGood}
use Rattle.pair_laws.specs.HeldBlocks.{HoldsReceivedBlocks}
use Rattle.conn_packing.proofs.Lists.{all-append, all-at, all-map}
use Rattle.pair_laws.specs.Exchange.{server_packets, client_packets, given_down, given_up}
use Rattle.pair_laws.proofs.VerdictLaw.{Windows, windows, true_down, absorbs-down as windows-absorbed}
use Rattle.notify_window.specs.Log.{sent_of, horizon_of, is_processed, Fate, Unjudged, Received, Lost, is_received}
use Rattle.notify_window.proofs.Horizons.{processed-above}
use Rattle.conn_packing.specs.stream_manager.datablocks.Sending.{SenderEvent, Wrote, carriers}
use Rattle.notify_window.specs.Fates.{any_received}
use Rattle.pair_laws.specs.Verdicts.{ReceivedIsTrue}

-- the blocks of packet n, none where it was not sent
abbrev blocks_of : ℕ → List ServerEvent → List BlockItem
blocks_of n [] = []
blocks_of n (server_log.Posted class payload ∷ log) = blocks_of n log
blocks_of n (server_log.Scoped change ∷ log) = blocks_of n log
blocks_of n (server_log.Planned choices ∷ log) = blocks_of n log
blocks_of n (server_log.Packed p ∷ log) = if p.head.seq == n then p.blocks else blocks_of n log
blocks_of n (server_log.Pinged head ∷ log) = blocks_of n log
blocks_of n (server_log.Took p room ∷ log) = blocks_of n log

abbrev has_block : ℕ → List BlockItem → Bool
has_block b items = is_some (held_of b items)

abbrev sent_by : List ServerEvent → ℕ
sent_by s = sent_of (window_log (server_end s))

-- a packet that was sent and carries block b
abbrev IsCarrier : List ServerEvent → ℕ → ℕ → Type 0
IsCarrier s b n = (n ≤ sent_by s) × (has_block b (blocks_of n s) ≡ true)

-- a packet with the blocks of its number
record Brings (s : List ServerEvent) (p : ServerPacket) : Type 0 where
  pub seq : (seen_down p).head.seq ≤ sent_by s
  pub own : (seen_down p).ping ≡ false → blocks_of (seen_down p).head.seq s ≡ blocks_in p

-- the invariant over the steps
record BlockWay (t : Terms) (s : List ServerEvent) (u : List ClientEvent) : Type 0 where
  pub written : (b : ℕ) → AllByRecursion (IsCarrier s b) (carriers b (block_log s))
  pub reached : (n b : ℕ) → is_processed n (window_log (client_end u)) ≡ true → has_block b (blocks_of n s) ≡ true → has_block b (blocks_came u) ≡ true
  pub brings : AllByRecursion (Brings s) (server_packets s)

-- ---- lists of blocks

held-after : (xs came : List BlockItem) (b : ℕ) → has_block b came ≡ true → has_block b (xs ++ came) ≡ true
held-after [] came b h = h
held-after (x ∷ xs) came b h = go (x.number == b) (held-after xs came b h)
  where
    go : (same : Bool) → has_block b (xs ++ came) ≡ true → is_some (if same then Some x.bytes else held_of b (xs ++ came)) ≡ true
    go true rest = refl
    go false rest = rest

held-before : (xs came : List BlockItem) (b : ℕ) → has_block b xs ≡ true → has_block b (xs ++ came) ≡ true
held-before [] came b h = cc
held-before (x ∷ xs) came b h = go (x.number == b) (held-before xs came b) h
  where
    go : (same : Bool) → (has_block b xs ≡ true → has_block b (xs ++ came) ≡ true) → is_some (if same then Some x.bytes else held_of b xs) ≡ true → is_some (if same then Some x.bytes else held_of b (xs ++ came)) ≡ true
    go true rest e = refl
    go false rest e = rest e

held-reverse : (xs : List BlockItem) (b : ℕ) → has_block b xs ≡ true → has_block b (reverse xs) ≡ true
held-reverse [] b h = cc
held-reverse (x ∷ xs) b h = subst (λ (l : List BlockItem). has_block b l ≡ true) (sym (reverse_onto xs x [])) (go (x.number == b) refl (held-reverse xs b) h)
  where
    go : (same : Bool) → (x.number == b) ≡ same → (has_block b xs ≡ true → has_block b (reverse xs) ≡ true) → is_some (if same then Some x.bytes else held_of b xs) ≡ true → has_block b (reverse xs ++ x ∷ []) ≡ true
    go true is rest e = held-after (reverse xs) (x ∷ []) b (rw is)
    go false is rest e = held-before (reverse xs) (x ∷ []) b (rest e)

wrote : (P : ℕ → Type 0) (b seq : ℕ) (items : List BlockItem) (log : List SenderEvent) → (has_block b items ≡ true → P seq) → AllByRecursion P (carriers b log) → AllByRecursion P (carriers b (wrote_blocks seq items log))
wrote P b seq [] log own all = all
wrote P b seq (item ∷ items) log own all = wrote P b seq items (Wrote seq item.number ∷ log) (later (item.number == b) own) (first (item.number == b) own)
  where
    later : (same : Bool) → (is_some (if same then Some item.bytes else held_of b items) ≡ true → P seq) → has_block b items ≡ true → P seq
    later true f e = f refl
    later false f e = f e

    first : (same : Bool) → (is_some (if same then Some item.bytes else held_of b items) ≡ true → P seq) → AllByRecursion P (if same then seq ∷ carriers b log else carriers b log)
    first true f = (f refl, all)
    first false f = all

module _ (t : Terms) (limits : AreTerms t) where
  posts-down : (class : Class) (v : List ℕ) (s : List ServerEvent) (u : List ClientEvent) → BlockWay t s u → BlockWay t (server_posts t.config class v s) u
  posts-down Loose v s u h = record { written = h.written; reached = h.reached; brings = all-map (Brings s) (Brings (server_log.Posted Loose v ∷ s)) (λ p d. record { seq = d.seq; own = d.own }) (server_packets s) h.brings }
  posts-down Guaranteed v s u h = go (is_ok (posted_at_server t.config s))
    where
      go : (b : Bool) → BlockWay t (if b then server_log.Posted Guaranteed v ∷ s else s) u
      go false = h
      go true = record { written = h.written; reached = h.reached; brings = all-map (Brings s) (Brings (server_log.Posted Guaranteed v ∷ s)) (λ p d. record { seq = d.seq; own = d.own }) (server_packets s) h.brings }

  posts-up : (class : Class) (v : List ℕ) (s : List ServerEvent) (u : List ClientEvent) → BlockWay t s u → BlockWay t s (client_posts t.config class v u)
  posts-up Loose v s u h = record { written = h.written; reached = h.reached; brings = h.brings }
  posts-up Guaranteed v s u h = go (is_ok (posted_at_client t.config u))
    where
      go : (b : Bool) → BlockWay t s (if b then client_log.Posted Guaranteed v ∷ u else u)
      go false = h
      go true = record { written = h.written; reached = h.reached; brings = h.brings }

  samples-up : (m : MoveBits) (s : List ServerEvent) (u : List ClientEvent) → BlockWay t s u → BlockWay t s (client_samples t.config m u)
  samples-up m s u h = go (is_ok (sampled_answer t.config m u))
    where
      go : (b : Bool) → BlockWay t s (if b then client_log.Sampled m ∷ u else u)
      go false = h
      go true = record { written = h.written; reached = h.reached; brings = h.brings }

  scoped : (change : server_log.ScopeChange) (s : List ServerEvent) (u : List ClientEvent) → BlockWay t s u → BlockWay t (server_log.Scoped change ∷ s) u
  scoped change s u h = record { written = h.written; reached = h.reached; brings = all-map (Brings s) (Brings (server_log.Scoped change ∷ s)) (λ p d. record { seq = d.seq; own = d.own }) (server_packets s) h.brings }

  absorbs-down : (drains : List Drain) (s : List ServerEvent) (u : List ClientEvent) → BlockWay t s u → BlockWay t (absorbing drains s) u
  absorbs-down [] s u h = h
  absorbs-down (d ∷ drains) s u h = absorbs-down drains (server_log.Scoped (server_log.Absorb d.n d.bits) ∷ s) u (scoped (server_log.Absorb d.n d.bits) s u h)

  -- a data packet is sent
  sends : (p : ServerBody) (s : List ServerEvent) (u : List ClientEvent) → p.head.seq ≡ sent_by s + 1 → horizon_of (window_log (client_end u)) ≤ sent_by s → BlockWay t s u → BlockWay t (server_log.Packed p ∷ s) u
  sends p s u next known h = record {
    written = λ b. wrote (IsCarrier (server_log.Packed p ∷ s) b) b p.head.seq p.blocks (block_log s)
        (λ e. (omega arith, ap (has_block b) itself ∙ e))
        (all-map (IsCarrier s b) (IsCarrier (server_log.Packed p ∷ s) b) (λ n c. (omega (arith, c.0), ap (has_block b) (older n c.0) ∙ c.1)) (carriers b (block_log s)) (h.written b));
    reached = λ n b done holding. elim (cases_lt (sent_by s) n) [
      | inl above ↦ (let never : is_processed n (window_log (client_end u)) ≡ false = processed-above n (window_log (client_end u)) (omega arith) in absurd cc)
      | inr below ↦ h.reached n b done (sym (ap (has_block b) (older n below)) ∙ holding)
    ];
    brings = all-append (Brings (server_log.Packed p ∷ s)) (server_packets s) _
        (all-map (Brings s) (Brings (server_log.Packed p ∷ s)) (λ q d. record { seq = omega (arith, d.seq); own = λ e. older (seen_down q).head.seq d.seq ∙ d.own e }) (server_packets s) h.brings)
        (record { seq = omega arith; own = λ e. itself }, tt);
  }
    where
      older : (n : ℕ) → n ≤ sent_by s → blocks_of n (server_log.Packed p ∷ s) ≡ blocks_of n s
      older n l = let apart : (p.head.seq == n) ≡ false = grind (arith, nat_tests) in rw apart

      itself : blocks_of p.head.seq (server_log.Packed p ∷ s) ≡ p.blocks
      itself = let alike : (p.head.seq == p.head.seq) ≡ true = grind (arith, nat_tests) in rw alike

  plans : (s : List ServerEvent) (u : List ClientEvent) → BlockWay t s u → BlockWay t (server_log.with_plan t s) u
  plans s u h = record { written = h.written; reached = h.reached; brings = all-map (Brings s) (Brings (server_log.with_plan t s)) (λ p d. record { seq = d.seq; own = d.own }) (server_packets s) h.brings }

  packs-down : (s : List ServerEvent) (u : List ClientEvent) (values : List ℤ) → Windows t s u → BlockWay t s u → BlockWay t (server_log.packing t s values) u
  packs-down s u values w h = go (server_state t.config s) refl
    where
      go : (state : SendState) → server_state t.config s ≡ state → BlockWay t (server_log.packed_onto t s values state) u
      go Worn e = h
      go Held e = record {
        written = h.written;
        reached = h.reached;
        brings = all-append (Brings (server_log.Pinged (server_ping t.config s) ∷ s)) (server_packets s) _
            (all-map (Brings s) (Brings (server_log.Pinged (server_ping t.config s) ∷ s)) (λ p d. record { seq = d.seq; own = d.own }) (server_packets s) h.brings)
            (record { seq = omega arith; own = λ e. absurd cc }, tt);
      }
      go Room e = sends (next_body t s values) (server_log.with_plan t s) u refl w.down.known (plans s u h)

  packs-up : (s : List ServerEvent) (u : List ClientEvent) → BlockWay t s u → BlockWay t s (with_event (client_log.packing t.config u) u)
  packs-up s u h = go (client_state t.config u)
    where
      go : (state : SendState) → BlockWay t s (with_event (client_log.pack_event t.config u state) u)
      go Worn = h
      go Held = record { written = h.written; reached = h.reached; brings = h.brings }
      go Room = record { written = h.written; reached = h.reached; brings = h.brings }

  comes : (p : ServerPacket) (s : List ServerEvent) (u : List ClientEvent) → ((seen_down p).ping ≡ false → blocks_of (seen_down p).head.seq s ≡ blocks_in p) → BlockWay t s u → (n b : ℕ) → has_block b (blocks_of n s) ≡ true
      → (ping : Bool) → (seen_down p).ping ≡ ping → (same : Bool) → ((seen_down p).head.seq == n) ≡ same → ((not ping && same) || is_processed n (window_log (client_end u))) ≡ true → has_block b (reverse (blocks_in p) ++ blocks_came u) ≡ true
  comes p s u own h n b holding true is same e done = held-after (reverse (blocks_in p)) (blocks_came u) b (h.reached n b done holding)
  comes p s u own h n b holding false is false e done = held-after (reverse (blocks_in p)) (blocks_came u) b (h.reached n b done holding)
  comes p s u own h n b holding false is true e done =
      let at : (seen_down p).head.seq ≡ n = grind (arith, nat_tests) in
      held-before (reverse (blocks_in p)) (blocks_came u) b (held-reverse (blocks_in p) b (sym (ap (has_block b) (sym (ap (λ k. blocks_of k s) at) ∙ own is)) ∙ holding))

  took-down : (s : List ServerEvent) (u : List ClientEvent) (p : ServerPacket) (d : Brings s p) (a : Checked ClientFault) → BlockWay t s u → BlockWay t s (took_at_client u (checked_packet p a))
  took-down s u p d (Err e) h = h
  took-down s u p d (Ok x) h = record {
    written = h.written;
    reached = λ n b done holding. comes p s u d.own h n b holding (seen_down p).ping refl ((seen_down p).head.seq == n) refl done;
    brings = h.brings;
  }

  given-down : (s : List ServerEvent) (u : List ClientEvent) (k : ℕ) (o : Option ServerPacket) → slice_get (server_packets s) k ≡ o → BlockWay t s u → BlockWay t s (given_down t.config o u)
  given-down s u k None e h = h
  given-down s u k (Some p) e h = took-down s u p (all-at (Brings s) (server_packets s) k p h.brings e) (client_log.packet_check t.config u p) h

  took-up : (s : List ServerEvent) (u : List ClientEvent) (room : ℕ) (p : ClientPacket) (a : Checked ArriveFault) → BlockWay t s u → BlockWay t (took_at_server s room (checked_packet p a)) u
  took-up s u room p (Err e) h = h
  took-up s u room p (Ok x) h = record { written = h.written; reached = h.reached; brings = all-map (Brings s) (Brings (server_log.Took p room ∷ s)) (λ q d. record { seq = d.seq; own = d.own }) (server_packets s) h.brings }

  given-up : (s : List ServerEvent) (u : List ClientEvent) (room : ℕ) (o : Option ClientPacket) → BlockWay t s u → BlockWay t (given_up t.config room o s) u
  given-up s u room None h = h
  given-up s u room (Some p) h = took-up s u room p (server_log.packet_check t.config s p) h

  way : (steps : List PairStep) → AreGood t steps → BlockWay t (history t steps).server (history t steps).client
  way [] fit = record { written = λ b. tt; reached = λ n b done holding. cc; brings = tt }
  way (Post class v ∷ steps) fit = posts-down class v (history t steps).server (history t steps).client (way steps fit.1)
  way (ClientPost class v ∷ steps) fit = posts-up class v (history t steps).server (history t steps).client (way steps fit.1)
  way (Sample m ∷ steps) fit = samples-up m (history t steps).server (history t steps).client (way steps fit.1)
  way (Show kind block level control ∷ steps) fit = scoped (server_log.Show kind block level control) (history t steps).server (history t steps).client (way steps fit.1)
  way (Hide n ∷ steps) fit = scoped (server_log.Hide n) (history t steps).server (history t steps).client (way steps fit.1)
  way (Near n level ∷ steps) fit = scoped (server_log.Near n level) (history t steps).server (history t steps).client (way steps fit.1)
  way (Pack drains reads ∷ steps) fit =
      packs-down (absorbing drains (history t steps).server) (history t steps).client (values_of reads)
      (windows-absorbed t limits drains (history t steps).server (history t steps).client (windows t limits steps fit.1))
      (absorbs-down drains (history t steps).server (history t steps).client (way steps fit.1))
  way (Raw bytes room ∷ steps) fit = absurd fit.0.honest
  way (ClientPack ∷ steps) fit = packs-up (history t steps).server (history t steps).client (way steps fit.1)
  way (Down k ∷ steps) fit = subst (BlockWay t (history t steps).server) (sym fit.0.read) (given-down (history t steps).server (history t steps).client k (slice_get (server_packets (history t steps).server) k) refl (way steps fit.1))
  way (Up k room ∷ steps) fit = subst (λ (s : List ServerEvent). BlockWay t s (history t steps).client) (sym fit.0.read) (given-up (history t steps).server (history t steps).client room (slice_get (client_packets (history t steps).client) k) (way steps fit.1))

received-held : (t : Terms) (s : List ServerEvent) (u : List ClientEvent) → ReceivedIsTrue (server_end s) (client_end u) → BlockWay t s u → (b : ℕ) (ns : List ℕ) → AllByRecursion (IsCarrier s b) ns → any_received (fates (server_end s)) ns ≡ true → has_block b (blocks_came u) ≡ true
received-held t s u truth h b [] all e = cc
received-held t s u truth h b (n ∷ ns) all e = go (fates (server_end s) n) refl (received-held t s u truth h b ns all.1) e
  where
    go : (f : Fate) → fates (server_end s) n ≡ f → (any_received (fates (server_end s)) ns ≡ true → has_block b (blocks_came u) ≡ true) → (is_received f || any_received (fates (server_end s)) ns) ≡ true → has_block b (blocks_came u) ≡ true
    go Unjudged is rest e = rest e
    go Lost is rest e = rest e
    go Received is rest e = h.reached n b (truth n is) all.0.1

pub holds_received : (t : Terms) (steps : List PairStep) → AreTerms t → AreGood t steps → HoldsReceivedBlocks t steps
holds_received t steps limits fit b e =
    let h : BlockWay t (history t steps).server (history t steps).client = way t limits steps fit in
    received-held t (history t steps).server (history t steps).client (true_down t steps limits fit).0 h b (carriers b (block_log (history t steps).server)) (h.written b) e
