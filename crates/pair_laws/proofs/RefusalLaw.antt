-- The only refusals between honest ends are that nothing was sent and that a packet is old.
use Rattle.std.proofs.Common.{◌≡◌, ◌<◌, ℕ, zero, suc, ◌≤◌, Bool, true, false, not, ◌&&◌, ◌==◌, nat_le, nat_lt, List, [], ◌∷◌, length, Option, Some, None, if◌then◌else◌, Result, Ok, Err, refl, sym, ◌∙◌, ap, subst, arith}
use Rattle.std.specs.Prelude.{slice_get}
use Rattle.std.specs.Str.{bytes_eq}
use Rattle.std.specs.List.{AllByRecursion, slice_index_or}
use Rattle.std.proofs.lemmas.Bool.Decides.{nat_tests}
use Rattle.std.proofs.lemmas.Slice.Eq.{bytes_eq-Decides}
use Rattle.notify_window.specs.Log.{sent_of, horizon_of}
use Rattle.wire_format.specs.declared.blocks.BlockItem.{BlockItem}
use Rattle.wire_format.specs.declared.events.EventItem.{EventItem}
use Rattle.wire_format.specs.declared.server.ServerPacket.{ServerPacket}
use Rattle.wire_format.specs.declared.server.ServerPacket.TheVariants as down
use Rattle.wire_format.specs.declared.client.ClientPacket.{ClientPacket}
use Rattle.wire_format.specs.declared.client.ClientPacket.TheVariants as up
use Rattle.conn_packing.specs.stream_manager.datablocks.Holding.{held_of, bytes_differ}
use Rattle.event_manager.specs.Receiving.{run_of, take_answer}
use Rattle.conn_packing.specs.stream_manager.declared.fault.HeadFault.{HeadFault}
use Rattle.conn_packing.specs.stream_manager.declared.fault.HeadFault.TheVariants.{WrongClient, Old, AckAhead}
use Rattle.conn_packing.specs.stream_manager.declared.fault.ArriveFault.{ArriveFault}
use Rattle.conn_packing.specs.stream_manager.declared.fault.ClientFault.{ClientFault}
use Rattle.conn_packing.specs.stream_manager.Limits.{Terms, AreTerms}
use Rattle.tn_types.specs.declared.choices.Class.TheVariants.{Guaranteed, Loose}
use Rattle.notify_window.specs.declared.SendState.{SendState}
use Rattle.notify_window.specs.declared.SendState.TheVariants.{Held, Worn, Room}
use Rattle.event_manager.specs.declared.sender.PostFault.{PostFault}
use Rattle.move_manager.specs.declared.faults.MoveFault.{MoveFault}
use Rattle.wire_format.specs.declared.server.ServerBody.{ServerBody}
use Rattle.tn_types.specs.Checks.{Checked, then_check}
use Rattle.conn_packing.specs.stream_manager.Faults.{head_at_server, head_at_client, events_at_server, events_at_client, checked_packet, without_packet}
use Rattle.conn_packing.specs.stream_manager.End.{Seen, EndEvent, window_log, came_of, head_answer, events_answer}
use Rattle.conn_packing.specs.stream_manager.Server as server_log
use Rattle.conn_packing.specs.stream_manager.Server.{ServerEvent, server_end, server_datagrams, seen_up, server_state, posted_at_server, accepted_at, taken_of, server_answer}
use Rattle.conn_packing.specs.stream_manager.Client as client_log
use Rattle.conn_packing.specs.stream_manager.Client.{ClientEvent, client_end, client_datagrams, client_state, posted_at_client, sampled_answer, seen_down, blocks_check, blocks_came, sampled_at, client_answer}
use Rattle.wire_logs.specs.ghost_logs.Blocks.{RefusesNoGhosts}
use Rattle.wire_logs.proofs.Below.ghost_logs.Refused.{refuses-no-ghosts}
use Rattle.pair_core.specs.History.{PairStep, Show, Hide, Near, Post, ClientPost, Sample, Pack, ClientPack, Down, Up, Raw, history}
use Rattle.pair_core.specs.Conditions.{IsHonestStep}
use Rattle.pair_core.specs.Answers.{answer, made, post_answer, sample_answer, came_down, brought_down, came_up, brought_up}
use Rattle.pair_laws.proofs.Good.{AreGood}
use Rattle.pair_laws.proofs.Joined.{WasSent, Joins, joins, joined}
use Rattle.pair_laws.proofs.ReceivedBlocks.{holds_received}
use Rattle.pair_laws.proofs.LooseItems.{not-old}
use Rattle.pair_laws.proofs.LooseEvents.{passed-at_client}
use Rattle.pair_laws.specs.Laws.{posted_at}
use Rattle.pair_laws.specs.Refusals.{IsOldAtClient, IsOldAtServer, RefusesLittle}
use Rattle.conn_packing.proofs.Lists.{all-at, all-map}
use Rattle.pair_laws.specs.Exchange.{server_packets, client_packets}
use Rattle.pair_laws.proofs.Packets.{IsReadDown, IsReadUp, packet-down, packet-up}
use Rattle.pair_laws.proofs.Delivered.{read-down, read-up}
use Rattle.pair_laws.proofs.Carried.{Carried, carried, IsDown, TellsAtMost}
use Rattle.pair_laws.proofs.Windows.{TellsOf, tested}
use Rattle.pair_laws.proofs.VerdictLaw.{Windows, windows}
use Rattle.wire_logs.proofs.Below.event_logs.Sent.{events_of}
use Rattle.pair_laws.proofs.Reached.{IsNear, Brings}
use Rattle.pair_laws.specs.HeldBlocks.{IsAsGiven}
use Rattle.pair_laws.proofs.HeldBlocks.{given}
use Rattle.pair_laws.proofs.Honest.{IsOf, IsScript, BeginsWithin, Honest, honest}

-- ---- the header

abbrev HeadOldOnly : Checked HeadFault → Type 0
HeadOldOnly (Ok u) = Unit {0}
HeadOldOnly (Err (WrongClient named)) = ⊥
HeadOldOnly (Err (Old seq horizon)) = Unit {0}
HeadOldOnly (Err (AckAhead horizon last)) = ⊥

head-little : (client : ℕ) (log : List EndEvent) (p : Seen) → p.head.client ≡ client → p.head.horizon ≤ sent_of (window_log log) → HeadOldOnly (head_answer client log p)
head-little client log p named within =
    let same : (p.head.client == client) ≡ true = grind (arith, nat_tests) in
    let inside : nat_lt (sent_of (window_log log)) p.head.horizon ≡ false = grind (arith, nat_tests) in
    go (not (p.head.client == client)) (not p.ping && nat_le p.head.seq (horizon_of (window_log log))) (nat_lt (sent_of (window_log log)) p.head.horizon) (ap not same) inside
  where
    go : (a b c : Bool) → a ≡ false → c ≡ false → HeadOldOnly (tested log p a b c)
    go true b c e f = cc
    go false true c e f = tt
    go false false true e f = cc
    go false false false e f = tt

-- ---- the events

events-little : (run : ℕ) (items : List EventItem) → AllByRecursion (IsNear run) items → take_answer run items ≡ Ok tt
events-little run [] near = refl
events-little run (item ∷ items) near = rw near.0 (events-little run items near.1)

-- ---- the client

abbrev OldOnlyDown : Checked ClientFault → Type 0
OldOnlyDown (Ok u) = Unit {0}
OldOnlyDown (Err e) = IsOldAtClient e

head-down : (r : Checked HeadFault) → HeadOldOnly r → OldOnlyDown (head_at_client r)
head-down (Ok u) h = tt
head-down (Err (WrongClient named)) h = absurd h
head-down (Err (Old seq horizon)) h = tt
head-down (Err (AckAhead horizon last)) h = absurd h

then-down : (r next : Checked ClientFault) → (r ≡ Ok tt → next ≡ Ok tt) → OldOnlyDown r → OldOnlyDown (then_check r next)
then-down (Ok u) next is h = rw (is refl) tt
then-down (Err e) next is h = h

all-pass : {E : Type 0} (a b c d : Checked E) → a ≡ Ok tt → b ≡ Ok tt → c ≡ Ok tt → d ≡ Ok tt → then_check a (then_check b (then_check c d)) ≡ Ok tt
all-pass a b c d ea eb ec ed = rw (ea, eb, ec, ed)

-- a block that comes is held with the same bytes, if it is held
given-bytes : (blocks : List (List ℕ)) (number : ℕ) (bytes : List ℕ) → slice_get blocks number ≡ Some bytes → bytes ≡ slice_index_or blocks number []
given-bytes [] number bytes is = cc
given-bytes (block ∷ blocks) zero bytes is = cc
given-bytes (block ∷ blocks) (suc number) bytes is = given-bytes blocks number bytes is

same-held : (blocks : List (List ℕ)) (number : ℕ) (came : List BlockItem) → AllByRecursion (IsOf blocks) came → bytes_differ (held_of number came) (slice_index_or blocks number []) ≡ false
same-held blocks number [] all = refl
same-held blocks number (item ∷ came) all = go (item.number == number) refl (same-held blocks number came all.1)
  where
    itself : (v : List ℕ) → not (bytes_eq v v) ≡ false
    itself v = ap not ((bytes_eq-Decides v v).1 refl)

    go : (b : Bool) → (item.number == number) ≡ b → bytes_differ (held_of number came) (slice_index_or blocks number []) ≡ false → bytes_differ (if b then Some item.bytes else held_of number came) (slice_index_or blocks number []) ≡ false
    go false e rest = rest
    go true e rest =
        let same : item.number ≡ number = grind (arith, nat_tests) in
        let bytes : item.bytes ≡ slice_index_or blocks number [] = all.0 ∙ ap (λ (n : ℕ). slice_index_or blocks n []) same in
        rw bytes (itself (slice_index_or blocks number []))

blocks-little : (blocks : List (List ℕ)) (came items : List BlockItem) → AllByRecursion (IsOf blocks) came → AllByRecursion (IsOf blocks) items → blocks_check came items ≡ Ok tt
blocks-little blocks came [] all these = refl
blocks-little blocks came (item ∷ items) all these =
    let held : bytes_differ (held_of item.number came) item.bytes ≡ false = ap (bytes_differ (held_of item.number came)) these.0 ∙ same-held blocks item.number came all in
    rw held (blocks-little blocks (item ∷ came) items (these.0, all) these.1)

module _ (t : Terms) where
  check-down : (u : List ClientEvent) (p : ServerPacket) → (seen_down p).head.client ≡ t.config.client → (seen_down p).head.horizon ≤ sent_of (window_log (client_end u)) → TellsAtMost (length (sampled_at u)) p
      → AllByRecursion (IsNear (run_of (came_of (client_end u)))) (seen_down p).events → IsScript t.blocks p → ((q : ServerBody) → p ≡ down.Body q → horizon_of (window_log (client_end u)) < q.head.seq → client_log.ghosts_check u q ≡ Ok tt) → AllByRecursion (IsOf t.blocks) (blocks_came u) → OldOnlyDown (client_log.packet_check t.config u p)
  check-down u (down.Ping head) named within tells near script ghosts came = head-down (head_answer t.config.client (client_end u) (seen_down (down.Ping head))) (head-little t.config.client (client_end u) (seen_down (down.Ping head)) named within)
  check-down u (down.Body p) named within tells near script ghosts came =
      let few : nat_lt (length (sampled_at u)) p.accepted ≡ false = grind (arith, nat_tests) in
      then-down (head_at_client (head_answer t.config.client (client_end u) (seen_down (down.Body p)))) (client_log.body_check u p)
      (λ passed. all-pass (client_log.moves_check u p.accepted) (blocks_check (blocks_came u) p.blocks) (events_at_client (events_answer (client_end u) p.events)) (client_log.ghosts_check u p)
      (rw few) (blocks-little t.blocks (blocks_came u) p.blocks came script) (ap events_at_client (events-little (run_of (came_of (client_end u))) p.events near))
      (ghosts p refl (not-old t.config.client (client_end u) (seen_down (down.Body p)) (passed-at_client (head_answer t.config.client (client_end u) (seen_down (down.Body p))) passed))))
      (head-down (head_answer t.config.client (client_end u) (seen_down (down.Body p))) (head-little t.config.client (client_end u) (seen_down (down.Body p)) named within))

  answer-down : (p : ServerPacket) (a : Checked ClientFault) → OldOnlyDown a → RefusesLittle (came_down (without_packet (checked_packet p a)))
  answer-down p (Ok u) h = tt
  answer-down p (Err e) h = h

  tells-fewer : (m n : ℕ) (p : ServerPacket) → m ≤ n → TellsAtMost m p → TellsAtMost n p
  tells-fewer m n (down.Ping head) l h = tt
  tells-fewer m n (down.Body p) l h = omega arith

  module _ (s : List ServerEvent) (u : List ClientEvent) (c : Carried t s u) (w : Windows t s u) (h : Honest t s u) (j : Joins t s u) (none : RefusesNoGhosts s u) (came : AllByRecursion (IsOf t.blocks) (blocks_came u)) where
    given-down : (k : ℕ) (p : ServerPacket) → slice_get (server_packets s) k ≡ Some p → RefusesLittle (came_down (without_packet (checked_packet p (client_log.packet_check t.config u p))))
    given-down k p e =
        let b : Brings seen_down (IsScript t.blocks) t.config.client (λ n. events_of n (server_end s)) (sent_of (window_log (server_end s))) (run_of (came_of (client_end u))) p = all-at _ (server_packets s) k p h.down.brings e in
        let d : IsDown t (posted_at (server_end s)) (length (accepted_at t.config s)) p = all-at _ (server_packets s) k p c.down e in
        let x : TellsOf seen_down (window_log (server_end s)) p = all-at (TellsOf seen_down (window_log (server_end s))) (server_packets s) k p w.down.told e in
        let y : WasSent s p = all-at (WasSent s) (server_packets s) k p j.sent e in
        answer-down p (client_log.packet_check t.config u p)
        (check-down u p b.client (omega (arith, x.known, w.up.known)) (tells-fewer (length (accepted_at t.config s)) (length (sampled_at u)) p c.moves.front.within d.tells) b.near b.good
        (λ q is above. none q (subst (WasSent s) is y) above) came)

    brings-down : AllByRecursion (IsReadDown t u) (server_packets s) → (k : ℕ) (o : Option (List ℕ)) → slice_get (server_datagrams t s) k ≡ o → RefusesLittle (brought_down t (record { server = s; client = u }) k o)
    brings-down read k None e = tt
    brings-down read k (Some bytes) e =
        let it = packet-down t s k bytes e in
        subst (λ (v : List ℕ). RefusesLittle (came_down (without_packet (client_answer t.config t.kinds u v)))) it.spelled
        (subst (λ (a : Result ServerPacket ClientFault). RefusesLittle (came_down (without_packet a))) (sym (all-at (IsReadDown t u) (server_packets s) k it.packet read it.there)) (given-down k it.packet it.there))

pub little_down : (t : Terms) (steps : List PairStep) (k : ℕ) → AreTerms t → AreGood t steps → RefusesLittle (answer t steps (Down k))
little_down t steps k limits fit =
    let c = carried t limits steps fit in
    brings-down t (history t steps).server (history t steps).client c (windows t limits steps fit) (honest t limits steps fit) (joins t limits steps fit)
    (refuses-no-ghosts t (history t steps).server (history t steps).client c.legal (joined t limits steps fit) (holds_received t steps limits fit))
    (all-map (IsAsGiven t.blocks) (IsOf t.blocks) (λ item is. given-bytes t.blocks item.number item.bytes is) (blocks_came (history t steps).client) (given t limits steps fit).came)
    (read-down t limits steps fit) k (slice_get (server_datagrams t (history t steps).server) k) refl

-- ---- the server

abbrev OldOnlyUp : Checked ArriveFault → Type 0
OldOnlyUp (Ok u) = Unit {0}
OldOnlyUp (Err e) = IsOldAtServer e

head-up : (r : Checked HeadFault) → HeadOldOnly r → OldOnlyUp (head_at_server r)
head-up (Ok u) h = tt
head-up (Err (WrongClient named)) h = absurd h
head-up (Err (Old seq horizon)) h = tt
head-up (Err (AckAhead horizon last)) h = absurd h

then-up : (r next : Checked ArriveFault) → next ≡ Ok tt → OldOnlyUp r → OldOnlyUp (then_check r next)
then-up (Ok u) next is h = rw is tt
then-up (Err e) next is h = h

both-pass : {E : Type 0} (a b : Checked E) → a ≡ Ok tt → b ≡ Ok tt → then_check a b ≡ Ok tt
both-pass a b ea eb = rw (ea, eb)

module _ (t : Terms) where
  check-up : (s : List ServerEvent) (p : ClientPacket) → (seen_up p).head.client ≡ t.config.client → (seen_up p).head.horizon ≤ sent_of (window_log (server_end s))
      → AllByRecursion (IsNear (run_of (came_of (server_end s)))) (seen_up p).events → BeginsWithin (length (accepted_at t.config s)) p → OldOnlyUp (server_log.packet_check t.config s p)
  check-up s (up.Ping head) named within near begins = head-up (head_answer t.config.client (server_end s) (seen_up (up.Ping head))) (head-little t.config.client (server_end s) (seen_up (up.Ping head)) named within)
  check-up s (up.Body p) named within near begins =
      let no_gap : nat_lt (length (accepted_at t.config s)) p.first ≡ false = grind (arith, nat_tests) in
      then-up (head_at_server (head_answer t.config.client (server_end s) (seen_up (up.Body p)))) (server_log.body_check t.config s p)
      (both-pass (server_log.gap_check t.config s p.first) (events_at_server (events_answer (server_end s) p.events)) (rw no_gap) (ap events_at_server (events-little (run_of (came_of (server_end s))) p.events near)))
      (head-up (head_answer t.config.client (server_end s) (seen_up (up.Body p))) (head-little t.config.client (server_end s) (seen_up (up.Body p)) named within))

  answer-up : (s : List ServerEvent) (room : ℕ) (p : ClientPacket) (a : Checked ArriveFault) → OldOnlyUp a → RefusesLittle (came_up (taken_of t.config s room (checked_packet p a)))
  answer-up s room p (Ok u) h = tt
  answer-up s room p (Err e) h = h

  module _ (s : List ServerEvent) (u : List ClientEvent) (w : Windows t s u) (h : Honest t s u) (room : ℕ) where
    given-up : (k : ℕ) (p : ClientPacket) → slice_get (client_packets u) k ≡ Some p → RefusesLittle (came_up (taken_of t.config s room (checked_packet p (server_log.packet_check t.config s p))))
    given-up k p e =
        let b : Brings seen_up (BeginsWithin (length (accepted_at t.config s))) t.config.client (λ n. events_of n (client_end u)) (sent_of (window_log (client_end u))) (run_of (came_of (server_end s))) p = all-at _ (client_packets u) k p h.up.brings e in
        let x : TellsOf seen_up (window_log (client_end u)) p = all-at (TellsOf seen_up (window_log (client_end u))) (client_packets u) k p w.up.told e in
        answer-up s room p (server_log.packet_check t.config s p) (check-up s p b.client (omega (arith, x.known, w.down.known)) b.near b.good)

    brings-up : AllByRecursion (IsReadUp t.config s) (client_packets u) → (k : ℕ) (o : Option (List ℕ)) → slice_get (client_datagrams t.config u) k ≡ o → RefusesLittle (brought_up t (record { server = s; client = u }) k room o)
    brings-up read k None e = tt
    brings-up read k (Some bytes) e =
        let it = packet-up t.config u k bytes e in
        subst (λ (v : List ℕ). RefusesLittle (came_up (taken_of t.config s room (server_answer t.config s v)))) it.spelled
        (subst (λ (a : Result ClientPacket ArriveFault). RefusesLittle (came_up (taken_of t.config s room a))) (sym (all-at (IsReadUp t.config s) (client_packets u) k it.packet read it.there)) (given-up k it.packet it.there))

pub little_up : (t : Terms) (steps : List PairStep) (k room : ℕ) → AreTerms t → AreGood t steps → RefusesLittle (answer t steps (Up k room))
little_up t steps k room limits fit =
    brings-up t (history t steps).server (history t steps).client (windows t limits steps fit) (honest t limits steps fit) room
    (read-up t limits steps fit) k (slice_get (client_datagrams t.config (history t steps).client) k) refl

-- ---- all steps

little-made : (state : SendState) (life place : ℕ) → RefusesLittle (made state life place)
little-made Held life place = tt
little-made Worn life place = tt
little-made Room life place = tt

little-post : (r : Result ℕ PostFault) → RefusesLittle (post_answer r)
little-post (Ok n) = tt
little-post (Err e) = tt

little-sample : (r : Result ℕ MoveFault) → RefusesLittle (sample_answer r)
little-sample (Ok n) = tt
little-sample (Err e) = tt

pub little : (t : Terms) (steps : List PairStep) (step : PairStep) → AreTerms t → AreGood t steps → IsHonestStep step → RefusesLittle (answer t steps step)
little t steps (Show kind block level control) limits fit honest = tt
little t steps (Hide n) limits fit honest = tt
little t steps (Near n level) limits fit honest = tt
little t steps (Post Guaranteed v) limits fit honest = little-post (posted_at_server t.config (history t steps).server)
little t steps (Post Loose v) limits fit honest = tt
little t steps (ClientPost Guaranteed v) limits fit honest = little-post (posted_at_client t.config (history t steps).client)
little t steps (ClientPost Loose v) limits fit honest = tt
little t steps (Sample m) limits fit honest = little-sample (sampled_answer t.config m (history t steps).client)
little t steps (Pack drains reads) limits fit honest = little-made (server_state t.config (history t steps).server) t.config.life (length (server_datagrams t (history t steps).server))
little t steps ClientPack limits fit honest = little-made (client_state t.config (history t steps).client) t.config.life (length (client_datagrams t.config (history t steps).client))
little t steps (Down k) limits fit honest = little_down t steps k limits fit
little t steps (Up k room) limits fit honest = little_up t steps k room limits fit
little t steps (Raw bytes room) limits fit honest = absurd honest
