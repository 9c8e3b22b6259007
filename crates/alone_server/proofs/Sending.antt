-- No more datagrams are sent at either end than packs and scans were fed, and no more moves accepted than the connection's life.
use Rattle.std.proofs.Common.{◌≡◌, ℕ, ◌+◌, ◌-◌, ◌≤◌, Bool, true, false, cond, nat_le, List, [], ◌∷◌, ◌++◌, if◌then◌else◌, length, take, drop, Option, Some, None, Result, Ok, Err, arith, length-append}
use Rattle.std.specs.Prelude.{ℤ, slice_get}
use Rattle.std.specs.Result.{is_ok}
use Rattle.std.proofs.lemmas.List.{length-take}
use Rattle.tn_types.specs.declared.choices.Class.{Class}
use Rattle.tn_types.specs.declared.choices.Class.TheVariants.{Guaranteed, Loose}
use Rattle.tn_types.specs.declared.choices.Drain.{Drain}
use Rattle.tn_types.specs.declared.moves.MoveBits.{MoveBits}
use Rattle.notify_window.specs.declared.SendState.{SendState}
use Rattle.notify_window.specs.declared.SendState.TheVariants.{Held, Worn, Room}
use Rattle.move_manager.specs.Sending.{Packet}
use Rattle.move_manager.specs.Accepting.{new_count, accept}
use Rattle.wire_format.specs.declared.client.ClientPacket.{ClientPacket}
use Rattle.wire_format.specs.declared.client.ClientPacket.TheVariants as up
use Rattle.match_script.specs.declared.types.BodyLine.TheVariants as script
use Rattle.stream_manager.specs.declared.fault.ArriveFault.{ArriveFault}
use Rattle.stream_manager.specs.Limits.{Terms}
use Rattle.stream_manager.specs.Server as server_log
use Rattle.stream_manager.specs.Server.{ServerEvent, server_state, server_answer, took_at_server, posted_at_server, accepted_at}
use Rattle.stream_manager.specs.Client.{client_datagrams}
use Rattle.conn_packing.specs.Packs.{absorbing, values_of}
use Rattle.pair_core.specs.History.{PairStep, Show, Hide, Near, Post, ClientPost, Sample, Pack, ClientPack, Down, Up, Raw, history, server_posts, server_gets}
use Rattle.pair_core.specs.Answers.{accepted_in}
use Rattle.own_lists.specs.Own.{OwnItem, Line, Scan, Tick}
use Rattle.own_lists.specs.Kept.{kept, journal}
use Rattle.own_lists.proofs.Counting.{sent_down, sent_up, sends_most, item_sends}
use Rattle.alone_server.specs.Stands.{is_counted, counted_in}

-- ---- datagrams

abbrev count_of : OwnItem → ℕ
count_of item = if is_counted item then 1 else 0

sends_counted : (item : OwnItem) → sends_most item ≤ count_of item
sends_counted (Line script.Tick) = omega arith
sends_counted (Line (script.Scan c)) = omega arith
sends_counted (Line (script.Pack c)) = omega arith
sends_counted (Line (script.ClientPack c)) = omega arith
sends_counted (Line (script.Post c class v)) = omega arith
sends_counted (Line (script.ClientPost c class v)) = omega arith
sends_counted (Line (script.Down c k)) = omega arith
sends_counted (Line (script.Up c k)) = omega arith
sends_counted (Line (script.Raw c bytes)) = omega arith
sends_counted (Line (script.Move c m)) = omega arith
sends_counted (Line (script.Show c)) = omega arith
sends_counted (Line script.World) = omega arith
sends_counted (Scan hides nears shows) = omega arith
sends_counted (Tick writes taken) = omega arith

module _ (t : Terms) where
  counted_more : (item : OwnItem) (items : List OwnItem) → counted_in (item ∷ items) ≡ count_of item + counted_in items
  counted_more item items = go (is_counted item)
    where
      go : (b : Bool) → length (cond b (item ∷ Rattle.std.specs.Prelude.filter is_counted items) (Rattle.std.specs.Prelude.filter is_counted items)) ≡ (if b then 1 else 0) + counted_in items
      go true = omega arith
      go false = omega arith

  pub few_down : (items : List OwnItem) → sent_down t (journal t items) ≤ counted_in items
  few_down [] = omega arith
  few_down (item ∷ items) = omega (arith, few_down items, (item_sends t item (kept t items)).down, sends_counted item, counted_more item items)

  pub few_up : (items : List OwnItem) → sent_up t (journal t items) ≤ counted_in items
  few_up [] = omega arith
  few_up (item ∷ items) = omega (arith, few_up items, (item_sends t item (kept t items)).up, sends_counted item, counted_more item items)

  -- ---- accepted moves

  abbrev AreFew : List ServerEvent → Type 0
  AreFew s = length (accepted_at t.config s) ≤ t.config.life

  accepts_few : (life room : ℕ) (p : Packet) (acc : List MoveBits) → length acc ≤ life → length (accept life room p acc) ≤ life
  accepts_few life room p acc few = go (nat_le p.first (length acc))
    where
      new : List MoveBits
      new = take (new_count life room (length acc) p) (drop (length acc - p.first) p.moves)

      go : (b : Bool) → length (cond b (acc ++ take (new_count life room (length acc) p) (drop (length acc - p.first) p.moves)) acc) ≤ life
      go true = omega (arith, few, length-append acc new, length-take (new_count life room (length acc) p) (drop (length acc - p.first) p.moves))
      go false = few

  took_few : (s : List ServerEvent) (room : ℕ) (a : Result ClientPacket ArriveFault) → AreFew s → AreFew (took_at_server s room a)
  took_few s room (Ok (up.Ping head)) few = few
  took_few s room (Ok (up.Body p)) few = accepts_few t.config.life room (record { first = p.first; moves = p.moves }) (accepted_at t.config s) few
  took_few s room (Err e) few = few

  gets_few : (s : List ServerEvent) (room : ℕ) (o : Option (List ℕ)) → AreFew s → AreFew (server_gets t.config room o s)
  gets_few s room None few = few
  gets_few s room (Some bytes) few = took_few s room (server_answer t.config s bytes) few

  posts_few : (class : Class) (v : List ℕ) (s : List ServerEvent) → AreFew s → AreFew (server_posts t.config class v s)
  posts_few Loose v s few = few
  posts_few Guaranteed v s few = go (is_ok (posted_at_server t.config s))
    where
      go : (b : Bool) → AreFew (if b then server_log.Posted Guaranteed v ∷ s else s)
      go true = few
      go false = few

  absorbs_few : (drains : List Drain) (s : List ServerEvent) → AreFew s → AreFew (absorbing drains s)
  absorbs_few [] s few = few
  absorbs_few (d ∷ drains) s few = absorbs_few drains (server_log.Scoped (server_log.Absorb d.n d.bits) ∷ s) few

  packs_few : (s : List ServerEvent) (values : List ℤ) → AreFew s → AreFew (server_log.packing t s values)
  packs_few s values few = go (server_state t.config s)
    where
      go : (state : SendState) → AreFew (server_log.packed_onto t s values state)
      go Held = few
      go Worn = few
      go Room = few

  pub accepted_few : (steps : List PairStep) → length (accepted_in t steps) ≤ t.config.life
  accepted_few [] = omega arith
  accepted_few (Show kind block level control ∷ steps) = accepted_few steps
  accepted_few (Hide n ∷ steps) = accepted_few steps
  accepted_few (Near n level ∷ steps) = accepted_few steps
  accepted_few (Post class v ∷ steps) = posts_few class v (history t steps).server (accepted_few steps)
  accepted_few (ClientPost class v ∷ steps) = accepted_few steps
  accepted_few (Sample m ∷ steps) = accepted_few steps
  accepted_few (Pack drains reads ∷ steps) =
      packs_few (absorbing drains (history t steps).server) (values_of reads) (absorbs_few drains (history t steps).server (accepted_few steps))
  accepted_few (ClientPack ∷ steps) = accepted_few steps
  accepted_few (Down k ∷ steps) = accepted_few steps
  accepted_few (Up k room ∷ steps) =
      let h = history t steps in gets_few h.server room (slice_get (client_datagrams t.config h.client) k) (accepted_few steps)
  accepted_few (Raw bytes room ∷ steps) = gets_few (history t steps).server room (Some bytes) (accepted_few steps)
