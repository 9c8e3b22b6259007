-- No more datagrams are sent at either end than counted items stand in the own list: only a pack sends one.
use Rattle.std.proofs.Common.{◌≡◌, ℕ, suc, ◌+◌, ◌≤◌, Bool, true, false, List, [], ◌∷◌, ◌++◌, if◌then◌else◌, length, refl, sym, ap, subst, arith, length-append}
use Rattle.std.specs.Prelude.{ℤ, Some, slice_get, map}
use Rattle.std.specs.Result.{is_ok}
use Rattle.tn_types.specs.declared.choices.Class.{Class}
use Rattle.tn_types.specs.declared.choices.Class.TheVariants.{Guaranteed, Loose}
use Rattle.tn_types.specs.declared.moves.MoveBits.{MoveBits}
use Rattle.notify_window.specs.declared.SendState.{SendState}
use Rattle.notify_window.specs.declared.SendState.TheVariants.{Held, Worn, Room}
use Rattle.wire_format.specs.declared.server.ServerPacket.TheVariants as down
use Rattle.bit_stream.specs.WorldMoves.{bits_of}
use Rattle.match_script.specs.declared.types.BodyLine.{BodyLine}
use Rattle.match_script.specs.declared.types.BodyLine.TheVariants as script
use Rattle.client_scope.specs.declared.period.Near.{Near as NearPeriod}
use Rattle.pair_steps.specs.stream_manager.declared.config.Config.{Config}
use Rattle.pair_steps.specs.stream_manager.Limits.{Terms}
use Rattle.pair_steps.specs.stream_manager.End.{with_event as after}
use Rattle.pair_steps.specs.stream_manager.Wire.{bytes_down}
use Rattle.pair_steps.specs.stream_manager.Server as server_log
use Rattle.pair_steps.specs.stream_manager.Server.{ServerEvent, server_datagrams, server_state, posted_at_server, next_body, server_ping_bytes}
use Rattle.pair_steps.specs.stream_manager.Client as client_log
use Rattle.pair_steps.specs.stream_manager.Client.{ClientEvent, client_datagrams, client_state, posted_at_client, client_bytes, client_ping_bytes, sampled_answer}
use Rattle.pair_steps.specs.conn_packing.Packs.{absorbing, values_of}
use Rattle.pair_steps.specs.pair_core.History.{PairStep, Show, Hide, Near, Post, ClientPost, Sample, Pack, ClientPack, Down, Up, Raw, history, server_posts, client_posts, client_samples}
use Rattle.pair_steps.proofs.Below.pair_core.Brought.{gets_sends_up, gets_sends_down}
use Rattle.pair_steps.proofs.Below.conn_packing.Absorbed.{absorbed-sends}
use Rattle.own_lists.specs.Own.{OwnShow, OwnItem, Line, Scan, Tick}
use Rattle.own_lists.specs.Counted.{counted, counted_in}
use Rattle.own_lists.specs.Course.{onto, hide_step, near_step, show_step, scan_steps}
use Rattle.own_lists.specs.Kept.{Kept, after_line, follows, kept, journal}
use Rattle.own_lists.specs.declared.showing.Showing.{Showing}
use Rattle.own_lists.proofs.KeptValues.{wrote_course}
use Rattle.own_lists.proofs.Meeting.{scan_journal}

-- ---- counted items and lines

-- an item is counted where the line is of which it comes
abbrev pub counted_item : OwnItem → ℕ
counted_item (Line line) = counted line
counted_item (Scan hides nears shows) = 1
counted_item (Tick writes taken) = 1

abbrev pub counted_items : List OwnItem → ℕ
counted_items [] = 0
counted_items (item ∷ items) = counted_item item + counted_items items

pub one_counted : (line : BodyLine) → counted line ≤ 1
one_counted script.Tick = omega arith
one_counted (script.Scan c) = omega arith
one_counted (script.Pack c) = omega arith
one_counted (script.ClientPack c) = omega arith
one_counted (script.Post c class v) = omega arith
one_counted (script.ClientPost c class v) = omega arith
one_counted (script.Down c k) = omega arith
one_counted (script.Up c k) = omega arith
one_counted (script.Raw c bytes) = omega arith
one_counted (script.Move c m) = omega arith
one_counted (script.Show c) = omega arith
one_counted script.World = omega arith

-- no more lines are counted than there are
pub counted_few : (past : List BodyLine) → counted_in past ≤ length past
counted_few [] = omega arith
counted_few (line ∷ past) = let h = counted_few past in let one = one_counted line in omega (arith, h, one)

-- ---- only a pack sends a datagram

-- how many datagrams an item makes an end send, at the most
abbrev pub sends_most : OwnItem → ℕ
sends_most (Line (script.Pack c)) = 1
sends_most (Line (script.ClientPack c)) = 1
sends_most item = 0

sends_counted : (item : OwnItem) → sends_most item ≤ counted_item item
sends_counted (Line script.Tick) = omega arith
sends_counted (Line (script.Scan c)) = omega arith
sends_counted (Line (script.Pack c)) = omega arith
sends_counted (Line (script.ClientPack c)) = omega arith
sends_counted (Line (script.Post c class v)) = omega arith
sends_counted (Line (script.ClientPost c class v)) = omega arith
sends_counted (Line (script.Down c k)) = omega arith
sends_counted (Line (script.Up c k)) = omega arith
sends_counted (Line (script.Raw c bytes)) = omega arith
sends_counted (Line (script.Move c m)) = omega arith
sends_counted (Line (script.Show c)) = omega arith
sends_counted (Line script.World) = omega arith
sends_counted (Scan hides nears shows) = omega arith
sends_counted (Tick writes taken) = omega arith

-- ---- one step sends one datagram at most

server-posts : (t : Terms) (class : Class) (v : List ℕ) (s : List ServerEvent)
    → server_datagrams t (server_posts t.config class v s) ≡ server_datagrams t s
server-posts t Loose v s = refl
server-posts t Guaranteed v s = go (is_ok (posted_at_server t.config s))
  where
    go : (b : Bool) → server_datagrams t (if b then server_log.Posted Guaranteed v ∷ s else s) ≡ server_datagrams t s
    go true = refl
    go false = refl

client-posts : (c : Config) (class : Class) (v : List ℕ) (u : List ClientEvent)
    → client_datagrams c (client_posts c class v u) ≡ client_datagrams c u
client-posts c Loose v u = refl
client-posts c Guaranteed v u = go (is_ok (posted_at_client c u))
  where
    go : (b : Bool) → client_datagrams c (if b then client_log.Posted Guaranteed v ∷ u else u) ≡ client_datagrams c u
    go true = refl
    go false = refl

client-samples : (c : Config) (m : MoveBits) (u : List ClientEvent) → client_datagrams c (client_samples c m u) ≡ client_datagrams c u
client-samples c m u = go (is_ok (sampled_answer c m u))
  where
    go : (b : Bool) → client_datagrams c (if b then client_log.Sampled m ∷ u else u) ≡ client_datagrams c u
    go true = refl
    go false = refl

server-packs : (t : Terms) (values : List ℤ) (s : List ServerEvent)
    → length (server_datagrams t (server_log.packing t s values)) ≤ suc (length (server_datagrams t s))
server-packs t values s = go (server_state t.config s)
  where
    go : (state : SendState) → length (server_datagrams t (server_log.packed_onto t s values state)) ≤ suc (length (server_datagrams t s))
    go Held = omega (arith, length-append (server_datagrams t s) (server_ping_bytes t s ∷ []))
    go Worn = omega arith
    go Room = omega (arith, length-append (server_datagrams t s) (bytes_down t (down.Body (next_body t s values)) ∷ []))

client-packs : (c : Config) (u : List ClientEvent)
    → length (client_datagrams c (after (client_log.packing c u) u)) ≤ suc (length (client_datagrams c u))
client-packs c u = go (client_state c u)
  where
    go : (state : SendState) → length (client_datagrams c (after (client_log.pack_event c u state) u)) ≤ suc (length (client_datagrams c u))
    go Held = omega (arith, length-append (client_datagrams c u) (client_ping_bytes c u ∷ []))
    go Worn = omega arith
    go Room = omega (arith, length-append (client_datagrams c u) (client_bytes c u ∷ []))

module _ (t : Terms) where
  -- how many datagrams the server sent, and the client
  abbrev pub sent_down : List PairStep → ℕ
  sent_down steps = length (server_datagrams t (history t steps).server)

  abbrev pub sent_up : List PairStep → ℕ
  sent_up steps = length (client_datagrams t.config (history t steps).client)

  pub step_down : (step : PairStep) (steps : List PairStep) → sent_down (step ∷ steps) ≤ suc (sent_down steps)
  step_down (Show kind block level control) steps = omega arith
  step_down (Hide n) steps = omega arith
  step_down (Near n level) steps = omega arith
  step_down (Post class v) steps = omega (arith, ap length (server-posts t class v (history t steps).server))
  step_down (ClientPost class v) steps = omega arith
  step_down (Sample m) steps = omega arith
  step_down (Pack drains reads) steps =
      let s = (history t steps).server in omega (arith, server-packs t (values_of reads) (absorbing drains s), ap length (absorbed-sends t drains s))
  step_down ClientPack steps = omega arith
  step_down (Down k) steps = omega arith
  step_down (Up k room) steps =
      let h = history t steps in omega (arith, ap length (gets_sends_down t room (slice_get (client_datagrams t.config h.client) k) h.server))
  step_down (Raw bytes room) steps = omega (arith, ap length (gets_sends_down t room (Some bytes) (history t steps).server))

  pub step_up : (step : PairStep) (steps : List PairStep) → sent_up (step ∷ steps) ≤ suc (sent_up steps)
  step_up (Show kind block level control) steps = omega arith
  step_up (Hide n) steps = omega arith
  step_up (Near n level) steps = omega arith
  step_up (Post class v) steps = omega arith
  step_up (ClientPost class v) steps = omega (arith, ap length (client-posts t.config class v (history t steps).client))
  step_up (Sample m) steps = omega (arith, ap length (client-samples t.config m (history t steps).client))
  step_up (Pack drains reads) steps = omega arith
  step_up ClientPack steps = client-packs t.config (history t steps).client
  step_up (Down k) steps =
      let h = history t steps in omega (arith, ap length (gets_sends_up t (slice_get (server_datagrams t h.server) k) h.client))
  step_up (Up k room) steps = omega arith
  step_up (Raw bytes room) steps = omega arith

  -- ---- a scan sends none

  record SendNone (more : List PairStep) : Type 0 where
    pub down : (steps : List PairStep) → sent_down (onto more steps) ≡ sent_down steps
    pub up : (steps : List PairStep) → sent_up (onto more steps) ≡ sent_up steps

  shows-send-none : (shows : List Showing) → SendNone (map show_step shows)
  shows-send-none [] = record { down = λ steps. refl; up = λ steps. refl }
  shows-send-none (s ∷ shows) =
      let r = shows-send-none shows in record { down = λ steps. r.down (show_step s ∷ steps); up = λ steps. r.up (show_step s ∷ steps) }

  nears-send-none : (nears : List NearPeriod) (shows : List Showing) → SendNone (map near_step nears ++ map show_step shows)
  nears-send-none [] shows = shows-send-none shows
  nears-send-none (p ∷ nears) shows =
      let r = nears-send-none nears shows in record { down = λ steps. r.down (near_step p ∷ steps); up = λ steps. r.up (near_step p ∷ steps) }

  scan-sends-none : (hides : List ℕ) (nears : List NearPeriod) (shows : List Showing) → SendNone (scan_steps hides nears shows)
  scan-sends-none [] nears shows = nears-send-none nears shows
  scan-sends-none (n ∷ hides) nears shows =
      let r = scan-sends-none hides nears shows in record { down = λ steps. r.down (hide_step n ∷ steps); up = λ steps. r.up (hide_step n ∷ steps) }

  -- ---- items

  -- so many more are sent at the most
  pub record SendMost (most : ℕ) (old new : List PairStep) : Type 0 where
    pub down : sent_down new ≤ most + sent_down old
    pub up : sent_up new ≤ most + sent_up old

  send-none : (old new : List PairStep) → sent_down new ≡ sent_down old → sent_up new ≡ sent_up old → SendMost 0 old new
  send-none old new d u = record { down = omega (arith, d); up = omega (arith, u) }

  send-one : (step : PairStep) (steps : List PairStep) → SendMost 1 steps (step ∷ steps)
  send-one step steps = record { down = omega (arith, step_down step steps); up = omega (arith, step_up step steps) }

  line-sends : (line : BodyLine) (k : Kept) → SendMost (sends_most (Line line)) k.course.steps (after_line t line k).course.steps
  line-sends script.Tick k = send-none k.course.steps k.course.steps refl refl
  line-sends (script.Scan c) k = send-none k.course.steps k.course.steps refl refl
  line-sends (script.Show c) k = send-none k.course.steps k.course.steps refl refl
  line-sends script.World k = send-none k.course.steps k.course.steps refl refl
  line-sends (script.Pack c) k = send-one _ k.course.steps
  line-sends (script.ClientPack c) k = send-one _ k.course.steps
  line-sends (script.Post c class v) k =
      send-none k.course.steps _ (ap length (server-posts t class v (history t k.course.steps).server)) refl
  line-sends (script.ClientPost c class v) k =
      send-none k.course.steps _ refl (ap length (client-posts t.config class v (history t k.course.steps).client))
  line-sends (script.Move c m) k =
      send-none k.course.steps _ refl (ap length (client-samples t.config (bits_of m) (history t k.course.steps).client))
  line-sends (script.Down c place) k =
      let h = history t k.course.steps in
      send-none k.course.steps _ refl (ap length (gets_sends_up t (slice_get (server_datagrams t h.server) place) h.client))
  line-sends (script.Up c place) k =
      let h = history t k.course.steps in
      send-none k.course.steps _ (ap length (gets_sends_down t _ (slice_get (client_datagrams t.config h.client) place) h.server)) refl
  line-sends (script.Raw c bytes) k =
      send-none k.course.steps _ (ap length (gets_sends_down t _ (Some bytes) (history t k.course.steps).server)) refl

  pub item_sends : (item : OwnItem) (k : Kept) → SendMost (sends_most item) k.course.steps (follows t item k).course.steps
  item_sends (Line line) k = line-sends line k
  item_sends (Scan hides nears shows) k =
      let r = scan-sends-none hides nears (map (λ (s : OwnShow). s.how) shows) in
      subst (SendMost 0 k.course.steps) (sym (scan_journal hides nears shows k))
      (send-none k.course.steps _ (r.down k.course.steps) (r.up k.course.steps))
  item_sends (Tick writes taken) k =
      subst (λ c. SendMost 0 k.course.steps c.steps) (sym (wrote_course t writes k)) (send-none k.course.steps k.course.steps refl refl)

  pub few_down : (items : List OwnItem) → length (server_datagrams t (history t (journal t items)).server) ≤ counted_items items
  few_down [] = omega arith
  few_down (item ∷ items) = omega (arith, few_down items, (item_sends item (kept t items)).down, sends_counted item)

  pub few_up : (items : List OwnItem) → length (client_datagrams t.config (history t (journal t items)).client) ≤ counted_items items
  few_up [] = omega arith
  few_up (item ∷ items) = omega (arith, few_up items, (item_sends item (kept t items)).up, sends_counted item)
