-- What each line of a match leaves of the packets that a client took is what its telling says.
use Rattle.std.proofs.Common.{◌≡◌, ℕ, Bool, true, false, cond, List, ◌∷◌, map, drop, length, Option, Some, None, if◌then◌else◌, refl, sym, ap, ◌∙◌, subst}
use Rattle.std.specs.Prelude.{Result, Ok, Err, is_ok, slice_get}
use Rattle.tn_types.specs.declared.choices.Class.{Class}
use Rattle.tn_types.specs.declared.choices.Class.TheVariants.{Guaranteed, Loose}
use Rattle.notify_window.specs.declared.SendState.{SendState}
use Rattle.notify_window.specs.declared.SendState.TheVariants.{Held, Worn, Room}
use Rattle.wire_format.specs.declared.server.ServerPacket.{ServerPacket}
use Rattle.match_script.specs.declared.types.BodyLine.{BodyLine}
use Rattle.match_script.specs.declared.types.BodyLine.TheVariants as script
use Rattle.match_script.specs.declared.types.Head.{Head}
use Rattle.match_report.specs.declared.told.EventTold.{EventTold}
use Rattle.match_report.specs.declared.told.Way.TheVariants as way
use Rattle.own_lists.specs.pair_core.stream_manager.declared.fault.ClientFault.{ClientFault}
use Rattle.own_lists.specs.pair_core.stream_manager.End.{with_event}
use Rattle.own_lists.specs.pair_core.stream_manager.Faults.{without_packet}
use Rattle.own_lists.specs.pair_core.stream_manager.Limits.{Terms}
use Rattle.own_lists.specs.pair_core.stream_manager.Client as client
use Rattle.own_lists.specs.pair_core.stream_manager.Client.{ClientEvent, client_answer, took_at_client, client_state, pack_event, posted_at_client, sampled_answer}
use Rattle.own_lists.specs.pair_core.stream_manager.Packets.{packets_at, delivered_to}
use Rattle.own_lists.specs.pair_core.stream_manager.Server.{server_datagrams}
use Rattle.own_lists.specs.pair_core.History.{History, history, client_gets}
use Rattle.own_lists.specs.pair_core.Answers.{brought_down, came_down}
use Rattle.own_lists.specs.bit_stream.WorldMoves.{bits_of}
use Rattle.own_lists.specs.Own.{OwnItem, Line, Scan, Tick, OwnShow}
use Rattle.own_lists.specs.Course.{Course}
use Rattle.own_lists.specs.Kept.{kept, journal}
use Rattle.own_lists.specs.Past.{client_terms, after}
use Rattle.own_lists.proofs.Meeting.{scan_journal}
use Rattle.own_lists.proofs.KeptValues.{wrote_course}
use Rattle.relay_report.specs.match_engine.client_seat.Told.{event_told, brought_told, handed_down}
use Rattle.relay_report.specs.match_engine.match_laws.Report.{told_after}
use Rattle.relay_report.proofs.Below.match_laws.Grown.{IsMadeBy, grows}
use Rattle.relay_report.proofs.Below.match_laws.ClientEnd.{at_end, scan_quiet, named_case}
use Rattle.stream_manager.proofs.Packets.{shows-alike}
use Rattle.relay_report.specs.Met.{end_of}
use Rattle.relay_node.specs.Node.{came_with, events_taken}

-- ---- what a line does at the client's end that hands out these events

pub record TakesPacket (events : List EventTold) (old new : List ClientEvent) : Type 0 where
  pub packet : ServerPacket
  pub taken : packets_at new ≡ packet ∷ packets_at old
  pub news : events ≡ map event_told (drop (length (delivered_to (packets_at old))) (delivered_to (packets_at new)))

abbrev pub LineTakes : Option (List EventTold) → List ClientEvent → List ClientEvent → Type 0
LineTakes None old new = packets_at new ≡ packets_at old
LineTakes (Some events) old new = TakesPacket events old new

-- ---- items that bring no packet

abbrev IsQuietLine : BodyLine → Type 0
IsQuietLine (script.Down c k) = ⊥
IsQuietLine line = Unit {0}

abbrev IsQuietItem : OwnItem → Type 0
IsQuietItem (Line line) = IsQuietLine line
IsQuietItem item = Unit {0}

quiet_made : (line : BodyLine) → IsQuietLine line → (item : OwnItem) → IsMadeBy line item → IsQuietItem item
quiet_made line q (Line own) made = subst IsQuietLine (sym made) q
quiet_made line q (Scan hides nears shows) made = tt
quiet_made line q (Tick writes taken) made = tt

module _ (t : Terms) where
  abbrev Quiet : List OwnItem → List OwnItem → Type 0
  Quiet old new = packets_at (at_end t (journal t new)) ≡ packets_at (at_end t (journal t old))

  same_items : (items : List OwnItem) → Quiet items items
  same_items items = refl

  if_posted : (b : Bool) (class : Class) (v : List ℕ) (log : List ClientEvent) → packets_at (if b then client.Posted class v ∷ log else log) ≡ packets_at log
  if_posted true class v log = refl
  if_posted false class v log = refl

  item_quiet : (items : List OwnItem) (item : OwnItem) → IsQuietItem item → Quiet items (item ∷ items)
  item_quiet items (Scan hides nears shows) q =
      ap packets_at (ap (at_end t) (scan_journal hides nears shows (kept t items)) ∙ scan_quiet t hides nears (map (λ (s : OwnShow). s.how) shows) (journal t items))
  item_quiet items (Tick writes taken) q = ap (λ (k : Course). packets_at (at_end t k.steps)) (wrote_course t writes (kept t items))
  item_quiet items (Line script.Tick) q = refl
  item_quiet items (Line (script.Scan c)) q = refl
  item_quiet items (Line (script.Post c class payload)) q = refl
  item_quiet items (Line (script.ClientPost c class payload)) q = by class
    where
      by : (class : Class) → Quiet items (Line (script.ClientPost c class payload) ∷ items)
      by Guaranteed = if_posted (is_ok (posted_at_client t.config (at_end t (journal t items)))) Guaranteed payload (at_end t (journal t items))
      by Loose = refl
  item_quiet items (Line (script.Pack c)) q = refl
  item_quiet items (Line (script.ClientPack c)) q = by (client_state t.config (at_end t (journal t items)))
    where
      by : (state : SendState) → packets_at (with_event (pack_event t.config (at_end t (journal t items)) state) (at_end t (journal t items))) ≡ packets_at (at_end t (journal t items))
      by Held = refl
      by Worn = refl
      by Room = refl
  item_quiet items (Line (script.Down c k)) q = absurd q
  item_quiet items (Line (script.Up c k)) q = refl
  item_quiet items (Line (script.Raw c bytes)) q = refl
  item_quiet items (Line (script.Move c m)) q = by (is_ok (sampled_answer t.config (bits_of m) (at_end t (journal t items))))
    where
      by : (b : Bool) → packets_at (if b then client.Sampled (bits_of m) ∷ at_end t (journal t items) else at_end t (journal t items)) ≡ packets_at (at_end t (journal t items))
      by true = refl
      by false = refl
  item_quiet items (Line (script.Show c)) q = refl
  item_quiet items (Line script.World) q = refl

  -- ---- a datagram comes

  abbrev News : List EventTold → List ClientEvent → List ClientEvent → Type 0
  News events old new = events ≡ map event_told (drop (length (delivered_to (packets_at old))) (delivered_to (packets_at new)))

  by_answer : (c k : ℕ) (events : List EventTold) (log : List ClientEvent) (r : Result ServerPacket ClientFault) → News events log (took_at_client log r)
      → LineTakes (came_with (brought_told way.Down c k events (came_down (without_packet r)))) log (took_at_client log r)
  by_answer c k events log (Ok p) news = record { packet = p; taken = refl; news = news }
  by_answer c k events log (Err fault) news = refl

  brought_is : (c k : ℕ) (events : List EventTold) (h : History) (o : Option (List ℕ)) → News events h.client (client_gets t o h.client)
      → LineTakes (came_with (brought_told way.Down c k events (brought_down t h k o))) h.client (client_gets t o h.client)
  brought_is c k events h None news = refl
  brought_is c k events h (Some bytes) news = by_answer c k events h.client (client_answer t.config t.kinds h.client bytes) news

-- ---- lines

module _ (head : Head) (past : List BodyLine) (c : ℕ) where
  abbrev own : List OwnItem
  own = (after head past).own c

  quiet : (line : BodyLine) → IsQuietLine line → packets_at (end_of head c (line ∷ past)) ≡ packets_at (end_of head c past)
  quiet line q =
      grows (Quiet (client_terms head c)) (same_items (client_terms head c)) head (after head past) c line
      (λ item made. item_quiet (client_terms head c) own item (quiet_made line q item made))

  down : (k : ℕ) → LineTakes (came_with (told_after head past (script.Down c k))) (end_of head c past)
      (at_end (client_terms head c) (journal (client_terms head c) (Line (script.Down c k) ∷ own)))
  down k =
      let t = client_terms head c in
      let h = history t (journal t own) in
      let o = slice_get (server_datagrams t h.server) k in
      let older = (shows-alike h.client).delivered in
      let newer = (shows-alike (client_gets t o h.client)).delivered in
      brought_is t c k (handed_down t (journal t own) k) h o (λ j. map event_told (drop (length (sym older j)) (sym newer j)))

  by_line : (line : BodyLine) → LineTakes (events_taken c line (told_after head past line)) (end_of head c past) (end_of head c (line ∷ past))
  by_line script.Tick = quiet script.Tick tt
  by_line (script.Scan d) = quiet (script.Scan d) tt
  by_line (script.Post d class payload) = quiet (script.Post d class payload) tt
  by_line (script.ClientPost d class payload) = quiet (script.ClientPost d class payload) tt
  by_line (script.Pack d) = quiet (script.Pack d) tt
  by_line (script.ClientPack d) = quiet (script.ClientPack d) tt
  by_line (script.Down d k) =
      named_case (λ same put_here e.
      LineTakes (if same then came_with (told_after head past (script.Down e k)) else None) (end_of head c past)
      (at_end (client_terms head c) (journal (client_terms head c) (cond put_here (Line (script.Down e k) ∷ (after head past).own e) own)))) c d
      (down k) (λ e. refl)
  by_line (script.Up d k) = quiet (script.Up d k) tt
  by_line (script.Raw d bytes) = quiet (script.Raw d bytes) tt
  by_line (script.Move d m) = quiet (script.Move d m) tt
  by_line (script.Show d) = quiet (script.Show d) tt
  by_line script.World = quiet script.World tt

pub line_takes : (head : Head) (past : List BodyLine) (c : ℕ) (line : BodyLine)
    → LineTakes (events_taken c line (told_after head past line)) (end_of head c past) (end_of head c (line ∷ past))
line_takes head past c line = by_line head past c line
