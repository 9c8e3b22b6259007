-- With each line of a match its client takes one packet more, or none.
use Rattle.std.proofs.Common.{◌≡◌, ◌∙◌, ℕ, Bool, true, false, List, [], ◌∷◌, ◌++◌, map, Option, Some, None, if◌then◌else◌, refl, ap, inl, inr, ◌⊎◌}
use Rattle.std.specs.Prelude.{Result, Ok, Err, is_ok, slice_get}
use Rattle.tn_types.specs.declared.choices.Class.TheVariants.{Guaranteed, Loose}
use Rattle.notify_window.specs.declared.SendState.{SendState}
use Rattle.notify_window.specs.declared.SendState.TheVariants.{Held, Worn, Room}
use Rattle.wire_format.specs.declared.server.ServerPacket.{ServerPacket}
use Rattle.client_scope.specs.declared.period.Near.{Near as NearPeriod}
use Rattle.stream_manager.specs.declared.fault.ClientFault.{ClientFault}
use Rattle.stream_manager.specs.End.{with_event}
use Rattle.stream_manager.specs.Limits.{Terms}
use Rattle.stream_manager.specs.Client as client
use Rattle.stream_manager.specs.Client.{ClientEvent, client_answer, took_at_client, client_state, pack_event, posted_at_client, sampled_answer}
use Rattle.stream_manager.specs.Packets.{packets_at}
use Rattle.stream_manager.specs.Server.{server_datagrams}
use Rattle.pair_core.specs.History.{PairStep, Show, Hide, Near, Post, ClientPost, Sample, Pack, ClientPack, Down, Up, Raw, history, client_gets}
use Rattle.match_script.specs.declared.types.BodyLine.{BodyLine}
use Rattle.match_script.specs.declared.types.BodyLine.TheVariants as script
use Rattle.match_script.specs.declared.types.Head.{Head}
use Rattle.own_lists.specs.declared.showing.Showing.{Showing}
use Rattle.own_lists.specs.bit_stream.WorldMoves.{bits_of}
use Rattle.own_lists.specs.Own.{OwnItem, OwnShow, Line, Scan, Tick}
use Rattle.own_lists.specs.Course.{Course, onto, hide_step, near_step, show_step, scan_steps, room_in}
use Rattle.own_lists.specs.Kept.{Kept, kept, journal, after_line, drains_of, reads_of}
use Rattle.own_lists.specs.Past.{client_terms, after}
use Rattle.own_lists.proofs.Meeting.{scan_journal}
use Rattle.own_lists.proofs.KeptValues.{wrote_course}
use Rattle.own_lists.proofs.Standing.{onto_on}
use Rattle.match_laws.proofs.Grown.{grows}
use Rattle.relay_report.specs.Met.{taken_by}

-- one packet more, or none
abbrev pub Brings : List ServerPacket → List ServerPacket → Type 0
Brings old new = (new ≡ old) ⊎ ((p : ServerPacket) × (new ≡ p ∷ old))

module _ (t : Terms) where
  abbrev packets : List PairStep → List ServerPacket
  packets steps = packets_at (history t steps).client

  -- ---- one step

  abbrev Log : List ClientEvent → List ClientEvent → Type 0
  Log old new = Brings (packets_at old) (packets_at new)

  answered : (log : List ClientEvent) (r : Result ServerPacket ClientFault) → Log log (took_at_client log r)
  answered log (Ok p) = inr (p, refl)
  answered log (Err fault) = inl refl

  gets : (log : List ClientEvent) (o : Option (List ℕ)) → Log log (client_gets t o log)
  gets log None = inl refl
  gets log (Some bytes) = answered log (client_answer t.config t.kinds log bytes)

  perhaps : (b : Bool) (log : List ClientEvent) (event : ClientEvent) → packets_at (event ∷ log) ≡ packets_at log → Log log (if b then event ∷ log else log)
  perhaps true log event e = inl e
  perhaps false log event e = inl refl

  packed : (log : List ClientEvent) (state : SendState) → Log log (with_event (pack_event t.config log state) log)
  packed log Held = inl refl
  packed log Worn = inl refl
  packed log Room = inl refl

  step_brings : (step : PairStep) (steps : List PairStep) → Brings (packets steps) (packets (step ∷ steps))
  step_brings (Show kind block level control) steps = inl refl
  step_brings (Hide n) steps = inl refl
  step_brings (Near n level) steps = inl refl
  step_brings (Post class v) steps = inl refl
  step_brings (ClientPost Guaranteed v) steps =
      perhaps (is_ok (posted_at_client t.config (history t steps).client)) (history t steps).client (client.Posted Guaranteed v) refl
  step_brings (ClientPost Loose v) steps = inl refl
  step_brings (Sample m) steps = perhaps (is_ok (sampled_answer t.config m (history t steps).client)) (history t steps).client (client.Sampled m) refl
  step_brings (Pack drains reads) steps = inl refl
  step_brings ClientPack steps = packed (history t steps).client (client_state t.config (history t steps).client)
  step_brings (Down k) steps = gets (history t steps).client (slice_get (server_datagrams t (history t steps).server) k)
  step_brings (Up k room) steps = inl refl
  step_brings (Raw bytes room) steps = inl refl

  -- ---- an item

  hides_quiet : (hides : List ℕ) (steps : List PairStep) → packets (onto (map hide_step hides) steps) ≡ packets steps
  hides_quiet [] steps = refl
  hides_quiet (n ∷ hides) steps = hides_quiet hides (hide_step n ∷ steps)

  shows_quiet : (shows : List Showing) (steps : List PairStep) → packets (onto (map show_step shows) steps) ≡ packets steps
  shows_quiet [] steps = refl
  shows_quiet (s ∷ shows) steps = shows_quiet shows (show_step s ∷ steps)

  nears_quiet : (nears : List NearPeriod) (steps : List PairStep) → packets (onto (map near_step nears) steps) ≡ packets steps
  nears_quiet [] steps = refl
  nears_quiet (p ∷ nears) steps = nears_quiet nears (near_step p ∷ steps)

  scan_quiet : (hides : List ℕ) (nears : List NearPeriod) (shows : List Showing) (steps : List PairStep)
      → packets (onto (scan_steps hides nears shows) steps) ≡ packets steps
  scan_quiet hides nears shows steps =
      let hs : List PairStep = map hide_step hides in
      let ns : List PairStep = map near_step nears in
      let ss : List PairStep = map show_step shows in
      ap packets (onto_on hs (ns ++ ss) steps ∙ onto_on ns ss (onto hs steps))
      ∙ shows_quiet shows (onto ns (onto hs steps)) ∙ nears_quiet nears (onto hs steps) ∙ hides_quiet hides steps

  line_brings : (line : BodyLine) (k : Kept) → Brings (packets k.course.steps) (packets (after_line t line k).course.steps)
  line_brings script.Tick k = inl refl
  line_brings (script.Scan c) k = inl refl
  line_brings (script.Post c class payload) k = step_brings (Post class payload) k.course.steps
  line_brings (script.ClientPost c class payload) k = step_brings (ClientPost class payload) k.course.steps
  line_brings (script.Pack c) k = step_brings (Pack (drains_of t k) (reads_of t k)) k.course.steps
  line_brings (script.ClientPack c) k = step_brings ClientPack k.course.steps
  line_brings (script.Down c place) k = step_brings (Down place) k.course.steps
  line_brings (script.Up c place) k = step_brings (Up place (room_in t k.course)) k.course.steps
  line_brings (script.Raw c bytes) k = step_brings (Raw bytes (room_in t k.course)) k.course.steps
  line_brings (script.Move c m) k = step_brings (Sample (bits_of m)) k.course.steps
  line_brings (script.Show c) k = inl refl
  line_brings script.World k = inl refl

  pub item_brings : (items : List OwnItem) (item : OwnItem) → Brings (packets (journal t items)) (packets (journal t (item ∷ items)))
  item_brings items (Line line) = line_brings line (kept t items)
  item_brings items (Scan hides nears shows) =
      inl (ap packets (scan_journal hides nears shows (kept t items)) ∙ scan_quiet hides nears (map (λ (s : OwnShow). s.how) shows) (journal t items))
  item_brings items (Tick writes taken) = inl (ap (λ (k : Course). packets k.steps) (wrote_course t writes (kept t items)))

-- ---- a line

pub line_brings_one : (head : Head) (c : ℕ) (past : List BodyLine) (line : BodyLine) → Brings (taken_by head c past) (taken_by head c (line ∷ past))
line_brings_one head c past line =
    grows (λ old new. Brings (packets (client_terms head c) (journal (client_terms head c) old)) (packets (client_terms head c) (journal (client_terms head c) new)))
    (λ items. inl refl) head (after head past) c line (λ item made. item_brings (client_terms head c) ((after head past).own c) item)
