-- Who holds a slot of a connection: over one line of a match no slot is left by one period and given to another.
use Rattle.std.proofs.Common.{◌≡◌, ◌∙◌, ℕ, zero, suc, ◌+◌, ◌-◌, Bool, true, false, cond, ltb, List, [], ◌∷◌, ◌++◌, map, Option, Some, None, if◌then◌else◌, refl, sym, ap, subst, inl, inr}
use Rattle.std.specs.Prelude.{Result, Ok, Err, is_ok, slice_get}
use Rattle.std.specs.List.{AllByRecursion}
use Rattle.std.proofs.lemmas.Bool.{cases_eq, and_left}
use Rattle.tn_types.specs.declared.choices.Class.TheVariants.{Guaranteed, Loose}
use Rattle.tn_types.specs.declared.choices.Choice.{Choice}
use Rattle.tn_types.specs.declared.choices.Drain.{Drain}
use Rattle.notify_window.specs.declared.SendState.{SendState}
use Rattle.notify_window.specs.declared.SendState.TheVariants.{Held, Worn, Room}
use Rattle.notify_window.specs.Log.{Fate}
use Rattle.wire_format.specs.declared.client.ClientPacket.{ClientPacket}
use Rattle.quantised_fields.specs.Kinds.{table_fault}
use Rattle.ghost_model.specs.Phases.{is_waiting, is_gone, is_up}
use Rattle.ghost_model.specs.Scope as scope
use Rattle.ghost_model.specs.Scope.{given, shows, kept_slot}
use Rattle.ghost_model.specs.Ghosts.{GhostEvent, Show, Hide, Near, Absorb, Grant, Sent, Judged, scope_log, wrote, settled_by, oldest, unjudged, phase, slot}
use Rattle.ghost_model.specs.Legal.{KindSizes, IsLegal}
use Rattle.ghost_model.proofs.Steps.{other_test, hide_other}
use Rattle.ghost_model.proofs.Granted.{given_not_waiting, is_found, unfound_given, unfound_phase}
use Rattle.ghost_model.proofs.Written.{wrote_given, settled_given, wrote_alive, can_be_written}
use Rattle.ghost_model.proofs.Legal.{sound, held_given, writing, judge_packet}
use Rattle.ghost_model.proofs.Holders.{held_alive, apart, up_alive}
use Rattle.ghost_masks.specs.Plan.{sizes}
use Rattle.stream_manager.specs.declared.fault.ArriveFault.{ArriveFault}
use Rattle.stream_manager.specs.Limits.{Terms}
use Rattle.stream_manager.specs.End.{fates, judged_at}
use Rattle.stream_manager.specs.Settling.{verdict_of, judgements}
use Rattle.stream_manager.specs.Server as server
use Rattle.stream_manager.specs.Server.{ServerEvent, server_end, server_state, server_answer, took_at_server, packed_onto, posted_at_server, ghost_log}
use Rattle.stream_manager.specs.Client.{client_datagrams}
use Rattle.conn_packing.specs.Packs.{absorbing, values_of}
use Rattle.pair_core.specs.History as steps_of
use Rattle.pair_core.specs.History.{PairStep, history, server_gets}
use Rattle.pair_core.specs.Conditions.{AreMet}
use Rattle.client_scope.specs.declared.period.Near.{Near as NearPeriod}
use Rattle.match_script.specs.declared.types.BodyLine.{BodyLine}
use Rattle.match_script.specs.declared.types.BodyLine.TheVariants as script
use Rattle.own_lists.specs.declared.showing.Showing.{Showing}
use Rattle.own_lists.specs.bit_stream.WorldMoves.{bits_of}
use Rattle.own_lists.specs.Own.{OwnItem, OwnShow, Line, Scan, Tick}
use Rattle.own_lists.specs.Course.{Course, onto, near_step, show_step, scan_steps, room_in}
use Rattle.own_lists.specs.Kept.{Kept, kept, journal, after_line, drains_of, reads_of}
use Rattle.own_lists.specs.Conditions.{AreOwn}
use Rattle.own_lists.proofs.Meeting.{scan_journal, are_met}
use Rattle.own_lists.proofs.KeptValues.{wrote_course}
use Rattle.own_lists.proofs.LegalSteps.{legal_steps}

-- ---- what happens to ghosts

-- who holds a slot now held it
abbrev Back : List GhostEvent → List GhostEvent → Type 0
Back old new = (n s : ℕ) → slot new n ≡ Some s → slot old n ≡ Some s

-- who holds a slot now is who held it
abbrev pub Same : List GhostEvent → List GhostEvent → Type 0
Same old new = (n m s : ℕ) → slot old n ≡ Some s → slot new m ≡ Some s → n ≡ m

hide_alive : (log : List scope.ScopeEvent) (m : ℕ) → is_up (scope.phase log m) ≡ true → (n : ℕ) → is_gone (scope.phase (scope.Hide m ∷ log) n) ≡ false
    → is_gone (scope.phase log n) ≡ false
hide_alive log m up n e = elim (cases_eq m n) [
  | inl same ↦ up_alive (scope.phase log n) (ap (λ q. is_up (scope.phase log q)) (sym same) ∙ up)
  | inr other ↦ ap is_gone (sym (hide_other log n m (other_test m n other))) ∙ e
]

back_from : (old new : List scope.ScopeEvent) → ((n : ℕ) → given new n ≡ given old n)
    → ((n : ℕ) → is_gone (scope.phase new n) ≡ false → is_gone (scope.phase old n) ≡ false)
    → (n s : ℕ) → scope.slot new n ≡ Some s → scope.slot old n ≡ Some s
back_from old new same alive n s e =
    ap (λ b. cond b None (given old n)) (alive n (held_alive (scope.phase new n) (given new n) s e)) ∙ sym (same n) ∙ held_given (scope.phase new n) (given new n) s e

abbrev IsNoGrant : GhostEvent → Type 0
IsNoGrant Grant = ⊥
IsNoGrant e = Unit {0}

module _ (kinds : KindSizes) where
  event_back : (e : GhostEvent) (log : List GhostEvent) → IsLegal kinds (e ∷ log) → IsNoGrant e → Back log (e ∷ log)
  event_back (Show k b l c) log h is n s e = e
  event_back (Near m l) log h is n s e = e
  event_back (Absorb m b) log h is n s e = e
  event_back Grant log h is n s e = absurd is
  event_back (Hide m) log h is n s e =
      back_from (scope_log log) (scope.Hide m ∷ scope_log log) (λ k. refl) (hide_alive (scope_log log) m h.0.up) n s e
  event_back (Sent choices) log h is n s e =
      back_from (scope_log log) (wrote choices (scope_log log)) (wrote_given choices (scope_log log))
      (wrote_alive choices (scope_log log) (can_be_written choices (scope_log log) (writing kinds log choices h.0.0) h.0.1)) n s e
  event_back (Judged v) log h is n s e =
      back_from (scope_log log) (settled_by v (oldest (unjudged log)) (scope_log log)) (settled_given v (oldest (unjudged log)) (scope_log log))
      (judge_packet log v (unjudged log) refl h.0 (sound kinds log h.1)).alive n s e

  pub one_holder : (log : List GhostEvent) → IsLegal kinds log → Same log log
  one_holder log h n m s a b = apart kinds log h n m s a b

  -- what gives no slot
  from_back : (old new : List GhostEvent) → IsLegal kinds old → Back old new → Same old new
  from_back old new h back n m s a b = apart kinds old h n m s a (back m s b)

  -- a grant, and a packet behind it
  granted : (log : List GhostEvent) (choices : List Choice) → IsLegal kinds (Sent choices ∷ Grant ∷ log) → Same log (Sent choices ∷ Grant ∷ log)
  granted log choices h n m s a b =
      let held = held_given (phase log n) (given (scope_log log) n) s a in
      let none : is_found (scope_log log) n ≡ false =
      and_left (is_waiting (phase log n)) (ltb n (shows (scope_log log))) (given_not_waiting (scope_log log) n s held) in
      let keeps : slot (Grant ∷ log) n ≡ slot log n =
      (λ j. kept_slot (unfound_phase (scope_log log) n none j) (unfound_given (scope_log log) n none j)) in
      apart kinds (Grant ∷ log) h.1 n m s (keeps ∙ a) (event_back (Sent choices) (Grant ∷ log) h tt m s b)

  judged_back : (fate : ℕ → Fate) (first count : ℕ) (log : List GhostEvent) → IsLegal kinds (judgements fate first count log)
      → IsLegal kinds log × Back log (judgements fate first count log)
  judged_back fate first zero log h = (h, λ n s e. e)
  judged_back fate first (suc count) log h =
      let rest = judged_back fate first count log h.1 in
      (rest.0, λ n s e. rest.1 n s (event_back (Judged (verdict_of (fate (first + count)))) (judgements fate first count log) h tt n s e))

-- ---- steps

module _ (t : Terms) (table : table_fault t.kinds ≡ None) where
  abbrev ghosts : List PairStep → List GhostEvent
  ghosts steps = ghost_log (history t steps).server

  abbrev Legal : List ServerEvent → Type 0
  Legal log = IsLegal (sizes t.kinds) (ghost_log log)

  abbrev SameLog : List ServerEvent → List ServerEvent → Type 0
  SameLog old new = Same (ghost_log old) (ghost_log new)

  stays : (log : List ServerEvent) → Legal log → SameLog log log
  stays log h = one_holder (sizes t.kinds) (ghost_log log) h

  posts : (b : Bool) (log : List ServerEvent) (v : List ℕ) → Legal log → SameLog log (if b then server.Posted Guaranteed v ∷ log else log)
  posts true log v h = stays log h
  posts false log v h = stays log h

  absorbed : (drains : List Drain) (log : List ServerEvent) (n : ℕ) → slot (ghost_log (absorbing drains log)) n ≡ slot (ghost_log log) n
  absorbed [] log n = refl
  absorbed (d ∷ drains) log n = absorbed drains (server.Scoped (server.Absorb d.n d.bits) ∷ log) n

  packs : (drains : List Drain) (log : List ServerEvent) (values : _) (state : SendState) → Legal log
      → Legal (packed_onto t (absorbing drains log) values state) → SameLog log (packed_onto t (absorbing drains log) values state)
  packs drains log values Held h new n m s a b = stays log h n m s a (sym (absorbed drains log m) ∙ b)
  packs drains log values Worn h new n m s a b = stays log h n m s a (sym (absorbed drains log m) ∙ b)
  packs drains log values Room h new n m s a b =
      granted (sizes t.kinds) (ghost_log (absorbing drains log)) _ new n m s (absorbed drains log n ∙ a) b

  took : (log : List ServerEvent) (room : ℕ) (r : Result ClientPacket ArriveFault) → Legal log → Legal (took_at_server log room r)
      → SameLog log (took_at_server log room r)
  took log room (Err fault) h new = stays log h
  took log room (Ok p) h new =
      let after : List ServerEvent = server.Took p room ∷ log in
      let count = judged_at (server_end after) - judged_at (server_end log) in
      from_back (sizes t.kinds) (ghost_log log) (ghost_log after) h
      (judged_back (sizes t.kinds) (fates (server_end after)) (judged_at (server_end log) + 1) count (ghost_log log) new).1

  gets : (log : List ServerEvent) (room : ℕ) (o : Option (List ℕ)) → Legal log → Legal (server_gets t.config room o log)
      → SameLog log (server_gets t.config room o log)
  gets log room None h new = stays log h
  gets log room (Some bytes) h new = took log room (server_answer t.config log bytes) h new

  step_same : (step : PairStep) (steps : List PairStep) → AreMet t (step ∷ steps) → Same (ghosts steps) (ghosts (step ∷ steps))
  step_same step steps met = by step (legal_steps t table steps met.1) (legal_steps t table (step ∷ steps) met)
    where
      log : List ServerEvent
      log = (history t steps).server

      by : (step : PairStep) → Legal (history t steps).server → Legal (history t (step ∷ steps)).server → Same (ghosts steps) (ghosts (step ∷ steps))
      by (steps_of.Show kind block level control) h new =
          from_back (sizes t.kinds) (ghosts steps) (Show kind block level control ∷ ghosts steps) h
          (event_back (sizes t.kinds) (Show kind block level control) (ghosts steps) new tt)
      by (steps_of.Hide n) h new =
          from_back (sizes t.kinds) (ghosts steps) (Hide n ∷ ghosts steps) h (event_back (sizes t.kinds) (Hide n) (ghosts steps) new tt)
      by (steps_of.Near n level) h new =
          from_back (sizes t.kinds) (ghosts steps) (Near n level ∷ ghosts steps) h (event_back (sizes t.kinds) (Near n level) (ghosts steps) new tt)
      by (steps_of.Post Guaranteed v) h new = posts (is_ok (posted_at_server t.config (history t steps).server)) (history t steps).server v h
      by (steps_of.Post Loose v) h new = stays (history t steps).server h
      by (steps_of.ClientPost class v) h new = stays (history t steps).server h
      by (steps_of.Sample m) h new = stays (history t steps).server h
      by (steps_of.Pack drains reads) h new =
          packs drains (history t steps).server (values_of reads) (server_state t.config (absorbing drains (history t steps).server)) h new
      by steps_of.ClientPack h new = stays (history t steps).server h
      by (steps_of.Down k) h new = stays (history t steps).server h
      by (steps_of.Up k room) h new = gets (history t steps).server room (slice_get (client_datagrams t.config (history t steps).client) k) h new
      by (steps_of.Raw bytes room) h new = gets (history t steps).server room (Some bytes) h new

  -- ---- a scan: none of its steps gives a slot

  abbrev IsScan : PairStep → Type 0
  IsScan (steps_of.Show kind block level control) = Unit {0}
  IsScan (steps_of.Hide n) = Unit {0}
  IsScan (steps_of.Near n level) = Unit {0}
  IsScan step = ⊥

  scan_back : (step : PairStep) (steps : List PairStep) → IsScan step → AreMet t (step ∷ steps) → Back (ghosts steps) (ghosts (step ∷ steps))
  scan_back (steps_of.Show kind block level control) steps is met =
      event_back (sizes t.kinds) (Show kind block level control) (ghosts steps) (legal_steps t table (steps_of.Show kind block level control ∷ steps) met) tt
  scan_back (steps_of.Hide n) steps is met = event_back (sizes t.kinds) (Hide n) (ghosts steps) (legal_steps t table (steps_of.Hide n ∷ steps) met) tt
  scan_back (steps_of.Near n level) steps is met =
      event_back (sizes t.kinds) (Near n level) (ghosts steps) (legal_steps t table (steps_of.Near n level ∷ steps) met) tt
  scan_back (steps_of.Post class v) steps is met = absurd is
  scan_back (steps_of.ClientPost class v) steps is met = absurd is
  scan_back (steps_of.Sample m) steps is met = absurd is
  scan_back (steps_of.Pack drains reads) steps is met = absurd is
  scan_back steps_of.ClientPack steps is met = absurd is
  scan_back (steps_of.Down k) steps is met = absurd is
  scan_back (steps_of.Up k room) steps is met = absurd is
  scan_back (steps_of.Raw bytes room) steps is met = absurd is

  -- the steps before were met, and hold back to them
  onto_back : (more steps : List PairStep) → AllByRecursion IsScan more → AreMet t (onto more steps)
      → AreMet t steps × Back (ghosts steps) (ghosts (onto more steps))
  onto_back [] steps scans met = (met, λ n s e. e)
  onto_back (step ∷ more) steps scans met =
      let rest = onto_back more (step ∷ steps) scans.1 met in
      (rest.0.1, λ n s e. scan_back step steps scans.0 rest.0 n s (rest.1 n s e))

  shows_scan : (shows : List Showing) → AllByRecursion IsScan (map show_step shows)
  shows_scan [] = tt
  shows_scan (s ∷ shows) = (tt, shows_scan shows)

  nears_scan : (nears : List NearPeriod) (shows : List Showing) → AllByRecursion IsScan (map near_step nears ++ map show_step shows)
  nears_scan [] shows = shows_scan shows
  nears_scan (p ∷ nears) shows = (tt, nears_scan nears shows)

  all_scan : (hides : List ℕ) (nears : List NearPeriod) (shows : List Showing) → AllByRecursion IsScan (scan_steps hides nears shows)
  all_scan [] nears shows = nears_scan nears shows
  all_scan (n ∷ hides) nears shows = (tt, all_scan hides nears shows)

  -- ---- an item

  abbrev SameItems : List OwnItem → List OwnItem → Type 0
  SameItems old new = Same (ghosts (journal t old)) (ghosts (journal t new))

  pub still : (items : List OwnItem) → AreOwn t items → SameItems items items
  still items own = stays (history t (journal t items)).server (legal_steps t table (journal t items) (are_met t table items own))

  line_same : (line : BodyLine) (k : Kept) → AreMet t k.course.steps → AreMet t (after_line t line k).course.steps
      → Same (ghosts k.course.steps) (ghosts (after_line t line k).course.steps)
  line_same script.Tick k old new = stays (history t k.course.steps).server (legal_steps t table k.course.steps old)
  line_same (script.Scan c) k old new = stays (history t k.course.steps).server (legal_steps t table k.course.steps old)
  line_same (script.Post c class payload) k old new = step_same (steps_of.Post class payload) k.course.steps new
  line_same (script.ClientPost c class payload) k old new = step_same (steps_of.ClientPost class payload) k.course.steps new
  line_same (script.Pack c) k old new = step_same (steps_of.Pack (drains_of t k) (reads_of t k)) k.course.steps new
  line_same (script.ClientPack c) k old new = step_same steps_of.ClientPack k.course.steps new
  line_same (script.Down c place) k old new = step_same (steps_of.Down place) k.course.steps new
  line_same (script.Up c place) k old new = step_same (steps_of.Up place (room_in t k.course)) k.course.steps new
  line_same (script.Raw c bytes) k old new = step_same (steps_of.Raw bytes (room_in t k.course)) k.course.steps new
  line_same (script.Move c m) k old new = step_same (steps_of.Sample (bits_of m)) k.course.steps new
  line_same (script.Show c) k old new = stays (history t k.course.steps).server (legal_steps t table k.course.steps old)
  line_same script.World k old new = stays (history t k.course.steps).server (legal_steps t table k.course.steps old)

  pub item_same : (items : List OwnItem) (item : OwnItem) → AreOwn t (item ∷ items) → SameItems items (item ∷ items)
  item_same items (Line line) own = line_same line (kept t items) (are_met t table items own.1) (are_met t table (Line line ∷ items) own)
  item_same items (Tick writes taken) own =
      subst (λ (k : Course). Same (ghosts (journal t items)) (ghosts k.steps)) (sym (wrote_course t writes (kept t items))) (still items own.1)
  item_same items (Scan hides nears shows) own =
      let more = scan_steps hides nears (map (λ (s : OwnShow). s.how) shows) in
      let e = scan_journal hides nears shows (kept t items) in
      let met : AreMet t (onto more (journal t items)) = subst (AreMet t) e (are_met t table (Scan hides nears shows ∷ items) own) in
      subst (λ (steps : List PairStep). Same (ghosts (journal t items)) (ghosts steps)) (sym e)
      (from_back (sizes t.kinds) (ghosts (journal t items)) (ghosts (onto more (journal t items)))
      (legal_steps t table (journal t items) (are_met t table items own.1)) (onto_back more (journal t items) (all_scan hides nears _) met).1)
