-- What a server that serves one client alone stands for after a scan, a tick or a line.
use Rattle.std.proofs.Common.{◌≡◌, ◌≢◌, ◌∙◌, ℕ, zero, suc, ◌+◌, ◌<◌, ◌≤◌, Bool, true, false, List, [], ◌∷◌, ◌++◌, map, drop, length, filter, cond, is_some, if◌then◌else◌, refl, sym, ap, subst, arith, Some}
use Rattle.std.specs.Prelude.{slice_get}
use Rattle.std.specs.List.{AllByRecursion}
use Rattle.std.proofs.lemmas.List.{drop-drop, length-drop, length-map}
use Rattle.std.proofs.lemmas.Option.{slice_get_within}
use Rattle.ghost_model.specs.Words.{upto}
use Rattle.ghost_masks.specs.Plan.{fields_of}
use Rattle.ghost_masks.proofs.Carried.{length-AreValues}
use Rattle.quantised_fields.specs.declared.field.FieldSpec.{FieldSpec}
use Rattle.quantised_fields.specs.declared.kind.Kind.{Kind}
use Rattle.match_script.specs.declared.types.BodyLine.{BodyLine}
use Rattle.match_script.specs.declared.types.BodyLine.TheVariants as script
use Rattle.world_rules.specs.Kinds.{match_kinds}
use Rattle.client_scope.specs.declared.period.Near.{Near as NearPeriod}
use Rattle.stream_manager.specs.Limits.{Terms}
use Rattle.pair_core.specs.History.{PairStep, Hide}
use Rattle.pair_core.specs.Answers.{accepted_in}
use Rattle.own_lists.specs.declared.showing.Showing.{Showing}
use Rattle.own_lists.specs.Own.{OwnItem, OwnShow, OwnWrite, Line, Scan, Tick}
use Rattle.pair_steps.specs.Steps.{shows_in, traits_in}
use Rattle.own_lists.specs.Course.{Course, onto, hide_step, near_step, show_step, scan_steps, with_steps, ticked}
use Rattle.own_lists.specs.Kept.{Kept, kept, after_scan, after_line, wrote_all, with_course}
use Rattle.own_lists.specs.Conditions.{MeetEach, HasValues, IsOwnWrite, IsOwnScan, IsOwnTick, MayFollow}
use Rattle.pair_steps.proofs.Journals.{up_from, shows_told}
use Rattle.own_lists.proofs.KeptValues.{wrote_course}
use Rattle.own_lists.proofs.Meeting.{scan_journal, values_kept, taken_kept, begun_taken}
use Rattle.own_lists.proofs.Standing.{shows_hides, shows_nears}
use Rattle.own_items.specs.client_seat.Stands.{SeatState, StandsFor as SeatStandsFor, without_first}
use Rattle.own_items.proofs.Below.client_seat.Making.{meet_rest}
use Rattle.own_items.specs.declared.items.OwnShow.{OwnShow as GivenShow}
use Rattle.own_items.specs.Items.{show_of}
use Rattle.alone_server.specs.Periods.{Table, Holds, MayWrite}
use Rattle.own_items.specs.match_engine.Stands.{IsDirect}
use Rattle.alone_server.specs.Stands.{Serves, is_counted, counted_in}
use Rattle.alone_server.proofs.Holding.{holds_same}
use Rattle.alone_server.proofs.Sending.{accepted_few}

-- ---- nothing

pub holds_none : (t : Terms) → Holds (record { shows = 0; periods = [] }) (kept t [])
unfolding upto
holds_none t = record { shows = refl; few = omega arith; numbers = refl; each = tt; fresh = λ n le. refl }

-- ---- the count

pub counted_more : (item : OwnItem) (items : List OwnItem) → counted_in (item ∷ items) ≡ counted_in items + (if is_counted item then 1 else 0)
counted_more item items = go (is_counted item)
  where
    go : (b : Bool) → length (cond b (item ∷ filter is_counted items) (filter is_counted items)) ≡ length (filter is_counted items) + (if b then 1 else 0)
    go true = omega arith
    go false = omega arith

-- ---- scans

meet_hidden : (t : Terms) (hs : List ℕ) (more steps : List PairStep) → MeetEach t (map hide_step hs ++ more) steps → AllByRecursion (λ n. n < shows_in steps) hs
meet_hidden t [] more steps m = tt
meet_hidden t (h ∷ hs) more steps m = ((up_from t steps h m.0).0, meet_hidden t hs more (Hide h ∷ steps) m.1)

meet_few : (t : Terms) (ss : List Showing) (steps : List PairStep) → shows_in steps ≤ 4294967295 → MeetEach t (map show_step ss) steps → shows_in steps + length ss ≤ 4294967295
meet_few t [] steps le m = omega (arith, le)
meet_few t (s ∷ ss) steps le m =
    let told = shows_told t steps in
    let numbers = m.0.numbers in
    let rest = meet_few t ss (show_step s ∷ steps) (omega (arith, told, numbers)) m.1 in
    omega (arith, rest)

-- a kind of a match has no more than 16 fields
few_fields : (kind : ℕ) → length (fields_of match_kinds kind) ≤ 16
few_fields zero = omega arith
few_fields (suc zero) = omega arith
few_fields (suc (suc zero)) = omega arith
few_fields (suc (suc (suc zero))) = omega arith
few_fields (suc (suc (suc (suc zero)))) = omega arith
few_fields (suc (suc (suc (suc (suc zero))))) = omega arith
few_fields (suc (suc (suc (suc (suc (suc kind)))))) = omega arith

pub all_short : (t : Terms) → t.kinds ≡ match_kinds → (ss : List GivenShow) → AllByRecursion (HasValues t) (map show_of ss) → AllByRecursion (λ s. length s.values ≤ 16) ss
all_short t kinds [] h = tt
all_short t kinds (s ∷ ss) h =
    let long = length-AreValues (fields_of t.kinds s.kind) s.values h.0 in
    let few : length (fields_of t.kinds s.kind) ≤ 16 = subst (λ (ks : List Kind). length (fields_of ks s.kind) ≤ 16) (sym kinds) (few_fields s.kind) in
    (omega (arith, long, few), all_short t kinds ss h.1)

pub how_of : (ss : List GivenShow) → map (λ (s : OwnShow). s.how) (map show_of ss) ≡ map (λ s. (show_of s).how) ss
how_of [] = refl
how_of (s ∷ ss) = ap (λ l. (show_of s).how ∷ l) (how_of ss)

module _ (c : ℕ) (seat : SeatState) (x : Table) (t : Terms) (items : List OwnItem) (s : Serves c seat x t items) where
  abbrev k : Kept
  k = kept t items

  module _ (hides : List ℕ) (nears : List NearPeriod) (shows : List OwnShow) (may : IsOwnScan t (kept t items) hides nears shows) where
    abbrev hows : List Showing
    hows = map (λ (y : OwnShow). y.how) shows

    pub hidden_shown : AllByRecursion (λ n. n < x.shows) hides
    hidden_shown = rw s.periods.shows (meet_hidden t hides (map near_step nears ++ map show_step hows) k.course.steps may.steps)

    pub shows_few : x.shows + length shows ≤ 4294967295
    shows_few =
        let after_hides = onto (map hide_step hides) k.course.steps in
        let after_nears = onto (map near_step nears) after_hides in
        let last = meet_rest t (map near_step nears) (map show_step hows) after_hides (meet_rest t (map hide_step hides) (map near_step nears ++ map show_step hows) k.course.steps may.steps) in
        let same : shows_in after_nears ≡ x.shows = shows_nears nears after_hides ∙ shows_hides hides k.course.steps ∙ sym s.periods.shows in
        let most = s.periods.few in
        let all = meet_few t hows after_nears (omega (arith, same, most)) last in
        omega (arith, all, same, length-map shows (λ (y : OwnShow). y.how))

    course_is : (after_scan hides nears shows k).course ≡ with_steps (scan_steps hides nears hows) k.course
    course_is =
        let steps = scan_journal hides nears shows k in
        let taken = begun_taken shows (with_course (with_steps (scan_steps hides nears []) k.course) k) in
        ap (λ (z : List PairStep × ℕ). record { steps = z.0; taken = z.1 }) (λ j. (steps j, taken j))

    pub scanned : (new : SeatState) (y : Table) → new.pair.keeps_all ≡ seat.pair.keeps_all → SeatStandsFor new t (with_steps (scan_steps hides nears hows) k.course)
        → Holds y (after_scan hides nears shows k) → Serves c new y t (Scan hides nears shows ∷ items)
    scanned new y keeping course periods = record {
      own = (may, s.own);
      config = s.config;
      move_bits = s.move_bits;
      kinds = s.kinds;
      client = s.client;
      course = subst (SeatStandsFor new t) (sym course_is) course;
      keeps = keeping ∙ s.keeps;
      periods = periods;
    }

  -- ---- ticks

  may_write : (w : OwnWrite) → IsOwnWrite t k.course.steps w → MayWrite k w
  may_write w h = record {
    shown = h.shown;
    up = h.up;
    value =
        let fs = fields_of t.kinds (traits_in k.course.steps w.n).kind in
        let long = length-AreValues fs (k.values w.n) (values_kept t items s.own w.n h.shown h.up) in
        let there = within fs w.field h.spec h.field in
        omega (arith, long, there);
  }
    where
      within : (fs : List FieldSpec) (i : ℕ) (spec : FieldSpec) → slice_get fs i ≡ Some spec → i < length fs
      within fs i spec e = slice_get_within fs i spec e

  pub may_write_all : (ws : List OwnWrite) → AllByRecursion (IsOwnWrite t k.course.steps) ws → AllByRecursion (MayWrite k) ws
  may_write_all [] h = tt
  may_write_all (w ∷ ws) h = (may_write w h.0, may_write_all ws h.1)

  pub taken_few : seat.taken < 4294967295
  taken_few =
      let same = s.course.holds.taken in
      let few = taken_kept t items s.own in
      let life = accepted_few t k.course.steps in
      let most = s.config.life in
      omega (arith, same, few, life, most)

  module _ (ws : List OwnWrite) (taken : ℕ) (may : IsOwnTick t (kept t items) ws taken) where
    pub tick_serves : (new : SeatState) (y : Table) → new.pair.keeps_all ≡ seat.pair.keeps_all → SeatStandsFor new t (ticked taken k.course) → Holds y (wrote_all ws k) → Serves c new y t (Tick ws taken ∷ items)
    tick_serves new y keeping course periods = record {
      own = (may, s.own);
      config = s.config;
      move_bits = s.move_bits;
      kinds = s.kinds;
      client = s.client;
      course = subst (λ (z : Course). SeatStandsFor new t (ticked taken z)) (sym (wrote_course t ws k)) course;
      keeps = keeping ∙ s.keeps;
      periods = holds_same y (wrote_all ws k) (ticked taken (wrote_all ws k).course) (record { shows = refl; hidden = λ n. refl; up = refl; kinds = λ n. refl }) periods;
    }

    pub none_taken : taken ≡ 0 → SeatStandsFor seat t (ticked taken k.course)
    none_taken none =
        let same : k.course.taken ≡ k.course.taken + taken = omega (arith, none) in
        subst (λ n. SeatStandsFor seat t (record { steps = k.course.steps; taken = n })) same s.course

    pub one_taken : taken ≢ 0 → SeatStandsFor (without_first seat) t (ticked taken k.course)
    one_taken some =
        let one = may.one in
        let is : taken ≡ 1 = omega (arith, one, some) in
        let waits = may.waits in
        let first = first_taken seat.waiting (accepted_in t k.course.steps) k.course.taken s.course.holds.waiting (omega (arith, waits, is)) in
        let same : k.course.taken + 1 ≡ k.course.taken + taken = omega (arith, is) in
        subst (λ n. SeatStandsFor (without_first seat) t (record { steps = k.course.steps; taken = n })) same (record {
          holds = record {
            pair = s.course.holds.pair;
            waiting = first.waiting;
            taken = ap (λ n. seat.taken + n) first.one ∙ ap (λ n. n + 1) s.course.holds.taken;
            few = first.few;
          };
          quiet_server = s.course.quiet_server;
          quiet_client = s.course.quiet_client;
        })
      where
        first_taken : {X : Type 0} (ws xs : List X) (n : ℕ) → ws ≡ drop n xs → 1 ≤ length (drop n xs)
            → record { waiting : drop 1 ws ≡ drop (n + 1) xs; one : ◌≡◌ {A = ℕ} (if is_some (slice_get ws 0) then 1 else 0) 1; few : n + 1 ≤ length xs }
        first_taken [] xs n e waits = absurd (let long = ap (λ l. length l) e in omega (arith, waits, long))
        first_taken (w ∷ ws) xs n e waits = record {
          waiting = ap (drop 1) e ∙ drop-drop 1 n xs;
          one = refl;
          few = omega (arith, waits, length-drop n xs);
        }

  -- ---- lines

  line_holds : (line : BodyLine) → IsDirect line → Holds x (after_line t line k)
  line_holds script.Tick d = absurd d
  line_holds (script.Scan n) d = absurd d
  line_holds (script.Pack n) d = absurd d
  line_holds (script.Show n) d = absurd d
  line_holds script.World d = absurd d
  line_holds (script.Post n class v) d = holds_same x k _ (record { shows = refl; hidden = λ n. refl; up = refl; kinds = λ n. refl }) s.periods
  line_holds (script.ClientPost n class v) d = holds_same x k _ (record { shows = refl; hidden = λ n. refl; up = refl; kinds = λ n. refl }) s.periods
  line_holds (script.ClientPack n) d = holds_same x k _ (record { shows = refl; hidden = λ n. refl; up = refl; kinds = λ n. refl }) s.periods
  line_holds (script.Down n place) d = holds_same x k _ (record { shows = refl; hidden = λ n. refl; up = refl; kinds = λ n. refl }) s.periods
  line_holds (script.Up n place) d = holds_same x k _ (record { shows = refl; hidden = λ n. refl; up = refl; kinds = λ n. refl }) s.periods
  line_holds (script.Raw n bytes) d = holds_same x k _ (record { shows = refl; hidden = λ n. refl; up = refl; kinds = λ n. refl }) s.periods
  line_holds (script.Move n m) d = holds_same x k _ (record { shows = refl; hidden = λ n. refl; up = refl; kinds = λ n. refl }) s.periods

  pub line_serves : (line : BodyLine) → IsDirect line → MayFollow t (kept t items) (Line line) → (new : SeatState) → new.pair.keeps_all ≡ seat.pair.keeps_all
      → SeatStandsFor new t (after_line t line k).course → Serves c new x t (Line line ∷ items)
  line_serves line direct may new keeping course = record {
    own = (may, s.own);
    config = s.config;
    move_bits = s.move_bits;
    kinds = s.kinds;
    client = s.client;
    course = course;
    keeps = keeping ∙ s.keeps;
    periods = line_holds line direct;
  }

  -- a line that shows the client changes nothing
  pub show_serves : (n : ℕ) → Serves c seat x t (Line (script.Show n) ∷ items)
  show_serves n = record { own = (tt, s.own); config = s.config; move_bits = s.move_bits; kinds = s.kinds; client = s.client; course = s.course; keeps = s.keeps; periods = s.periods }
