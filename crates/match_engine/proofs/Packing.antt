-- What a client's pack, show and scan need of the match, and what they leave.
use Rattle.std.proofs.Common.{◌≡◌, ◌≢◌, ℕ, zero, suc, ◌<◌, ◌==◌, Bool, true, false, not, ◌||◌, List, [], ◌∷◌, map, filter, length, get_or, if◌then◌else◌, refl, sym, ap, ◌∙◌, subst, arith, Option, Some, None}
use Rattle.std.specs.Prelude.{ℤ, pos, slice_get, option_map, option_and_then}
use Rattle.std.specs.List.{All, AllByRecursion}
use Rattle.std.proofs.lemmas.List.Elements.{recursion_from_All, All-from_recursion}
use Rattle.std.proofs.lemmas.Bool.{not-true}
use Rattle.std.proofs.lemmas.Bool.Decides.{nat_tests}
use Rattle.world_rules.specs.declared.object.Object.{Object}
use Rattle.quantised_fields.specs.declared.kind.Kind.{Kind}
use Rattle.tn_types.specs.declared.choices.Drain.{Drain}
use Rattle.tn_types.specs.declared.choices.Read.{Read}
use Rattle.notify_window.specs.declared.SendState.{SendState}
use Rattle.notify_window.specs.declared.SendState.TheVariants.{Room}
use Rattle.quantised_fields.specs.declared.field.FieldSpec.{FieldSpec}
use Rattle.match_script.specs.declared.types.BodyLine.{BodyLine}
use Rattle.match_script.specs.declared.types.BodyLine.TheVariants as script
use Rattle.match_script.specs.declared.types.Head.{Head}
use Rattle.world_rules.specs.Kinds.{match_kinds, kind_of}
use Rattle.world_sim.specs.Worlds.{Worlds, kind_at, values_at, value_at}
use Rattle.ghost_masks.specs.Plan.{fields_in, fields_of, kind_of as kind_shown}
use Rattle.ghost_model.specs.Legal.{IsUp}
use Rattle.stream_manager.specs.Limits.{Terms}
use Rattle.stream_manager.specs.Server.{server_state, ghost_log}
use Rattle.match_laws.specs.conn_packing.Packs.{absorbing}
use Rattle.match_laws.specs.pair_core.History.{PairStep, history, Pack}
use Rattle.match_laws.specs.pair_core.Stands.{StandsFor as PairStandsFor}
use Rattle.match_laws.proofs.Below.conn_packing.Scoped.{up-from, up-to}
use Rattle.match_laws.specs.conn_packing.Reads.{MayDrain, IsReadFor, HasRanges}
use Rattle.client_scope.specs.declared.period.ShownPeriod.{ShownPeriod}
use Rattle.client_scope.specs.Scans.{shown, periods}
use Rattle.client_scope.specs.StandsFor.{Table}
use Rattle.dirty_lanes.specs.Words.{Words}
use Rattle.match_laws.specs.own_lists.Own.{OwnItem, Line}
use Rattle.match_laws.specs.own_lists.Course.{with_step}
use Rattle.match_laws.specs.own_lists.pair_steps.Steps.{shows_in, is_hidden_in, up_in, traits_in}
use Rattle.match_laws.specs.own_lists.Counted.{counted_in}
use Rattle.match_laws.specs.own_lists.Kept.{Kept, undrained, drained, has_bits, drains_of, read_of, reads_for, reads_of, packs, kept}
use Rattle.match_laws.specs.own_lists.Past.{client_terms, kept_by, after}
use Rattle.match_laws.specs.own_lists.Conditions.{AreOwn}
use Rattle.match_laws.specs.own_lists.Agreement.{Agrees, IsPeriodOf}
use Rattle.match_laws.proofs.Below.own_lists.Agreeing.{own_lists_agree}
use Rattle.match_laws.proofs.Below.own_lists.Meeting.{are_met, all_up, reads_forced}
use Rattle.match_laws.proofs.Below.own_lists.Below.pair_steps.Journals.{up_from, up_to, kind_told}
use Rattle.match_laws.proofs.Below.own_lists.ScanFacts.{AreShown, AreDifferent, IsNone, objects, numbers, shown_are_shown}
use Rattle.match_laws.proofs.Below.own_lists.ScanChanges.{has}
use Rattle.match_laws.proofs.Below.own_lists.WorldFacts.{scans_are_sights}
use Rattle.match_laws.specs.client_seat.Stands.{SeatState, Packs, StandsFor as SeatStandsFor}
use Rattle.match_laws.specs.client_seat.Told.{packed_told, pack_told}
use Rattle.match_report.specs.declared.told.Told.{Told}
use Rattle.match_laws.specs.pair_core.Calls.{MayPack}
use Rattle.world_sim.specs.Rows.{values_of}
use Rattle.match_laws.proofs.Below.own_lists.Counting.{few_down}
use Rattle.match_engine.specs.Stands.{ClientHolds, IsMarked}
use Rattle.match_engine.specs.Serving.{Serves, OthersStay, AreApart, marked}
use Rattle.match_engine.specs.Values.{period_of, Rise, range_in, range_at, ranges, IsNewest}
use Rattle.match_engine.proofs.Marks.{marked_is}
use Rattle.match_engine.proofs.Rising.{in_turn, has_up}
use Rattle.match_engine.proofs.Fed.{own_few, own_line, more_lines}

-- different objects, one by one
apart_from : (p : ShownPeriod) (qs : List ShownPeriod) → IsNone p.object (objects qs) → AllByRecursion (λ (q : ShownPeriod). q.object ≢ p.object) qs
apart_from p [] h = tt
apart_from p (q ∷ qs) h = (h.0, apart_from p qs h.1)

are_apart : (qs : List ShownPeriod) → AreDifferent (objects qs) → AreApart qs
are_apart [] h = tt
are_apart (q ∷ qs) h = (apart_from q qs h.0, are_apart qs h.1)

below_all : (most : ℕ) (qs : List ShownPeriod) → AllByRecursion (λ o. o < most) (objects qs) → AllByRecursion (λ (q : ShownPeriod). q.object < most) qs
below_all most [] h = tt
below_all most (q ∷ qs) h = (h.0, below_all most qs h.1)

-- the range of a field by its kind
range_by : (o : Option Kind) (f : ℕ) (spec : FieldSpec) → slice_get (fields_in o) f ≡ Some spec → option_and_then (range_in f) o ≡ Some (spec.lo, spec.hi)
range_by None f spec h = absurd (cc)
range_by (Some kind) f spec h = ap (option_map (λ (x : FieldSpec). (x.lo, x.hi))) h

range_is : (kind f : ℕ) (spec : FieldSpec) → slice_get (fields_of match_kinds kind) f ≡ Some spec → option_and_then (range_in f) (slice_get match_kinds kind) ≡ Some (spec.lo, spec.hi)
range_is kind f spec h = range_by (slice_get match_kinds kind) f spec h

module _ (seat : SeatState) (scope : Table) (w : Worlds) (lanes : Words) (c : ℕ) (head : Head) (past : List BodyLine) (s : Serves seat scope w lanes c head past) where
  abbrev t : Terms
  t = client_terms head c

  abbrev k : Kept
  k = kept_by head (after head past) c

  abbrev ps : List ShownPeriod
  ps = shown ((after head past).scans c)

  pub agreed : AreOwn t ((after head past).own c) × Agrees (after head past).world c ((after head past).scans c) k
  agreed = own_lists_agree head past c s.lines s.below

  pub are_shown : AreShown (length (periods ((after head past).scans c))) ps
  are_shown = shown_are_shown ((after head past).scans c) (scans_are_sights head past c s.lines.fits)

  pub shown_rises : Rise scope.shown
  shown_rises = subst Rise (sym s.holds.periods.shown) (in_turn (λ (p : ShownPeriod). p.n) 0 (length (periods ((after head past).scans c))) ps are_shown.rising)

  -- what the masks tell is what was written and not drained
  pub written_is : marked lanes c scope.shown ≡ undrained k
  written_is =
      ap (marked lanes c) s.holds.periods.shown ∙ marked_is lanes c k ps (recursion_from_All (IsMarked lanes c k) ps s.holds.marks)
      ∙ ap (λ ns. map (λ n. record { n = n; bits = k.written n }) ns) (sym agreed.1.up)

  -- what is drained may be drained
  pub may_drain : MayDrain t (history t k.course.steps).server (server_state t.config (history t k.course.steps).server) (drains_of t k)
  may_drain = (are_met t refl (Line (script.Pack c) ∷ (after head past).own c) (tt, agreed.0)).0.0

  pub objects_there : All (λ p. p.object < lanes.objects) scope.shown
  objects_there =
      subst (λ (qs : List ShownPeriod). All (λ p. p.object < lanes.objects) qs) (sym s.holds.periods.shown)
      (subst (λ (most : ℕ). All (λ (p : ShownPeriod). p.object < most) ps) (sym s.objects) (All-from_recursion (λ (p : ShownPeriod). p.object < 1024) ps (below_all 1024 ps are_shown.below)))

  pub objects_apart : AreApart scope.shown
  objects_apart = subst AreApart (sym s.holds.periods.shown) (are_apart ps are_shown.apart)

  pub client_there : c < lanes.clients
  client_there = omega (arith, s.clients, s.below, s.lines.fits.clients)

  -- what a pack drains at Room
  pub drains_at_room : server_state t.config (history t k.course.steps).server ≡ Room → filter has_bits (marked lanes c scope.shown) ≡ drains_of t k
  drains_at_room room = ap (filter has_bits) written_is ∙ sym (ap (λ (state : SendState). drained state (undrained k)) room)

  -- ---- what a pack asks of the world

  -- a period of these numbers that is up is found, and what is shown of it is so
  found_in : (qs : List ShownPeriod) (n : ℕ) → AllByRecursion (IsPeriodOf (after head past).world c k) qs → has n (numbers qs) ≡ true
      → (p : ShownPeriod) × (period_of qs n ≡ Some p) × (p.n ≡ n) × IsPeriodOf (after head past).world c k p
  found_in [] n each h = absurd (cc)
  found_in (q ∷ qs) n each h = by (λ rest. found_in qs n each.1 rest) (q.n == n) refl h
    where
      by : (has n (numbers qs) ≡ true → (p : ShownPeriod) × (period_of qs n ≡ Some p) × (p.n ≡ n) × IsPeriodOf (after head past).world c k p)
          → (b : Bool) → (q.n == n) ≡ b → has n (numbers (q ∷ qs)) ≡ true
          → (p : ShownPeriod) × ((if b then Some q else period_of qs n) ≡ Some p) × (p.n ≡ n) × IsPeriodOf (after head past).world c k p
      by more true is h = (q, refl, grind (arith, nat_tests), each.0)
      by more false is h = let r = more (sym (ap (λ b. b || has n (numbers qs)) is) ∙ h) in (r.0, r.1, r.2, r.3)

  -- what is up is a shown period
  pub shown_up : (n : ℕ) → IsUp (ghost_log (history t k.course.steps).server) n → has n (numbers ps) ≡ true
  shown_up n up =
      let told = up_from t k.course.steps n up in
      ap (has n) (sym agreed.1.up) ∙ has_up k.course.steps n told.0 told.1

  pub in_ranges : HasRanges t (ghost_log (history t k.course.steps).server) (ranges w scope.shown)
  in_ranges n f spec up field =
      let p = found_in ps n (recursion_from_All (IsPeriodOf (after head past).world c k) ps agreed.1.periods) (shown_up n up) in
      let kind : kind_shown (ghost_log (history t k.course.steps).server) n ≡ kind_of p.3.object.state =
      kind_told t k.course.steps n ∙ ap (λ m. (traits_in k.course.steps m).kind) (sym p.2) ∙ p.3.kind in
      let at : kind_at (after head past).world (p.0).object ≡ Some (kind_of p.3.object.state) = ap (option_map (λ (o : Object). kind_of o.state)) p.3.there in
      ap (λ (x : Worlds). ranges x scope.shown n f) s.same_world ∙ ap (λ (qs : List ShownPeriod). ranges (after head past).world qs n f) s.holds.periods.shown
      ∙ ap (option_and_then (λ (q : ShownPeriod). range_at (after head past).world q.object f)) p.1
      ∙ ap (λ o. option_and_then (range_in f) (option_and_then (slice_get match_kinds) o)) at
      ∙ range_is (kind_of p.3.object.state) f spec (ap (λ m. slice_get (fields_of match_kinds m) f) (sym kind) ∙ field)

  -- ---- what a pack reads

  entry_of : {X : Type 0} (xs : List X) (i : ℕ) (x d : X) → slice_get xs i ≡ Some x → get_or xs i d ≡ x
  entry_of [] i x d h = absurd (cc)
  entry_of (y ∷ xs) zero x d h = cc
  entry_of (y ∷ xs) (suc i) x d h = entry_of xs i x d h

  period_is : (qs : List ShownPeriod) (n : ℕ) (p : ShownPeriod) → period_of qs n ≡ Some p → AllByRecursion (IsPeriodOf (after head past).world c k) qs
      → (p.n ≡ n) × IsPeriodOf (after head past).world c k p
  period_is [] n p h each = absurd (cc)
  period_is (q ∷ qs) n p h each = by (λ rest. period_is qs n p rest each.1) (q.n == n) refl h
    where
      by : (period_of qs n ≡ Some p → (p.n ≡ n) × IsPeriodOf (after head past).world c k p) → (b : Bool) → (q.n == n) ≡ b → (if b then Some q else period_of qs n) ≡ Some p
          → (p.n ≡ n) × IsPeriodOf (after head past).world c k p
      by more true is h =
          let same : q ≡ p = cc in let at : q.n ≡ n = grind (arith, nat_tests) in
          subst (λ (x : ShownPeriod). (x.n ≡ n) × IsPeriodOf (after head past).world c k x) same (at, each.0)
      by more false is h = more h

  plain_read : (r : Read) → IsNewest w scope.shown r → r ≡ read_of k.values (r.n, r.field)
  plain_read r h =
      let found : period_of ps r.n ≡ Some h.period = ap (λ (qs : List ShownPeriod). period_of qs r.n) (sym s.holds.periods.shown) ∙ h.found in
      let p = period_is ps r.n h.period found (recursion_from_All (IsPeriodOf (after head past).world c k) ps agreed.1.periods) in
      let newest : value_at (after head past).world h.period.object r.field ≡ Some r.value = ap (λ (x : Worlds). value_at x h.period.object r.field) (sym s.same_world) ∙ h.newest in
      let values : values_at (after head past).world h.period.object ≡ Some (values_of p.1.object) = ap (option_map values_of) p.1.there in
      let entry : slice_get (values_of p.1.object) r.field ≡ Some r.value = ap (option_and_then (λ (vs : List ℤ). slice_get vs r.field)) (sym values) ∙ newest in
      let kept_values : k.values r.n ≡ values_of p.1.object = ap k.values (sym p.0) ∙ p.1.values in
      let value : get_or (k.values r.n) r.field (pos 0) ≡ r.value = ap (λ (vs : List ℤ). get_or vs r.field (pos 0)) kept_values ∙ entry_of (values_of p.1.object) r.field r.value (pos 0) entry in
      rw value (rw (sym h.plain) refl)

  plain_reads : (rs : List Read) → AllByRecursion (IsNewest w scope.shown) rs → AllByRecursion (λ (r : Read). r ≡ read_of k.values (r.n, r.field)) rs
  plain_reads [] h = tt
  plain_reads (r ∷ rs) h = (plain_read r h.0, plain_reads rs h.1)

  pub reads_are : (drains : List Drain) (rs : List Read) → drains ≡ drains_of t k
      → IsReadFor t (absorbing drains (history t k.course.steps).server) (server_state t.config (history t k.course.steps).server) rs
      → AllByRecursion (IsNewest w scope.shown) rs → rs ≡ reads_of t k
  reads_are drains rs is asked newest =
      let log = (history t k.course.steps).server in
      reads_forced t (absorbing drains log) (server_state t.config log) k.values rs asked (plain_reads rs newest)
      ∙ ap (λ ds. reads_for t (absorbing ds log) (server_state t.config log) k.values) is

  -- ---- a pack

  pub may_pack : (drains : List Drain) → drains ≡ drains_of t k → MayPack seat.pair drains (ranges w scope.shown)
  may_pack drains is = record {
    terms = t;
    steps = k.course.steps;
    stands = s.holds.course.holds.pair;
    drained = subst (MayDrain t (history t k.course.steps).server (server_state t.config (history t k.course.steps).server)) (sym is) may_drain;
    ranged = in_ranges;
  }

  pub few_sent : counted_in past < 4000000 → seat.pair.sent < 4294967295
  few_sent few =
      let down = s.holds.course.holds.pair.sent in
      omega (arith, down, few_down t ((after head past).own c), own_few head past c, few)

  pub packed_tells : (drains : List Drain) (rs : List Read) (told : Told) (new : SeatState) → drains ≡ drains_of t k → rs ≡ reads_of t k → Packs seat drains rs c told new → told ≡ pack_told t k c
  packed_tells drains rs told new ds is p = p.told t k.course s.holds.course ∙ ap (λ x. packed_told c t k.course.steps x rs) ds ∙ ap (packed_told c t k.course.steps (drains_of t k)) is

  pub packed_serves : (drains : List Drain) (rs : List Read) (told : Told) (new : SeatState) (left : Words) → drains ≡ drains_of t k → rs ≡ reads_of t k → Packs seat drains rs c told new
      → OthersStay c lanes left → All (IsMarked left c (packs t k)) scope.shown → counted_in past < 4000000 → Serves new scope w left c head (script.Pack c ∷ past)
  packed_serves drains rs told new left ds is p others marks few =
      let own = own_line head (script.Pack c) past c tt refl in
      record {
        lines = more_lines head (script.Pack c) past s.lines s.below few;
        below = s.below;
        same_world = s.same_world;
        objects = others.objects ∙ s.objects;
        clients = others.clients ∙ s.clients;
        holds = subst (λ (x : List OwnItem). ClientHolds new scope left c t ((after head past).scans c) (kept t x)) (sym own.0) (record {
          course = subst (λ (x : List Read). SeatStandsFor new t (with_step (Pack (drains_of t k) x) k.course)) is
              (subst (λ (x : List Drain). SeatStandsFor new t (with_step (Pack x rs) k.course)) ds (p.stands t k.course s.holds.course));
          periods = s.holds.periods;
          marks = subst (λ (qs : List ShownPeriod). All (IsMarked left c (packs t k)) qs) s.holds.periods.shown marks;
        });
      }

  -- ---- shown periods are up, whatever steps the connection stands for

  marked_up : (other : Terms) (steps : List PairStep) → PairStandsFor seat.pair other steps → (qs : List ShownPeriod)
      → AllByRecursion (λ n. IsUp (ghost_log (history t k.course.steps).server) n) (numbers qs)
      → AllByRecursion (λ (d : Drain). IsUp (ghost_log (history other steps).server) d.n) (marked lanes c qs)
  marked_up other steps stands [] h = tt
  marked_up other steps stands (q ∷ qs) h =
      let masks = seat.pair.conn.masks in
      let mine = ghost_log (history t k.course.steps).server in
      (up-to masks (ghost_log (history other steps).server) stands.conn.masks q.n (up-from masks mine s.holds.course.holds.pair.conn.masks q.n h.0), marked_up other steps stands qs h.1)

  pub all_up_there : (drains : List Drain) → drains ≡ marked lanes c scope.shown → (other : Terms) (steps : List PairStep) → PairStandsFor seat.pair other steps
      → AllByRecursion (λ (d : Drain). IsUp (ghost_log (history other steps).server) d.n) drains
  all_up_there drains is other steps stands =
      subst (λ (ds : List Drain). AllByRecursion (λ (d : Drain). IsUp (ghost_log (history other steps).server) d.n) ds) (sym (is ∙ ap (marked lanes c) s.holds.periods.shown))
      (marked_up other steps stands ps (subst (λ ns. AllByRecursion (λ n. IsUp (ghost_log (history t k.course.steps).server) n) ns) agreed.1.up (all_are_up (up_in k.course.steps) (all_up k.course.steps))))
    where
      all_are_up : (ns : List ℕ) → AllByRecursion (λ n. (n < shows_in k.course.steps) × (not (is_hidden_in k.course.steps n) ≡ true)) ns → AllByRecursion (λ n. IsUp (ghost_log (history t k.course.steps).server) n) ns
      all_are_up [] h = tt
      all_are_up (n ∷ ns) h = (up_to t k.course.steps n (h.0).0 (not-true (is_hidden_in k.course.steps n) (h.0).1), all_are_up ns h.1)
