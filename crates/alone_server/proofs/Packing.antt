-- What a pack of a server that serves one client alone needs, and what it leaves.
use Rattle.std.proofs.Common.{◌≡◌, ◌∙◌, ℕ, zero, suc, ◌<◌, ◌==◌, Bool, true, false, cond, T, List, [], ◌∷◌, map, get_or, refl, sym, ap, subst, arith, Option, Some, None}
use Rattle.std.specs.Prelude.{ℤ, pos, ◌≤ℤ◌, int_le, slice_get, option_and_then, IsSome}
use Rattle.std.specs.List.{AllByRecursion}
use Rattle.std.proofs.lemmas.Bool.{eqb-true}
use Rattle.tn_types.specs.declared.choices.Drain.{Drain}
use Rattle.tn_types.specs.declared.choices.Read.{Read}
use Rattle.quantised_fields.specs.declared.field.FieldSpec.{FieldSpec}
use Rattle.quantised_fields.specs.declared.kind.Kind.{Kind}
use Rattle.notify_window.specs.declared.SendState.{SendState}
use Rattle.notify_window.specs.declared.SendState.TheVariants.{Held, Worn, Room}
use Rattle.match_script.specs.declared.types.BodyLine.TheVariants as script
use Rattle.match_report.specs.declared.told.Told.{Told}
use Rattle.world_rules.specs.Kinds.{match_kinds}
use Rattle.ghost_masks.specs.Plan.{fields_of, kind_of as kind_shown}
use Rattle.ghost_masks.specs.Carried.{AreValues}
use Rattle.stream_manager.specs.Limits.{Terms}
use Rattle.stream_manager.specs.Server.{ServerEvent, server_state, ghost_log}
use Rattle.conn_packing.specs.Packs.{absorbing}
use Rattle.pair_core.specs.History.{history, Pack}
use Rattle.conn_packing.specs.Reads.{MayDrain, IsReadFor, HasRanges}
use Rattle.pair_core.specs.Calls.{MayPack}
use Rattle.own_lists.specs.Own.{OwnItem, Line}
use Rattle.pair_steps.specs.Steps.{traits_in}
use Rattle.own_lists.specs.Course.{with_step}
use Rattle.own_lists.specs.Kept.{Kept, kept, drained, left, drains_of, read_of, reads_for, reads_of}
use Rattle.own_lists.proofs.ScanChanges.{has}
use Rattle.pair_steps.proofs.Journals.{up_from, kind_told}
use Rattle.own_lists.proofs.Meeting.{are_met, reads_forced, values_kept}
use Rattle.own_items.specs.client_seat.Stands.{SeatState, Packs, StandsFor as SeatStandsFor}
use Rattle.own_items.specs.client_seat.Told.{packed_told, pack_told}
use Rattle.alone_server.specs.declared.periods.OwnPeriod.{OwnPeriod}
use Rattle.alone_server.specs.Periods.{numbers, Rise, period_in, drain_of, left_by, Table, IsHeld, Holds}
use Rattle.alone_server.specs.Values.{range_of, range_in, ranges, IsOwnRead}
use Rattle.alone_server.specs.Stands.{counted_in, Serves}
use Rattle.own_items.proofs.Below.match_engine.Rising.{has_up}
use Rattle.alone_server.proofs.Holding.{held_in, holds_same, holds_rising, holds_drained, undrained_is}
use Rattle.alone_server.proofs.Sending.{few_down}

-- ---- a value in its range

holds : (b : Bool) → T b → b ≡ true
holds true h = refl
holds false h = absurd h

in_range : (v : ℤ) (spec : FieldSpec) → spec.lo ≤ℤ v → v ≤ℤ spec.hi → range_of v spec ≡ Some (spec.lo, spec.hi)
in_range v spec least most =
    let a : int_le spec.lo v ≡ true = holds (int_le spec.lo v) least.le in
    let b : int_le v spec.hi ≡ true = holds (int_le v spec.hi) most.le in
    rw (a, b) refl

value_there : (fs : List FieldSpec) (vs : List ℤ) (f : ℕ) (spec : FieldSpec) → AreValues fs vs → slice_get fs f ≡ Some spec
    → (v : ℤ) × (slice_get vs f ≡ Some v) × (spec.lo ≤ℤ v) × (v ≤ℤ spec.hi)
value_there [] vs f spec fit e = absurd (cc)
value_there (g ∷ fs) [] f spec fit e = absurd fit
value_there (g ∷ fs) (v ∷ vs) zero spec fit e =
    let same : g ≡ spec = cc in
    subst (λ (x : FieldSpec). (w : ℤ) × (◌≡◌ {A = Option ℤ} (Some v) (Some w)) × (x.lo ≤ℤ w) × (w ≤ℤ x.hi)) same (v, refl, fit.0, fit.1)
value_there (g ∷ fs) (v ∷ vs) (suc f) spec fit e = value_there fs vs f spec fit.2 e

entry_of : {X : Type 0} (xs : List X) (i : ℕ) (x d : X) → slice_get xs i ≡ Some x → get_or xs i d ≡ x
entry_of [] i x d h = absurd (cc)
entry_of (y ∷ xs) zero x d h = cc
entry_of (y ∷ xs) (suc i) x d h = entry_of xs i x d h

-- a field that has a range has a value
pub has_value : (spec : Option FieldSpec) (vs : List ℤ) (f : ℕ)
    → IsSome (option_and_then (λ (sp : FieldSpec). option_and_then (λ w. range_of w sp) (slice_get vs f)) spec) → slice_get vs f ≡ Some (get_or vs f (pos 0))
has_value None vs f h = absurd (cc)
has_value (Some spec) [] f h = absurd (cc)
has_value (Some spec) (v ∷ vs) zero h = refl
has_value (Some spec) (v ∷ vs) (suc f) h = has_value (Some spec) vs f h

-- a period that is found is held, and has this number
pub found_is : (k : Kept) (ps : List OwnPeriod) (n : ℕ) (p : OwnPeriod) → period_in ps n ≡ Some p → AllByRecursion (IsHeld k) ps → (p.n ≡ n) × IsHeld k p
found_is k [] n p e each = absurd (cc)
found_is k (q ∷ ps) n p e each = go (λ rest. found_is k ps n p rest each.1) (q.n == n) refl e
  where
    go : (period_in ps n ≡ Some p → (p.n ≡ n) × IsHeld k p) → (b : Bool) → (q.n == n) ≡ b → cond b (Some q) (period_in ps n) ≡ Some p → (p.n ≡ n) × IsHeld k p
    go more true is e =
        let same : q ≡ p = cc in
        subst (λ (x : OwnPeriod). (x.n ≡ n) × IsHeld k x) same (eqb-true q.n n is, each.0)
    go more false is e = more e

module _ (client : ℕ) (seat : SeatState) (x : Table) (t : Terms) (items : List OwnItem) (s : Serves client seat x t items) where
  abbrev k : Kept
  k = kept t items

  abbrev log : List ServerEvent
  log = (history t k.course.steps).server

  abbrev state : SendState
  state = server_state t.config log

  pub few_sent : counted_in items < 4000000 → seat.pair.sent < 4294967295
  few_sent few =
      let down = s.course.holds.pair.sent in
      omega (arith, down, few_down t items, few)

  pub drains_is : (st : SendState) → st ≡ state → drained st (map drain_of x.periods) ≡ drains_of t k
  drains_is st is = ap (drained st) (undrained_is x k s.periods) ∙ ap (λ (z : SendState). drained z (Rattle.own_lists.specs.Kept.undrained k)) is

  abbrev left_table : SendState → Table
  left_table st = record { shows = x.shows; periods = left_by st x.periods }

  abbrev left_kept : SendState → Kept
  left_kept st = record { course = k.course; values = k.values; written = left st k.written }

  pub holds_left : (st : SendState) → Holds (left_table st) (left_kept st)
  holds_left Room = holds_drained x k s.periods
  holds_left Held = s.periods
  holds_left Worn = s.periods

  pub left_rises : (st : SendState) → Rise (left_by st x.periods)
  left_rises st = holds_rising (left_table st) (left_kept st) (holds_left st)

  pub in_ranges : (st : SendState) → HasRanges t (ghost_log log) (ranges (left_by st x.periods))
  in_ranges st n f spec up field =
      let told = up_from t k.course.steps n up in
      let h = holds_left st in
      let among : has n (numbers (left_by st x.periods)) ≡ true = ap (has n) h.numbers ∙ has_up k.course.steps n told.0 told.1 in
      let p = held_in (left_kept st) (left_by st x.periods) n h.each among in
      let kind : kind_shown (ghost_log log) n ≡ p.0.kind = kind_told t k.course.steps n ∙ ap (λ m. (traits_in k.course.steps m).kind) (sym p.2) ∙ sym p.3.kind in
      let here : slice_get (fields_of match_kinds p.0.kind) f ≡ Some spec =
      ap (λ (ks : List Kind). slice_get (fields_of ks p.0.kind) f) (sym s.kinds) ∙ ap (λ m. slice_get (fields_of t.kinds m) f) (sym kind) ∙ field in
      let theirs : slice_get (fields_of t.kinds (traits_in k.course.steps n).kind) f ≡ Some spec =
      ap (λ m. slice_get (fields_of t.kinds m) f) (sym (kind_told t k.course.steps n)) ∙ field in
      let v = value_there (fields_of t.kinds (traits_in k.course.steps n).kind) (k.values n) f spec (values_kept t items s.own n told.0 told.1) theirs in
      let value : slice_get p.0.values.items f ≡ Some v.0 = ap (λ (vs : List ℤ). slice_get vs f) (p.3.values ∙ ap k.values p.2) ∙ v.1 in
      ap (option_and_then (range_in f)) p.1
      ∙ ap (option_and_then (λ (sp : FieldSpec). option_and_then (λ w. range_of w sp) (slice_get p.0.values.items f))) here
      ∙ ap (option_and_then (λ w. range_of w spec)) value ∙ in_range v.0 spec v.2 v.3

  pub may_pack : (st : SendState) → st ≡ state → (drains : List Drain) → drains ≡ drained st (map drain_of x.periods)
      → MayPack seat.pair drains (ranges (left_by st x.periods))
  may_pack st at drains is = record {
    terms = t;
    steps = k.course.steps;
    stands = s.course.holds.pair;
    drained = subst (MayDrain t log state) (sym (is ∙ drains_is st at)) (are_met t (ap (λ (ks : List Kind). Rattle.quantised_fields.specs.Kinds.table_fault ks) s.kinds) (Line (script.Pack 0) ∷ items) (tt, s.own)).0.0;
    ranged = in_ranges st;
  }

  -- ---- what a pack reads

  plain_read : (st : SendState) (r : Read) → IsOwnRead (left_by st x.periods) r → r ≡ read_of k.values (r.n, r.field)
  plain_read st r h =
      let p = found_is (left_kept st) (left_by st x.periods) r.n h.period h.found (holds_left st).each in
      let entry : slice_get (k.values r.n) r.field ≡ Some r.value = ap (λ (vs : List ℤ). slice_get vs r.field) (sym (p.1.values ∙ ap k.values p.0)) ∙ h.newest in
      let value : get_or (k.values r.n) r.field (pos 0) ≡ r.value = entry_of (k.values r.n) r.field r.value (pos 0) entry in
      rw value (rw (sym h.plain) refl)

  plain_reads : (st : SendState) (rs : List Read) → AllByRecursion (IsOwnRead (left_by st x.periods)) rs → AllByRecursion (λ (r : Read). r ≡ read_of k.values (r.n, r.field)) rs
  plain_reads st [] h = tt
  plain_reads st (r ∷ rs) h = (plain_read st r h.0, plain_reads st rs h.1)

  pub reads_are : (st : SendState) (drains : List Drain) (rs : List Read) → drains ≡ drains_of t k
      → IsReadFor t (absorbing drains log) state rs → AllByRecursion (IsOwnRead (left_by st x.periods)) rs → rs ≡ reads_of t k
  reads_are st drains rs is asked newest =
      reads_forced t (absorbing drains log) state k.values rs asked (plain_reads st rs newest)
      ∙ ap (λ ds. reads_for t (absorbing ds log) state k.values) is

  -- ---- what a pack leaves

  module _ (drains : List Drain) (rs : List Read) (told : Told) (new : SeatState) (ds : drains ≡ drains_of t k) (is : rs ≡ reads_of t k) (p : Packs seat drains rs client told new) where
    pub packed_tells : told ≡ pack_told t k t.config.client
    packed_tells =
        p.told t k.course s.course ∙ ap (λ d. packed_told client t k.course.steps d rs) ds ∙ ap (packed_told client t k.course.steps (drains_of t k)) is
        ∙ ap (pack_told t k) (sym s.client)

    pub packed_serves : (st : SendState) → st ≡ state → (c : ℕ) → new.pair.keeps_all ≡ seat.pair.keeps_all → Serves client new (left_table st) t (Line (script.Pack c) ∷ items)
    packed_serves st at c keeping = record {
      own = (tt, s.own);
      config = s.config;
      move_bits = s.move_bits;
      kinds = s.kinds;
      client = s.client;
      course = subst (λ (y : List Read). SeatStandsFor new t (with_step (Pack (drains_of t k) y) k.course)) is
          (subst (λ (y : List Drain). SeatStandsFor new t (with_step (Pack y rs) k.course)) ds (p.stands t k.course s.course));
      keeps = keeping ∙ s.keeps;
      periods = subst (λ (z : SendState). Holds (left_table st) (record { course = with_step (Pack (drains_of t k) (reads_of t k)) k.course; values = k.values; written = left z k.written })) at
          (holds_same (left_table st) (left_kept st) (with_step (Pack (drains_of t k) (reads_of t k)) k.course)
          (record { shows = refl; hidden = λ n. refl; up = refl; kinds = λ n. refl }) (holds_left st));
    }
