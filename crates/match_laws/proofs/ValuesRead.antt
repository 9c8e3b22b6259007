-- Whatever a pack of a journal read, the object had at that moment, at or after the show of the period.
use Rattle.std.proofs.Common.{◌≡◌, ℕ, ℤ, zero, suc, ◌+◌, ◌<◌, ◌≤◌, ◌&&◌, Bool, true, false, nat_lt, cond, List, [], ◌∷◌, ◌++◌, Option, Some, None, length, refl, sym, ap, ◌∙◌, subst, arith, inl, inr}
use Rattle.std.specs.Prelude.{◌⊎◌, map, slice_get, IsSome, option_map}
use Rattle.std.specs.List.{AllByRecursion, filter_map, enumerate_from, cons_option}
use Rattle.std.proofs.lemmas.Bool.{and_parts, and_from, ltb-true, lt-ltb}
use Rattle.std.proofs.lemmas.List.Elements.{recursion_from_All}
use Rattle.std.proofs.lemmas.Option.{slice_get_within}
use Rattle.tn_types.specs.declared.choices.Choice.{Choice}
use Rattle.tn_types.specs.declared.choices.Read.{Read}
use Rattle.tn_types.specs.BitWords.{has_bit}
use Rattle.quantised_fields.specs.declared.field.FieldSpec.{FieldSpec}
use Rattle.quantised_fields.specs.Kinds.{table_fault}
use Rattle.notify_window.specs.declared.SendState.{SendState}
use Rattle.notify_window.specs.declared.SendState.TheVariants.{Held, Worn, Room}
use Rattle.match_script.specs.declared.types.BodyLine.{BodyLine}
use Rattle.match_script.specs.declared.types.BodyLine.TheVariants as script
use Rattle.client_scope.specs.declared.period.Near.{Near as NearPeriod}
use Rattle.client_scope.specs.declared.period.ShownPeriod.{ShownPeriod}
use Rattle.client_scope.specs.Scans.{periods, comes_again, at_level, lasting, level_in, last, shown}
use Rattle.ghost_model.specs.Scope.{shows}
use Rattle.ghost_model.specs.Phases.{is_up}
use Rattle.ghost_model.specs.Ghosts.{GhostEvent, Grant, scope_log, phase}
use Rattle.ghost_model.specs.Legal.{IsUp}
use Rattle.ghost_masks.specs.Plan.{kind_of, fields_of, IsItem}
use Rattle.stream_manager.specs.Limits.{Terms}
use Rattle.stream_manager.specs.Server.{ServerEvent, server_state, ghost_log, choices_at}
use Rattle.conn_packing.specs.Packs.{absorbing}
use Rattle.client_seat.specs.pair_core.History.{PairStep, Pack, history}
use Rattle.conn_packing.specs.Reads.{HasRanges, asked_by, asked_by_all}
use Rattle.client_seat.specs.pair_core.Conditions.{AreMet}
use Rattle.conn_packing.proofs.Lists.{all-append}
use Rattle.conn_packing.proofs.ReadValues.{supplies, all-may-be-asked}
use Rattle.conn_packing.proofs.Scoped.{absorbed-ranges}
use Rattle.pair_copies.specs.Reads.{HasRead, WasRead}
use Rattle.pair_copies.proofs.Runs.{run, fields-run}
use Rattle.world_rules.specs.Kinds.{kind_of as kind_in_world}
use Rattle.world_rules.specs.declared.object.Object.{Object}
use Rattle.world_sim.specs.Rows.{values_of}
use Rattle.world_sim.specs.Worlds.{Worlds, kind_at, values_at}
use Rattle.world_scope.specs.declared.viewer.Seen.{Seen}
use Rattle.client_seat.specs.own_lists.declared.showing.Showing.{Showing}
use Rattle.client_seat.specs.own_lists.pair_steps.Steps.{traits_in}
use Rattle.client_seat.specs.own_lists.Own.{OwnItem, Line, Scan, Tick}
use Rattle.client_seat.specs.own_lists.Course.{onto, near_step, show_step, scan_steps}
use Rattle.client_seat.specs.own_lists.Kept.{Kept, undrained, drained, drains_of, read_of, reads_for, reads_of, after_line, follows}
use Rattle.client_seat.specs.own_lists.Agreement.{IsPeriodOf, Agrees}
use Rattle.client_seat.proofs.Below.own_lists.Below.pair_steps.Journals.{up_from, kind_told}
use Rattle.client_seat.proofs.Below.own_lists.Meeting.{scan_journal}
use Rattle.client_seat.proofs.Below.own_lists.KeptValues.{own_fields, wrote_course}
use Rattle.client_seat.proofs.Below.own_lists.ScanFacts.{numbers}
use Rattle.client_seat.proofs.Below.own_lists.ScanChanges.{has, held_at}
use Rattle.client_seat.proofs.Below.own_lists.Standing.{IsShownIn}
use Rattle.client_seat.specs.own_lists.pair_steps.Steps.{IsNoPack}
use Rattle.match_laws.proofs.ValuesNewest.{newest_of}
use Rattle.match_laws.proofs.ValuesTold.{up_has, pack_items}

-- ---- a shown period has the object that it began with

kept-begun : (os : List ℕ) (now : ℕ → Option ℕ) (es : List (ℕ × ℕ)) → AllByRecursion (λ (e : ℕ × ℕ). slice_get os e.0 ≡ Some e.1) es
    → AllByRecursion (λ (p : ShownPeriod). slice_get os p.n ≡ Some p.object) (filter_map (lasting os now) es)
kept-begun os now [] h = tt
kept-begun os now (e ∷ es) h = by (comes_again os e.0 e.1) (now e.1) (kept-begun os now es h.1)
  where
    by : (again : Bool) (o : Option ℕ)
        → AllByRecursion (λ (p : ShownPeriod). slice_get os p.n ≡ Some p.object) (filter_map (lasting os now) es)
        → AllByRecursion (λ (p : ShownPeriod). slice_get os p.n ≡ Some p.object)
        (cons_option (cond again None (option_map (at_level e) o)) (filter_map (lasting os now) es))
    by true o t = t
    by false None t = t
    by false (Some l) t = (h.0, t)

numbered : (get : ℕ → Option ℕ) (k : ℕ) (xs : List ℕ) → ((i : ℕ) (x : ℕ) → slice_get xs i ≡ Some x → get (k + i) ≡ Some x)
    → AllByRecursion (λ (e : ℕ × ℕ). get e.0 ≡ Some e.1) (enumerate_from k xs)
numbered get k [] h = tt
numbered get k (x ∷ xs) h = (
  subst (λ i. get i ≡ Some x) (let e : k + 0 ≡ k = omega arith in e) (h 0 x refl),
  numbered get (k + 1) xs (λ i y is. subst (λ j. get j ≡ Some y) (let e : k + suc i ≡ (k + 1) + i = omega arith in e) (h (suc i) y is)),
)

begun_at : (scans : List (List Seen)) → AllByRecursion (λ (p : ShownPeriod). slice_get (periods scans) p.n ≡ Some p.object) (shown scans)
begun_at scans = kept-begun (periods scans) (level_in (last scans)) (enumerate_from 0 (periods scans))
    (numbered (slice_get (periods scans)) 0 (periods scans)
    (λ i x is. subst (λ j. slice_get (periods scans) j ≡ Some x) (let e : i ≡ 0 + i = omega arith in e) is))

-- ---- a period that is up is one of the world

pub record IsAt (w : Worlds) (c : ℕ) (scans : List (List Seen)) (k : Kept) (n : ℕ) : Type 0 where
  pub object : ℕ
  pub begun : slice_get (periods scans) n ≡ Some object
  pub kind : kind_at w object ≡ Some (traits_in k.course.steps n).kind
  pub values : values_at w object ≡ Some (k.values n)

module _ (w : Worlds) (c : ℕ) (scans : List (List Seen)) (k : Kept) where
  one-at : (p : ShownPeriod) → slice_get (periods scans) p.n ≡ Some p.object → IsPeriodOf w c k p → IsAt w c scans k p.n
  one-at p begun of = record {
    object = p.object;
    begun = begun;
    kind = ap (option_map (λ (o : Object). kind_in_world o.state)) of.there ∙ ap (λ (kind : ℕ). Some kind) (sym of.kind);
    values = ap (option_map values_of) of.there ∙ ap (λ (vs : List ℤ). Some vs) (sym of.values);
  }

  all-at : (ps : List ShownPeriod) → AllByRecursion (λ (p : ShownPeriod). slice_get (periods scans) p.n ≡ Some p.object) ps
      → AllByRecursion (IsPeriodOf w c k) ps → AllByRecursion (IsAt w c scans k) (numbers ps)
  all-at [] begun of = tt
  all-at (p ∷ ps) begun of = (one-at p begun.0 of.0, all-at ps begun.1 of.1)

  pub up_at : Agrees w c scans k → (n : ℕ) → IsShownIn k.course.steps n → IsAt w c scans k n
  up_at agrees n up =
      held_at (IsAt w c scans k) n (numbers (shown scans))
      (all-at (shown scans) (begun_at scans) (recursion_from_All (IsPeriodOf w c k) (shown scans) agrees.periods))
      (ap (has n) (sym agrees.up) ∙ up_has k.course.steps n up)

-- ---- what a pack asks for

abbrev up-in-log : List GhostEvent → ℕ → Bool
up-in-log log n = nat_lt n (shows (scope_log log)) && is_up (phase log n)

abbrev ranges-if : Bool → Option FieldSpec → Option (ℤ × ℤ)
ranges-if true (Some spec) = Some (spec.lo, spec.hi)
ranges-if true None = None
ranges-if false o = None

module _ (t : Terms) (log : List GhostEvent) where
  abbrev ranges : ℕ → ℕ → Option (ℤ × ℤ)
  ranges n f = ranges-if (up-in-log log n) (slice_get (fields_of t.kinds (kind_of log n)) f)

  has-ranges : HasRanges t log ranges
  has-ranges n f spec up is =
      let shown = lt-ltb n (shows (scope_log log)) up.shown in
      let there : up-in-log log n ≡ true = and_from (nat_lt n (shows (scope_log log))) (is_up (phase log n)) shown up.up in
      λ j. ranges-if (there j) (is j)

  -- what it has is of a period that is up, and one of its fields
  record IsField (n f : ℕ) : Type 0 where
    pub up : IsUp log n
    pub field : f < length (fields_of t.kinds (kind_of log n))

  is-field : (n f : ℕ) → IsSome (ranges n f) → IsField n f
  is-field n f h = go (up-in-log log n) refl (slice_get (fields_of t.kinds (kind_of log n)) f) refl h
    where
      go : (b : Bool) → up-in-log log n ≡ b → (o : Option FieldSpec) → slice_get (fields_of t.kinds (kind_of log n)) f ≡ o
          → IsSome (ranges-if b o) → IsField n f
      go false e o is h = absurd (cc)
      go true e None is h = absurd (cc)
      go true e (Some spec) is h =
          let p = and_parts (nat_lt n (shows (scope_log log))) (is_up (phase log n)) e in
          record {
            up = record { shown = ltb-true n (shows (scope_log log)) p.0; up = p.1 };
            field = slice_get_within (fields_of t.kinds (kind_of log n)) f spec is;
          }

all-fields : (Q : ℕ → ℕ → Type 0) (n mask k count : ℕ) → k + count ≤ 16 → ((f : ℕ) → f < 16 → has_bit mask f ≡ true → Q n f)
    → AllByRecursion (λ (x : ℕ × ℕ). Q x.0 x.1) (map {B = ℕ × ℕ} (λ f. (n, f)) (run mask k count))
all-fields Q n mask k zero le h = tt
all-fields Q n mask k (suc count) le h = go (has_bit mask k) refl (all-fields Q n mask (suc k) count (omega (arith, le)) h)
  where
    go : (b : Bool) → has_bit mask k ≡ b
        → AllByRecursion (λ (x : ℕ × ℕ). Q x.0 x.1) (map {B = ℕ × ℕ} (λ f. (n, f)) (run mask (suc k) count))
        → AllByRecursion (λ (x : ℕ × ℕ). Q x.0 x.1)
        (map {B = ℕ × ℕ} (λ f. (n, f)) (cond b (k ∷ run mask (suc k) count) (run mask (suc k) count)))
    go true e rest = (h k (omega (arith, le)) e, rest)
    go false e rest = rest

all-asked : (Q : ℕ → ℕ → Type 0) (cs : List Choice)
    → AllByRecursion (λ (c : Choice). (f : ℕ) → f < 16 → has_bit c.mask f ≡ true → Q c.n f) cs
    → AllByRecursion (λ (x : ℕ × ℕ). Q x.0 x.1) (asked_by_all cs)
all-asked Q [] h = tt
all-asked Q (c ∷ cs) h =
    all-append (λ (x : ℕ × ℕ). Q x.0 x.1) (asked_by c) (asked_by_all cs)
    (subst (λ (l : List ℕ). AllByRecursion (λ (x : ℕ × ℕ). Q x.0 x.1) (map {B = ℕ × ℕ} (λ f. (c.n, f)) l)) (sym (fields-run c.mask))
    (all-fields Q c.n c.mask 0 16 (omega arith) h.0))
    (all-asked Q cs h.1)

-- ---- what a pack reads

-- the newest value of a field of a period that is up
pub record IsRead (t : Terms) (k : Kept) (n f : ℕ) (v : ℤ) : Type 0 where
  pub up : IsShownIn k.course.steps n
  pub field : f < length (own_fields t k.course.steps n)
  pub newest : v ≡ newest_of k.values n f

module _ (t : Terms) (k : Kept) where
  abbrev told : List ServerEvent
  told = (history t k.course.steps).server

  reads-are : (xs : List (ℕ × ℕ)) → AllByRecursion (λ (x : ℕ × ℕ). IsSome (ranges t (ghost_log told) x.0 x.1)) xs
      → AllByRecursion (λ (r : Read). IsRead t k r.n r.field r.value) (map (read_of k.values) xs)
  reads-are [] h = tt
  reads-are (x ∷ xs) h =
      let is = is-field t (ghost_log told) x.0 x.1 h.0 in (
        record {
          up = up_from t k.course.steps x.0 is.up;
          field = subst (λ kind. x.1 < length (fields_of t.kinds kind)) (kind_told t k.course.steps x.0) is.field;
          newest = refl;
        },
        reads-are xs h.1,
      )

  one-read : (n f : ℕ) (v : ℤ) (rs : List Read) → AllByRecursion (λ (r : Read). IsRead t k r.n r.field r.value) rs → HasRead rs n f v
      → IsRead t k n f v
  one-read n f v [] all h = absurd h
  one-read n f v (r ∷ rs) all (inl is) = subst (λ x. IsRead t k n f x) is.2
      (subst (λ x. IsRead t k n x r.value) is.1 (subst (λ x. IsRead t k x r.field r.value) is.0 all.0))
  one-read n f v (r ∷ rs) all (inr rest) = one-read n f v rs all.1 rest

  module _ (table : table_fault t.kinds ≡ None) (met : AreMet t k.course.steps)
      (pack : AreMet t (Pack (drains_of t k) (reads_of t k) ∷ k.course.steps)) where
    by-state : (state : SendState)
        → AllByRecursion (IsItem t.kinds (Grant ∷ ghost_log (absorbing (drained state (undrained k)) told)))
        (choices_at t (absorbing (drained state (undrained k)) told))
        → AllByRecursion (λ (r : Read). IsRead t k r.n r.field r.value)
        (reads_for t (absorbing (drained state (undrained k)) told) state k.values)
    by-state Held its = tt
    by-state Worn its = tt
    by-state Room its =
        let later = absorbing (drained Room (undrained k)) told in
        let has = supplies t (ghost_log later) (ranges t (ghost_log told))
        (absorbed-ranges t (drained Room (undrained k)) told (ranges t (ghost_log told)) (has-ranges t (ghost_log told)))
        (choices_at t later) its in
        reads-are (asked_by_all (choices_at t later))
        (all-asked (λ n f. IsSome (ranges t (ghost_log told) n f)) (choices_at t later)
        (all-may-be-asked t.kinds table (Grant ∷ ghost_log later) (ranges t (ghost_log told)) (choices_at t later) its has))

    pub pack_reads : (n f : ℕ) (v : ℤ) → HasRead (reads_of t k) n f v → IsRead t k n f v
    pack_reads n f v h = one-read n f v (reads_of t k) (by-state (server_state t.config told) (pack_items t table k met pack)) h

-- ---- which item of an own list reads

onto-read : (n f : ℕ) (v : ℤ) (more steps : List PairStep) → AllByRecursion IsNoPack more → WasRead (onto more steps) n f v
    → WasRead steps n f v
onto-read n f v [] steps none h = h
onto-read n f v (step ∷ more) steps none h = before step none.0 (onto-read n f v more (step ∷ steps) none.1 h)
  where
    before : (step : PairStep) → IsNoPack step → WasRead (step ∷ steps) n f v → WasRead steps n f v
    before (Pack drains reads) none h = absurd none
    before step none h = h

shows-pack-none : (shows : List Showing) → AllByRecursion IsNoPack (map show_step shows)
shows-pack-none [] = tt
shows-pack-none (s ∷ shows) = (tt, shows-pack-none shows)

nears-pack-none : (nears : List NearPeriod) (shows : List Showing) → AllByRecursion IsNoPack (map near_step nears ++ map show_step shows)
nears-pack-none [] shows = shows-pack-none shows
nears-pack-none (p ∷ nears) shows = (tt, nears-pack-none nears shows)

scan-packs-none : (hides : List ℕ) (nears : List NearPeriod) (shows : List Showing)
    → AllByRecursion IsNoPack (scan_steps hides nears shows)
scan-packs-none [] nears shows = nears-pack-none nears shows
scan-packs-none (n ∷ hides) nears shows = (tt, scan-packs-none hides nears shows)

module _ (t : Terms) (n f : ℕ) (v : ℤ) where
  -- what was read after an item was read before it, or is read by the pack that the item is
  abbrev IsReadBy : List PairStep → Kept → Type 0
  IsReadBy steps k = WasRead steps n f v → HasRead (reads_of t k) n f v ⊎ WasRead k.course.steps n f v

  line-read : (line : BodyLine) (k : Kept) → IsReadBy (after_line t line k).course.steps k
  line-read (script.Pack c) k h = h
  line-read line k h = inr h

  pub item_read : (item : OwnItem) (k : Kept) → IsReadBy (follows t item k).course.steps k
  item_read (Line line) k h = line-read line k h
  item_read (Scan hides nears shows) k h =
      let hows : List Showing = map (λ s. s.how) shows in
      inr (onto-read n f v (scan_steps hides nears hows) k.course.steps (scan-packs-none hides nears hows)
      (subst (λ s. WasRead s n f v) (scan_journal hides nears shows k) h))
  item_read (Tick writes taken) k h = inr (subst (λ c. WasRead c.steps n f v) (wrote_course t writes k) h)
