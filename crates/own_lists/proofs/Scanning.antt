-- What a scan of a match adds to an own list may follow, and keeps what the list says of the world.
use Rattle.std.proofs.Common.{◌≡◌, ◌≢◌, ℕ, zero, suc, ◌+◌, ◌<◌, ◌≤◌, Bool, true, false, not, cond, nat_eq, List, [], ◌∷◌, ◌++◌, length, map, filter, Option, Some, None, refl, sym, ap, ◌∙◌, subst, arith, append-nil, add-zero, add-one, length-append}
use Rattle.std.specs.Prelude.{ℤ, slice_get, option_map}
use Rattle.std.specs.Option.{unwrap_or, option_map_or}
use Rattle.std.specs.List.{All, AllByRecursion, filter_map, cons_option, list_any}
use Rattle.std.proofs.lemmas.Bool.{ne_eqb, eq-eqb, false_from_ne_true, or_from}
use Rattle.std.proofs.lemmas.List.{length-map}
use Rattle.std.proofs.lemmas.List.Elements.{recursion_from_All, filter-append}
use Rattle.tn_types.specs.declared.limits.TheConstants.{MAX_OBJECTS, MAX_SHOWS, MAX_DISTANCE_LEVEL, MAX_BLOCKS}
use Rattle.ghost_model.specs.Words.{upto}
use Rattle.ghost_model.specs.Scope.{Traits, up_periods, shows as shows_of}
use Rattle.ghost_model.specs.Ghosts.{scope_log}
use Rattle.pair_steps.specs.ghost_masks.Plan.{fields_of}
use Rattle.pair_steps.specs.ghost_masks.Carried.{AreValues}
use Rattle.pair_steps.specs.stream_manager.Limits.{Terms}
use Rattle.pair_steps.specs.stream_manager.Server.{ghost_log}
use Rattle.pair_steps.specs.pair_core.History.{PairStep, Show, history}
use Rattle.pair_steps.specs.pair_core.Conditions.{IsMet}
use Rattle.match_script.specs.declared.types.Head.{Head}
use Rattle.world_rules.specs.declared.object.Object.{Object}
use Rattle.world_rules.specs.Kinds.{kind_of, match_kinds}
use Rattle.world_rules.specs.Ranges.{ObjectFits}
use Rattle.world_rules.specs.Flags.{is_player}
use Rattle.world_rules.specs.Identity.{IsPeopled}
use Rattle.world_sim.specs.Rows.{values_of}
use Rattle.world_sim.specs.Worlds.{Worlds, IsWorld, kind_at, block_at, values_at}
use Rattle.client_scope.specs.world_scope.declared.viewer.Seen.{Seen}
use Rattle.client_scope.specs.declared.period.ShownPeriod.{ShownPeriod}
use Rattle.client_scope.specs.declared.period.Near.{Near as NearPeriod}
use Rattle.client_scope.specs.Scans.{level_in, last, is_new, periods, shown}
use Rattle.client_scope.specs.Changes.{hidden, hides, nears, shows}
use Rattle.client_scope.specs.Marks.{with_level, goes_on, begun}
use Rattle.own_lists.specs.declared.showing.Showing.{Showing}
use Rattle.pair_steps.specs.Steps.{shows_in, is_hidden_in, up_in, traits_in}
use Rattle.own_lists.specs.Own.{OwnShow}
use Rattle.own_lists.specs.Course.{onto, hide_step, near_step, show_step, scan_steps, with_steps}
use Rattle.own_lists.specs.Kept.{Kept, begins, all_begin, with_course, after_scan}
use Rattle.own_lists.specs.Conditions.{MeetEach, HasValues, IsOwnScan}
use Rattle.own_lists.specs.Past.{client_terms, showing_of, own_show}
use Rattle.own_lists.specs.Agreement.{IsPeriodOf}
use Rattle.pair_steps.proofs.Journals.{shows_told, up_count_told, control_told}
use Rattle.own_lists.proofs.ScanFacts.{IsSight, IsNone, AreNew, numbers, objects, first_of, below_rising, kept_shown, new_beside_kept, shown_more, new_more, step_on, numbers_on, shows_are_new, many_periods, shown_next, few_shown}
use Rattle.own_lists.proofs.ScanChanges.{has, IsNear, hidden_rise, held_at, has_not, hidden_tells, kept_are, hidden_were_shown, nears_go_on}
use Rattle.own_lists.proofs.WorldFacts.{object_values_fit, kind_below, object_at, one_player}
use Rattle.own_lists.proofs.Standing.{onto_on, meet_on, all_weaker, mapped_all, IsShownIn, up_are_shown, shows_hides, hidden_hides, traits_hides, up_hides, meet_hides, shows_nears, hidden_nears, up_nears, AreSame, traits_nears, IsNearIn, meet_nears, Stands, numbers_shown}

-- ---- what goes on

-- what is left after the hides and the nears of a scan
abbrev pub changed : List ℕ → List NearPeriod → Kept → Kept
changed hs qs k = with_course (with_steps (scan_steps hs qs []) k.course) k

changed_steps : (hs : List ℕ) (qs : List NearPeriod) (k : Kept)
    → (changed hs qs k).course.steps ≡ onto (map near_step qs) (onto (map hide_step hs) k.course.steps)
changed_steps hs qs k =
    ap (λ (xs : List PairStep). onto (map hide_step hs ++ xs) k.course.steps) (append-nil (map near_step qs))
    ∙ onto_on (map hide_step hs) (map near_step qs) k.course.steps

changed_traits : (hs : List ℕ) (qs : List NearPeriod) (k : Kept) (n : ℕ)
    → AreSame (traits_in (changed hs qs k).course.steps n) (traits_in k.course.steps n)
changed_traits hs qs k n =
    let steps = onto (map hide_step hs) k.course.steps in
    let near : AreSame (traits_in (onto (map near_step qs) steps) n) (traits_in steps n) = traits_nears qs steps n in
    let far : AreSame (traits_in (onto (map near_step qs) steps) n) (traits_in k.course.steps n) =
    subst (λ (x : Traits). AreSame (traits_in (onto (map near_step qs) steps) n) x) (traits_hides hs k.course.steps n) near in
    subst (λ (xs : List PairStep). AreSame (traits_in xs n) (traits_in k.course.steps n)) (sym (changed_steps hs qs k)) far

kept_periods : (w : Worlds) (c : ℕ) (k j : Kept) (now : ℕ → Option ℕ)
    → ((n : ℕ) → AreSame (traits_in j.course.steps n) (traits_in k.course.steps n)) → ((n : ℕ) → j.values n ≡ k.values n)
    → (ps : List ShownPeriod)
    → AllByRecursion (IsPeriodOf w c k) ps → AllByRecursion (IsPeriodOf w c j) (filter_map (goes_on now) ps)
kept_periods w c k j now f g [] a = tt
kept_periods w c k j now f g (p ∷ ps) a = by (now p.object) (kept_periods w c k j now f g ps a.1)
  where
    by : (o : Option ℕ) → AllByRecursion (IsPeriodOf w c j) (filter_map (goes_on now) ps)
        → AllByRecursion (IsPeriodOf w c j) (cons_option (option_map (with_level p) o) (filter_map (goes_on now) ps))
    by None r = r
    by (Some l) r = (
      record {
        object = a.0.object;
        there = a.0.there;
        kind = (f p.n).0 ∙ a.0.kind;
        control = (f p.n).1 ∙ a.0.control;
        values = g p.n ∙ a.0.values;
      },
      r,
    )

up_kept : (w : Worlds) (c count : ℕ) (ps : List ShownPeriod) (k : Kept) (now : ℕ → Option ℕ) → Stands w c count ps k
    → up_in (onto (map hide_step (filter_map (hidden now) ps)) k.course.steps) ≡ numbers (filter_map (goes_on now) ps)
up_kept w c count ps k now st =
    let hs = filter_map (hidden now) ps in
    up_hides hs k.course.steps ∙ ap (filter (λ n. not (has n hs))) st.up ∙ kept_are now hs ps (hidden_tells now 0 count ps st.shown.rising)

pub kept_stands : (w : Worlds) (c count : ℕ) (ps : List ShownPeriod) (k : Kept) (now : ℕ → Option ℕ) (qs : List NearPeriod)
    → Stands w c count ps k
    → Stands w c count (filter_map (goes_on now) ps) (changed (filter_map (hidden now) ps) qs k)
kept_stands w c count ps k now qs st =
    let hs = filter_map (hidden now) ps in
    let steps = k.course.steps in
    let without = onto (map hide_step hs) steps in
    let e : (changed hs qs k).course.steps ≡ onto (map near_step qs) without = changed_steps hs qs k in
    let below : AllByRecursion (λ n. n < count) hs = below_rising 0 count hs (hidden_rise now 0 count ps st.shown.rising) in
    record {
      shown = kept_shown now count ps st.shown;
      many = ap shows_in e ∙ shows_nears qs without ∙ shows_hides hs steps ∙ st.many;
      up = ap up_in e ∙ up_nears qs without ∙ up_kept w c count ps k now st;
      later = λ n l.
          let none : has n hs ≡ false =
          has_not n hs (all_weaker (λ m. m < count) (λ m. m ≢ n) (λ m s q. absurd (omega (arith, l, s, q))) hs below) in
          ap (λ (xs : List PairStep). is_hidden_in xs n) e ∙ hidden_nears qs without n ∙ hidden_hides hs steps n
          ∙ or_from (has n hs) (is_hidden_in steps n) none (st.later n l);
      each = kept_periods w c k (changed hs qs k) now (changed_traits hs qs k) (λ n. refl) ps st.each;
    }

-- the hides and the nears may be made, and then what may be made after them
pub meet_changes : (t : Terms) (w : Worlds) (c count : ℕ) (ps : List ShownPeriod) (k : Kept) (now : ℕ → Option ℕ) (qs : List NearPeriod)
    (more : List Showing) → Stands w c count ps k
    → AllByRecursion (IsNear (filter_map (goes_on now) ps)) qs
    → MeetEach t (map show_step more) (changed (filter_map (hidden now) ps) qs k).course.steps
    → MeetEach t (scan_steps (filter_map (hidden now) ps) qs more) k.course.steps
meet_changes t w c count ps k now qs more st near met =
    let hs = filter_map (hidden now) ps in
    let steps = k.course.steps in
    let without = onto (map hide_step hs) steps in
    let up = numbers_shown w c count ps k st in
    let first = all_weaker (λ n. has n (numbers ps) ≡ true) (IsShownIn steps) (λ n h. held_at (IsShownIn steps) n (numbers ps) up h) hs
    (hidden_were_shown now ps) in
    let left : AllByRecursion (IsShownIn without) (numbers (filter_map (goes_on now) ps)) =
    subst (λ (ns : List ℕ). AllByRecursion (IsShownIn without) ns) (up_kept w c count ps k now st) (up_are_shown without) in
    let second = all_weaker (IsNear (filter_map (goes_on now) ps)) (IsNearIn without)
    (λ q h. record { shown = held_at (IsShownIn without) q.n (numbers (filter_map (goes_on now) ps)) left h.shown; level = h.level })
    qs near in
    meet_on t (map hide_step hs) (map near_step qs ++ map show_step more) steps
    (meet_hides t 0 count hs steps (hidden_rise now 0 count ps st.shown.rising) first)
    (meet_on t (map near_step qs) (map show_step more) without (meet_nears t qs without second)
    (subst (λ (xs : List PairStep). MeetEach t (map show_step more) xs) (changed_steps hs qs k) met))

-- ---- what begins

found : (os : List Object) (n : ℕ) → n < length os → (o : Object) × (slice_get os n ≡ Some o)
found [] n l = absurd (omega (arith, l))
found (o ∷ os) zero l = (o, refl)
found (o ∷ os) (suc n) l = found os n (omega (arith, l))

kind_told : (w : Worlds) (n : ℕ) (o : Object) → slice_get w.objects n ≡ Some o → unwrap_or (kind_at w n) 0 ≡ kind_of o.state
kind_told w n o e = ap (λ (x : Option Object). unwrap_or (option_map (λ (y : Object). kind_of y.state) x) 0) e

block_told : (w : Worlds) (n : ℕ) (o : Object) → slice_get w.objects n ≡ Some o → unwrap_or (block_at w n) 0 ≡ o.block
block_told w n o e = ap (λ (x : Option Object). unwrap_or (option_map (λ (y : Object). y.block) x) 0) e

values_told : (w : Worlds) (n : ℕ) (o : Object) → slice_get w.objects n ≡ Some o → unwrap_or (values_at w n) [] ≡ values_of o
values_told w n o e = ap (λ (x : Option Object). unwrap_or (option_map values_of x) []) e

player_told : (w : Worlds) (c n : ℕ) (o : Object) → slice_get w.objects n ≡ Some o
    → option_map_or (is_player c) (slice_get w.objects n) false ≡ is_player c o
player_told w c n o e = ap (λ (x : Option Object). option_map_or (is_player c) x false) e

up_begun : (kind block level : ℕ) (control : Bool) (steps : List PairStep) (count : ℕ) → shows_in steps ≡ count
    → is_hidden_in steps count ≡ false
    → up_in (Show kind block level control ∷ steps) ≡ up_in steps ++ count ∷ []
unfolding upto
up_begun kind block level control steps count e h =
    let f : ℕ → Bool = λ n. not (is_hidden_in steps n) in
    let last : filter f (shows_in steps ∷ []) ≡ count ∷ [] = rw (e, h) refl in
    ap (λ m. filter f (upto m)) (add-one (shows_in steps)) ∙ filter-append f (upto (shows_in steps)) (shows_in steps ∷ [])
    ∙ ap (λ (ns : List ℕ). up_in steps ++ ns) last

begun_periods : (w : Worlds) (c count : ℕ) (k : Kept) (s : OwnShow) (ps : List ShownPeriod) → shows_in k.course.steps ≡ count
    → AllByRecursion (λ (p : ShownPeriod). p.n < count) ps
    → AllByRecursion (IsPeriodOf w c k) ps → AllByRecursion (IsPeriodOf w c (begins s k)) ps
begun_periods w c count k s [] e l a = tt
begun_periods w c count k s (p ∷ ps) e l a =
    let steps = k.course.steps in
    let other : nat_eq p.n (shows_in steps) ≡ false = ne_eqb p.n (shows_in steps) (λ q. absurd (let b = l.0 in omega (arith, b, q, e))) in
    let same : traits_in (show_step s.how ∷ steps) p.n ≡ traits_in steps p.n =
    ap (λ b. cond b (record { kind = s.how.kind; block = s.how.block; level = s.how.level; control = s.how.control })
    (traits_in steps p.n)) other in (
      record {
        object = a.0.object;
        there = a.0.there;
        kind = ap (λ (x : Traits). x.kind) same ∙ a.0.kind;
        control = ap (λ (x : Traits). x.control) same ∙ a.0.control;
        values = ap (λ b. cond b s.values (k.values p.n)) other ∙ a.0.values;
      },
      begun_periods w c count k s ps e l.1 a.1,
    )

new_period : (w : Worlds) (c count : ℕ) (k : Kept) (s : Seen) (o : Object) → shows_in k.course.steps ≡ count
    → slice_get w.objects s.object ≡ Some o → IsPeriodOf w c (begins (own_show w c s) k) (first_of count s)
new_period w c count k s o e at =
    let steps = k.course.steps in
    let how = showing_of w c s in
    let here : nat_eq count (shows_in steps) ≡ true = eq-eqb count (shows_in steps) (sym e) in
    let first : Traits = record { kind = how.kind; block = how.block; level = how.level; control = how.control } in
    let same : traits_in (show_step how ∷ steps) count ≡ first = ap (λ b. cond b first (traits_in steps count)) here in
    record {
      object = o;
      there = at;
      kind = ap (λ (x : Traits). x.kind) same ∙ kind_told w s.object o at;
      control = ap (λ (x : Traits). x.control) same ∙ player_told w c s.object o at;
      values = ap (λ b. cond b (own_show w c s).values (k.values count)) here ∙ values_told w s.object o at;
    }

pub begin_stands : (w : Worlds) (c count : ℕ) (ps : List ShownPeriod) (k : Kept) (s : Seen) (o : Object) → Stands w c count ps k
    → s.object < MAX_OBJECTS → IsNone s.object (objects ps)
    → slice_get w.objects s.object ≡ Some o → Stands w c (count + 1) (ps ++ first_of count s ∷ []) (begins (own_show w c s) k)
begin_stands w c count ps k s o st b other at =
    let how = showing_of w c s in
    let below : AllByRecursion (λ (p : ShownPeriod). p.n < count) ps =
    mapped_all (λ n. n < count) (λ (p : ShownPeriod). p.n) ps (below_rising 0 count (numbers ps) st.shown.rising) in
    record {
      shown = shown_more count ps s st.shown b other;
      many = ap (λ n. n + 1) st.many;
      up = up_begun how.kind how.block how.level how.control k.course.steps count st.many (st.later count (omega arith))
          ∙ ap (λ (ns : List ℕ). ns ++ count ∷ []) st.up ∙ sym (numbers_on ps (first_of count s ∷ []));
      later = λ n l. st.later n (omega (arith, l));
      each = both ps (begun_periods w c count k (own_show w c s) ps st.many below st.each) (new_period w c count k s o st.many at);
    }
  where
    both : (qs : List ShownPeriod) → AllByRecursion (IsPeriodOf w c (begins (own_show w c s) k)) qs
        → IsPeriodOf w c (begins (own_show w c s) k) (first_of count s)
        → AllByRecursion (IsPeriodOf w c (begins (own_show w c s) k)) (qs ++ first_of count s ∷ [])
    both [] a x = (x, tt)
    both (q ∷ qs) a x = (a.0, both qs a.1 x)

-- ---- a period may begin

none_control : (w : Worlds) (c : ℕ) (k : Kept) (s : Seen) (o : Object) → IsPeopled w.clients w.objects
    → slice_get w.objects s.object ≡ Some o → is_player c o ≡ true → (ps : List ShownPeriod)
    → AllByRecursion (IsPeriodOf w c k) ps → IsNone s.object (objects ps)
    → list_any (λ n. (traits_in k.course.steps n).control) (numbers ps) ≡ false
none_control w c k s o people at own [] a h = refl
none_control w c k s o people at own (p ∷ ps) a h =
    let other : is_player c a.0.object ≡ false =
    false_from_ne_true (is_player c a.0.object)
    (λ t. h.0 (one_player w.clients w.objects c p.object s.object a.0.object o people a.0.there at t own)) in
    or_from (traits_in k.course.steps p.n).control (list_any (λ n. (traits_in k.course.steps n).control) (numbers ps)) (a.0.control ∙ other)
    (none_control w c k s o people at own ps a.1 h.1)

pub may_begin : (head : Head) (w : Worlds) (c count : ℕ) (ps : List ShownPeriod) (k : Kept) (s : Seen) (o : Object) → IsWorld w
    → Stands w c count ps k → s.object < MAX_OBJECTS → s.level ≤ MAX_DISTANCE_LEVEL
    → IsNone s.object (objects ps) → slice_get w.objects s.object ≡ Some o → count < MAX_SHOWS
    → IsMet (client_terms head c) k.course.steps (show_step (showing_of w c s))
may_begin head w c count ps k s o world st b level other at room =
    let t = client_terms head c in
    let steps = k.course.steps in
    let fits : ObjectFits o = object_at ObjectFits w.objects s.object o world.fits at in
    let more = few_shown (count + 1) (ps ++ first_of count s ∷ []) (shown_more count ps s st.shown b other) in
    let longer : length (ps ++ first_of count s ∷ []) ≡ length ps + 1 = length-append ps (first_of count s ∷ []) in
    let few : length ps < MAX_OBJECTS = omega (arith, more, longer) in
    let counted : up_periods (scope_log (ghost_log (history t steps).server)) ≡ length ps =
    up_count_told t steps ∙ ap (λ (ns : List ℕ). length ns) st.up ∙ length-map ps _ in
    let numbered : shows_of (scope_log (ghost_log (history t steps).server)) ≡ count = shows_told t steps ∙ st.many in
    record {
      ranges = record {
        kind = subst (λ n. n < length match_kinds) (sym (kind_told w s.object o at)) (kind_below o.state);
        block = subst (λ n. n < MAX_BLOCKS) (sym (block_told w s.object o at)) fits.block;
        level = level;
      };
      few = subst (λ n. n < MAX_OBJECTS) (sym counted) few;
      numbers = subst (λ n. n < MAX_SHOWS) (sym numbered) room;
      alone = λ controls. control_told t steps ∙ ap (list_any (λ n. (traits_in steps n).control)) st.up
          ∙ none_control w c k s o world.peopled at (sym (player_told w c s.object o at) ∙ controls) ps st.each other;
    }

-- ---- one after the other

-- the shows may be made, and what they leave stands
pub record Begun (head : Head) (w : Worlds) (c count : ℕ) (ps : List ShownPeriod) (ss : List Seen) (k : Kept) : Type 0 where
  pub met : MeetEach (client_terms head c) (map show_step (map (λ (x : OwnShow). x.how) (map (own_show w c) ss))) k.course.steps
  pub stands : Stands w c (count + length ss) (ps ++ begun count ss) (all_begin (map (own_show w c) ss) k)

pub shows_stand : (head : Head) (w : Worlds) (c count : ℕ) (ps : List ShownPeriod) (ss : List Seen) (k : Kept) → IsWorld w
    → Stands w c count ps k → AreNew ps ss → AllByRecursion (λ (s : Seen). s.object < length w.objects) ss
    → count + length ss ≤ MAX_SHOWS → Begun head w c count ps ss k
shows_stand head w c count ps [] k world st new there room =
    record {
      met = tt;
      stands = subst (λ (qs : List ShownPeriod). Stands w c (count + 0) qs k) (sym (append-nil ps))
          (subst (λ n. Stands w c n ps k) (sym (add-zero count)) st);
    }
shows_stand head w c count ps (s ∷ ss) k world st new there room =
    let at = found w.objects s.object there.0 in
    let next = begin_stands w c count ps k s at.0 st new.rising.1 new.others.0 at.1 in
    let rest = shows_stand head w c (count + 1) (ps ++ first_of count s ∷ []) ss (begins (own_show w c s) k) world next
    (new_more count ps s ss new) there.1 (omega (arith, room)) in
    let many : count + 1 + length ss ≡ count + suc (length ss) = omega arith in
    record {
      met = (may_begin head w c count ps k s at.0 world st new.rising.1 new.levels.0 new.others.0 at.1 (omega (arith, room)), rest.met);
      stands = subst (λ n. Stands w c n (ps ++ begun count (s ∷ ss)) (all_begin (map (own_show w c) (s ∷ ss)) k)) many
          (subst (λ (qs : List ShownPeriod). Stands w c (count + 1 + length ss) qs (all_begin (map (own_show w c) (s ∷ ss)) k))
          (sym (step_on count ps s ss)) rest.stands);
    }

shows_have : (head : Head) (w : Worlds) (c : ℕ) (ss : List Seen) → IsWorld w → AllByRecursion (λ (s : Seen). s.object < length w.objects) ss
    → AllByRecursion (HasValues (client_terms head c)) (map (own_show w c) ss)
shows_have head w c [] world there = tt
shows_have head w c (s ∷ ss) world there =
    let at = found w.objects s.object there.0 in
    let fits : ObjectFits at.0 = object_at ObjectFits w.objects s.object at.0 world.fits at.1 in (
      subst (λ kind. AreValues (fields_of match_kinds kind) (own_show w c s).values) (sym (kind_told w s.object at.0 at.1))
          (subst (λ (values : List ℤ). AreValues (fields_of match_kinds (kind_of at.0.state)) values)
          (sym (values_told w s.object at.0 at.1)) (object_values_fit at.0 fits)),
      shows_have head w c ss world there.1,
    )

-- ---- a scan

pub record Scanned (head : Head) (w : Worlds) (c : ℕ) (scans : List (List Seen)) (k : Kept) : Type 0 where
  pub follows : IsOwnScan (client_terms head c) k (hides scans) (nears scans) (map (own_show w c) (shows scans))
  pub stands : Stands w c (length (periods scans)) (shown scans)
      (after_scan (hides scans) (nears scans) (map (own_show w c) (shows scans)) k)

filtered : (P : Seen → Type 0) (b : Seen → Bool) (ss : List Seen) → AllByRecursion P ss → AllByRecursion P (filter b ss)
filtered P b [] a = tt
filtered P b (s ∷ ss) a = by (b s) (filtered P b ss a.1)
  where
    by : (d : Bool) → AllByRecursion P (filter b ss) → AllByRecursion P (cond d (s ∷ filter b ss) (filter b ss))
    by true r = (a.0, r)
    by false r = r

pub scan_stands : (head : Head) (w : Worlds) (c : ℕ) (seen : List Seen) (scans : List (List Seen)) (k : Kept) → IsWorld w → IsSight seen
    → All (λ (s : Seen). s.object < length w.objects) seen
    → length (periods (seen ∷ scans)) ≤ MAX_SHOWS → Stands w c (length (periods scans)) (shown scans) k → Scanned head w c (seen ∷ scans) k
scan_stands head w c seen scans k world sight there few st =
    let now = level_in seen in
    let count = length (periods scans) in
    let ps = shown scans in
    let hs = hides (seen ∷ scans) in
    let qs = nears (seen ∷ scans) in
    let ss = shows (seen ∷ scans) in
    let many : length (periods (seen ∷ scans)) ≡ count + length ss = many_periods seen scans in
    let new : AreNew (filter_map (goes_on now) ps) ss = new_beside_kept now ps ss (shows_are_new seen scans sight) in
    let of_world : AllByRecursion (λ (s : Seen). s.object < length w.objects) ss =
    filtered (λ (s : Seen). s.object < length w.objects) (is_new (level_in (last scans))) seen
    (recursion_from_All (λ (s : Seen). s.object < length w.objects) seen there) in
    let kept = kept_stands w c count ps k now qs st in
    let all = shows_stand head w c count (filter_map (goes_on now) ps) ss (changed hs qs k) world kept new of_world
    (omega (arith, few, many)) in
    record {
      follows = record {
        steps = meet_changes (client_terms head c) w c count ps k now qs (map (λ (x : OwnShow). x.how) (map (own_show w c) ss)) st
            (nears_go_on seen scans sight) all.met;
        values = shows_have head w c ss world of_world;
      };
      stands = subst (λ n. Stands w c n (shown (seen ∷ scans)) (after_scan hs qs (map (own_show w c) ss) k)) (sym many)
          (subst (λ (rs : List ShownPeriod). Stands w c (count + length ss) rs (after_scan hs qs (map (own_show w c) ss) k))
          (sym (shown_next seen scans sight)) all.stands);
    }
