-- What a client's scan needs of the match, and what it leaves.
use Rattle.std.proofs.Common.{◌≡◌, ◌≢◌, ℕ, ◌<◌, ◌+◌, ◌==◌, Bool, true, false, cond, ◌||◌, List, [], ◌∷◌, ◌++◌, map, filter, length, if◌then◌else◌, refl, sym, ap, ◌∙◌, subst, arith}
use Rattle.std.proofs.lemmas.List.{length-map}
use Rattle.std.specs.List.{All, AllByRecursion, list_any, filter_map}
use Rattle.std.proofs.lemmas.List.Elements.{recursion_from_All, All-from_recursion}
use Rattle.std.proofs.lemmas.Bool.Decides.{nat_tests}
use Rattle.match_script.specs.declared.types.BodyLine.{BodyLine}
use Rattle.match_script.specs.declared.types.BodyLine.TheVariants as script
use Rattle.match_script.specs.declared.types.Head.{Head}
use Rattle.world_sim.specs.Worlds.{Worlds, IsWorld}
use Rattle.world_scope.specs.declared.viewer.Seen.{Seen}
use Rattle.world_scope.specs.Scope.{visible_list}
use Rattle.stream_manager.specs.Limits.{Terms}
use Rattle.client_scope.specs.declared.period.ShownPeriod.{ShownPeriod}
use Rattle.client_scope.specs.Scans.{shown, periods, is_new, level_in, last}
use Rattle.client_scope.specs.Changes.{hides, nears, shows}
use Rattle.client_scope.specs.Marks.{goes_on, begun}
use Rattle.client_scope.specs.StandsFor.{Table, StandsFor as ScopeStandsFor}
use Rattle.dirty_lanes.specs.Words.{Words, mask_at}
use Rattle.match_laws.specs.own_lists.declared.showing.Showing.{Showing}
use Rattle.match_laws.specs.own_lists.Own.{OwnItem, OwnShow}
use Rattle.match_laws.specs.own_lists.pair_steps.Steps.{shows_in}
use Rattle.match_laws.specs.own_lists.Course.{Course, onto, with_steps, scan_steps, hide_step, near_step}
use Rattle.match_laws.specs.own_lists.Kept.{Kept, kept, with_course, after_scan}
use Rattle.match_laws.specs.own_lists.Past.{client_terms, kept_by, after, showing_of, own_show, scan_item}
use Rattle.match_laws.specs.own_lists.Conditions.{AreOwn, MeetEach}
use Rattle.match_laws.specs.own_lists.Agreement.{AreLines}
use Rattle.match_laws.specs.own_lists.Counted.{counted_in}
use Rattle.match_laws.proofs.Below.own_lists.Agreeing.{own_lists_agree}
use Rattle.match_laws.proofs.Below.own_lists.Meeting.{scan_journal, begun_taken}
use Rattle.match_laws.proofs.Below.own_lists.Standing.{onto_on, shows_hides, shows_nears}
use Rattle.match_laws.proofs.Below.own_lists.ScanFacts.{IsSight, IsNone, objects, numbers, sights, sights_rise, few_rising, below_rising, shows_are_new, shown_next, shown_are_shown}
use Rattle.match_laws.proofs.Below.own_lists.WorldFacts.{world_after, visible_is_sight, match_periods_few, scans_are_sights}
use Rattle.match_laws.specs.client_seat.Stands.{SeatState, MayMake, Becomes, StandsFor as SeatStandsFor}
use Rattle.match_engine.specs.Stands.{ClientHolds, IsMarked}
use Rattle.match_engine.specs.Serving.{Serves, OthersStay, is_of}
use Rattle.match_engine.proofs.Fed.{put_there, more_lines}
use Rattle.match_engine.proofs.Marks.{marks_after_scan}

all_filter : (P : Seen → Type 0) (p : Seen → Bool) (xs : List Seen) → AllByRecursion P xs → AllByRecursion P (filter p xs)
all_filter P p [] h = tt
all_filter P p (x ∷ xs) h = by (all_filter P p xs h.1) (p x)
  where
    by : AllByRecursion P (filter p xs) → (b : Bool) → AllByRecursion P (cond b (x ∷ filter p xs) (filter p xs))
    by rest true = (h.0, rest)
    by rest false = rest

mapped_twice : (w : Worlds) (c : ℕ) (xs : List Seen) → map (λ (s : OwnShow). s.how) (map (own_show w c) xs) ≡ map (showing_of w c) xs
mapped_twice w c [] = refl
mapped_twice w c (x ∷ xs) = ap (λ l. showing_of w c x ∷ l) (mapped_twice w c xs)

-- ---- masks that are cleared

any_weaker : (p : Seen → Bool) (x : Seen) (xs : List Seen) → list_any p xs ≡ true → list_any p (x ∷ xs) ≡ true
any_weaker p x xs h = by (p x)
  where
    by : (b : Bool) → (b || list_any p xs) ≡ true
    by true = refl
    by false = h

any_itself : (x : Seen) (xs : List Seen) → list_any (is_of x.object) (x ∷ xs) ≡ true
any_itself x xs = let same : (x.object == x.object) ≡ true = grind (arith, nat_tests) in ap (λ b. b || list_any (is_of x.object) xs) same

all_any : (xs : List Seen) → AllByRecursion (λ (s : Seen). list_any (is_of s.object) xs ≡ true) xs
all_any [] = tt
all_any (x ∷ xs) = (any_itself x xs, further xs (all_any xs))
  where
    further : (ys : List Seen) → AllByRecursion (λ (s : Seen). list_any (is_of s.object) xs ≡ true) ys → AllByRecursion (λ (s : Seen). list_any (is_of s.object) (x ∷ xs) ≡ true) ys
    further [] h = tt
    further (y ∷ ys) h = (any_weaker (is_of y.object) x xs h.0, further ys h.1)

none_any : (o : ℕ) (ss : List Seen) → AllByRecursion (λ (s : Seen). o ≢ s.object) ss → list_any (is_of o) ss ≡ false
none_any o [] h = refl
none_any o (s ∷ ss) h =
    let apart = h.0 in let no : (s.object == o) ≡ false = (let apart' : s.object ≢ o = λ e. apart (sym e) in grind (arith, nat_tests)) in
    ap (λ b. b || list_any (is_of o) ss) no ∙ none_any o ss h.1

firsts : (p : ShownPeriod) (ps : List ShownPeriod) (ss : List Seen) → AllByRecursion (λ (s : Seen). IsNone s.object (objects (p ∷ ps))) ss → AllByRecursion (λ (s : Seen). p.object ≢ s.object) ss
firsts p ps [] h = tt
firsts p ps (s ∷ ss) h = ((h.0).0, firsts p ps ss h.1)

rests : (p : ShownPeriod) (ps : List ShownPeriod) (ss : List Seen) → AllByRecursion (λ (s : Seen). IsNone s.object (objects (p ∷ ps))) ss → AllByRecursion (λ (s : Seen). IsNone s.object (objects ps)) ss
rests p ps [] h = tt
rests p ps (s ∷ ss) h = ((h.0).1, rests p ps ss h.1)

module _ (c : ℕ) (old new : Words) (ss : List Seen) (masks : (o : ℕ) → mask_at new c o ≡ (if list_any (is_of o) ss then 0 else mask_at old c o)) where
  all_clear : (xs : List Seen) → AllByRecursion (λ (s : Seen). list_any (is_of s.object) ss ≡ true) xs → AllByRecursion (λ (s : Seen). mask_at new c s.object ≡ 0) xs
  all_clear [] h = tt
  all_clear (x ∷ xs) h = (masks x.object ∙ ap (λ (b : Bool). if b then 0 else mask_at old c x.object) h.0, all_clear xs h.1)

  all_stay : (count : ℕ) (ps : List ShownPeriod) → AllByRecursion (λ n. n < count) (numbers ps) → AllByRecursion (λ (s : Seen). IsNone s.object (objects ps)) ss
      → AllByRecursion (λ (p : ShownPeriod). (p.n < count) × (mask_at new c p.object ≡ mask_at old c p.object)) ps
  all_stay count [] below apart = tt
  all_stay count (p ∷ ps) below apart = (
    (below.0, masks p.object ∙ ap (λ (b : Bool). if b then 0 else mask_at old c p.object) (none_any p.object ss (firsts p ps ss apart))),
    all_stay count ps below.1 (rests p ps ss apart),
  )

-- ---- a scan

module _ (seat : SeatState) (scope : Table) (w : Worlds) (lanes : Words) (c : ℕ) (head : Head) (past : List BodyLine) (s : Serves seat scope w lanes c head past) where
  abbrev t : Terms
  t = client_terms head c

  abbrev k : Kept
  k = kept_by head (after head past) c

  abbrev before : List (List Seen)
  before = (after head past).scans c

  is_world : IsWorld w
  is_world = subst IsWorld (sym s.same_world) (world_after head past s.lines.fits)

  abbrev seen : List Seen
  seen = visible_list w c

  sight : IsSight seen
  sight = visible_is_sight w c is_world

  pub seen_below : (list : List Seen) → list ≡ seen → All (λ (x : Seen). x.object < 1024) list
  seen_below list is = subst (λ (l : List Seen). All (λ (x : Seen). x.object < 1024) l) (sym is) sight.below

  pub few_periods : (list : List Seen) → list ≡ seen → counted_in past < 4000000 → scope.count + length list < 4294967296
  few_periods list is few =
      let many = match_periods_few head past c s.lines.fits in
      let sights_few = few_rising 0 1024 (sights seen) (omega arith) (sights_rise seen sight) in
      let long = length-map seen (λ (x : Seen). x.object) in
      omega (arith, few, many, sights_few, long, ap length is, s.holds.periods.count)

  pub shows_there : (P : Seen → Type 0) (list news : List Seen) → list ≡ seen → news ≡ shows (list ∷ before) → All P list → All P news
  shows_there P list news is is_new_ h =
      subst (λ (l : List Seen). All P l) (sym is_new_) (All-from_recursion P (shows (list ∷ before)) (all_filter P (is_new (level_in (last before))) list (recursion_from_All P list h)))

  -- with this scan
  module _ (few : counted_in past < 4000000) where
    abbrev next : List (List Seen)
    next = visible_list (after head past).world c ∷ before

    further : AreLines head (script.Scan c ∷ past)
    further = more_lines head (script.Scan c) past s.lines s.below few

    own : (after head (script.Scan c ∷ past)).own c ≡ scan_item (after head past).world c next ∷ (after head past).own c
    own = put_there (after head past).own c c _ refl

    scans : (after head (script.Scan c ∷ past)).scans c ≡ next
    scans = put_there (after head past).scans c c _ refl

    meet : MeetEach t (scan_steps (hides next) (nears next) (map (showing_of (after head past).world c) (shows next))) k.course.steps
    meet =
        let all : AreOwn t (scan_item (after head past).world c next ∷ (after head past).own c) = subst (AreOwn t) own (own_lists_agree head (script.Scan c ∷ past) c further s.below).0 in
        subst (λ (ss : List Showing). MeetEach t (scan_steps (hides next) (nears next) ss) k.course.steps) (mapped_twice (after head past).world c (shows next)) all.0.steps

    pub may_scan : (list : List Seen) (new : Table) → list ≡ seen → ScopeStandsFor new (list ∷ before) → (hs : List ℕ) → hs ≡ new.hides → (ns : List Rattle.client_scope.specs.declared.period.Near.Near) → ns ≡ new.nears
        → (ss : List Showing) → ss ≡ map (showing_of w c) new.shows → MayMake seat (scan_steps hs ns ss)
    may_scan list new is stands hs his ns nis ss sis =
        let list_is : list ∷ before ≡ next = ap (λ (x : List Seen). x ∷ before) (is ∙ ap (λ (x : Worlds). visible_list x c) s.same_world) in
        let hs_is : hs ≡ hides next = his ∙ stands.hides ∙ ap hides list_is in
        let ns_is : ns ≡ nears next = nis ∙ stands.nears ∙ ap nears list_is in
        let ss_is : ss ≡ map (showing_of (after head past).world c) (shows next) = sis ∙ ap (λ (x : Worlds). map (showing_of x c) new.shows) s.same_world ∙ ap (map (showing_of (after head past).world c)) (stands.shows ∙ ap shows list_is) in
        record {
          terms = t;
          course = k.course;
          stands = s.holds.course;
          meet = rw (hs_is, ns_is, ss_is) meet;
        }

    -- the course of the own list with this scan
    course_is : (j : Kept) → j ≡ after_scan (hides next) (nears next) (map (own_show (after head past).world c) (shows next)) k
        → j.course ≡ with_steps (scan_steps (hides next) (nears next) (map (showing_of (after head past).world c) (shows next))) k.course
    course_is j is =
        let steps = scan_journal (hides next) (nears next) (map (own_show (after head past).world c) (shows next)) k
        ∙ ap (λ (ss : List Showing). onto (scan_steps (hides next) (nears next) ss) k.course.steps) (mapped_twice (after head past).world c (shows next)) in
        let taken = begun_taken (map (own_show (after head past).world c) (shows next)) (with_course (with_steps (scan_steps (hides next) (nears next) []) k.course) k) in
        ap (λ (x : Kept). x.course) is ∙ ap (λ (x : List Rattle.match_laws.specs.pair_core.History.PairStep). record { steps = x; taken = (after_scan (hides next) (nears next) (map (own_show (after head past).world c) (shows next)) k).course.taken }) steps
        ∙ ap (λ (x : ℕ). record { steps = onto (scan_steps (hides next) (nears next) (map (showing_of (after head past).world c) (shows next))) k.course.steps; taken = x }) taken

    same_count : shows_in (onto (scan_steps (hides next) (nears next) []) k.course.steps) ≡ shows_in k.course.steps
    same_count =
        ap shows_in (onto_on (map hide_step (hides next)) (map near_step (nears next) ++ []) k.course.steps)
        ∙ ap shows_in (onto_on (map near_step (nears next)) [] (onto (map hide_step (hides next)) k.course.steps))
        ∙ shows_nears (nears next) (onto (map hide_step (hides next)) k.course.steps) ∙ shows_hides (hides next) k.course.steps

    marks : (new : Words) → ((o : ℕ) → mask_at new c o ≡ (if list_any (is_of o) (shows next) then 0 else mask_at lanes c o))
        → All (IsMarked new c (after_scan (hides next) (nears next) (map (own_show (after head past).world c) (shows next)) k)) (shown next)
    marks new masks =
        let here = visible_list (after head past).world c in
        let sight' : IsSight here = visible_is_sight (after head past).world c (world_after head past s.lines.fits) in
        let count = (own_lists_agree head past c s.lines s.below).1.count in
        let are = shown_are_shown before (scans_are_sights head past c s.lines.fits) in
        let news = shows_are_new here before sight' in
        let stay = all_stay c lanes new (shows next) masks (shows_in k.course.steps) (shown before)
        (subst (λ n. AllByRecursion (λ m. m < n) (numbers (shown before))) (sym count) (below_rising 0 (length (periods before)) (numbers (shown before)) are.rising)) news.others in
        let all = marks_after_scan new c (own_show (after head past).world c) lanes (level_in here) (shown before) (shows next) k
        (with_course (with_steps (scan_steps (hides next) (nears next) []) k.course) k) refl same_count stay (all_clear c lanes new (shows next) masks (shows next) (all_any (shows next)))
        (recursion_from_All (IsMarked lanes c k) (shown before) s.holds.marks) in
        let list : shown next ≡ filter_map (goes_on (level_in here)) (shown before) ++ begun (shows_in k.course.steps) (shows next) =
        shown_next here before sight' ∙ ap (λ n. filter_map (goes_on (level_in here)) (shown before) ++ begun n (shows next)) (sym count) in
        let P = IsMarked new c (after_scan (hides next) (nears next) (map (own_show (after head past).world c) (shows next)) k) in
        subst (λ (l : List ShownPeriod). All P l) (sym list) (All-from_recursion P (filter_map (goes_on (level_in here)) (shown before) ++ begun (shows_in k.course.steps) (shows next)) all)

    pub scanned_serves : (list : List Seen) (new : Table) (now : SeatState) (left : Words) → list ≡ seen → ScopeStandsFor new (list ∷ before)
        → (hs : List ℕ) → hs ≡ new.hides → (ns : List Rattle.client_scope.specs.declared.period.Near.Near) → ns ≡ new.nears → (ss : List Showing) → ss ≡ map (showing_of w c) new.shows
        → Becomes seat (λ t k. with_steps (scan_steps hs ns ss) k) now → OthersStay c lanes left
        → ((o : ℕ) → mask_at left c o ≡ (if list_any (is_of o) new.shows then 0 else mask_at lanes c o)) → Serves now new w left c head (script.Scan c ∷ past)
    scanned_serves list new now left is stands hs his ns nis ss sis becomes others masks =
        let list_is : list ∷ before ≡ next = ap (λ (x : List Seen). x ∷ before) (is ∙ ap (λ (x : Worlds). visible_list x c) s.same_world) in
        let hs_is : hs ≡ hides next = his ∙ stands.hides ∙ ap hides list_is in
        let ns_is : ns ≡ nears next = nis ∙ stands.nears ∙ ap nears list_is in
        let shows_is : new.shows ≡ shows next = stands.shows ∙ ap shows list_is in
        let ss_is : ss ≡ map (showing_of (after head past).world c) (shows next) = sis ∙ ap (λ (x : Worlds). map (showing_of x c) new.shows) s.same_world ∙ ap (map (showing_of (after head past).world c)) shows_is in
        let course = becomes t k.course s.holds.course in
        let after_ = after_scan (hides next) (nears next) (map (own_show (after head past).world c) (shows next)) k in
        record {
          lines = further;
          below = s.below;
          same_world = s.same_world;
          objects = others.objects ∙ s.objects;
          clients = others.clients ∙ s.clients;
          holds = subst (λ (x : List (List Seen)). ClientHolds now new left c t x (kept_by head (after head (script.Scan c ∷ past)) c)) (sym scans)
              (subst (λ (x : List OwnItem). ClientHolds now new left c t next (kept t x)) (sym own) (record {
                course = subst (λ (x : Course). SeatStandsFor now t x) (sym (course_is after_ refl)) (rw (sym hs_is, sym ns_is, sym ss_is) course);
                periods = subst (λ (x : List (List Seen)). ScopeStandsFor new x) list_is stands;
                marks = marks left (λ o. masks o ∙ ap (λ (x : List Seen). if list_any (is_of o) x then 0 else mask_at lanes c o) shows_is);
              }));
        }
