-- What messages show is there in the end, with the kind that they say; so each of its fields is due, and where packs read nothing what
-- was read is legal.
use Rattle.std.proofs.Common.{◌≡◌, ℕ, zero, suc, ◌+◌, ◌<◌, ◌≤◌, Bool, true, false, nat_lt, List, [], ◌∷◌, ◌++◌, ◌==◌, take, length, map, reverse, Option, Some, None, refl, sym, ap, subst, ◌∙◌, arith, ◌⊎◌, inl, inr, append-nil, length-append}
use Rattle.std.specs.Prelude.{ℤ, slice_get, slice_index, option_map, if◌then◌else◌}
use Rattle.std.specs.List.{AllByRecursion}
use Rattle.std.specs.Option.{unwrap_or}
use Rattle.std.proofs.lemmas.Bool.{cases_lt, eq-eqb, and_from, lt-ltb}
use Rattle.std.proofs.lemmas.Bool.Decides.{nat_tests}
use Rattle.std.proofs.lemmas.List.{reverse-append, reverse-reverse, map-append, get_or_append_left}
use Rattle.std.proofs.Math.Seq.{get_or-append_seam}
use Rattle.std.proofs.lemmas.List.Elements.{recursion_from_All, All-filter, filter_map-append}
use Rattle.tn_types.specs.declared.moves.MoveBits.{MoveBits}
use Rattle.tn_types.specs.declared.choices.Read.{Read}
use Rattle.quantised_fields.specs.declared.field.FieldSpec.{FieldSpec}
use Rattle.dirty_lanes.specs.Words.{Words}
use Rattle.match_script.specs.declared.types.BodyLine.{BodyLine}
use Rattle.match_script.specs.declared.types.BodyLine.TheVariants as script
use Rattle.match_script.specs.declared.types.Head.{Head}
use Rattle.match_script.specs.Ranges.{HeadFits}
use Rattle.world_rules.specs.declared.object.Object.{Object}
use Rattle.world_rules.specs.Identity.{Identity}
use Rattle.world_rules.specs.Kinds.{kind_of, match_kinds}
use Rattle.world_rules.specs.Ranges.{ObjectFits}
use Rattle.world_sim.specs.Rows.{values_of}
use Rattle.world_sim.specs.Worlds.{Worlds, IsWorld, next, first_world}
use Rattle.world_scope.specs.declared.viewer.Seen.{Seen}
use Rattle.world_scope.specs.Scope.{visible_list}
use Rattle.client_scope.proofs.Below.world_scope.SeenList.{all_there}
use Rattle.client_scope.specs.declared.period.Near.{Near as NearPeriod}
use Rattle.client_scope.specs.Scans.{is_new, level_in, last}
use Rattle.client_scope.specs.Changes.{hides, nears, shows}
use Rattle.ghost_model.specs.Scope.{Traits}
use Rattle.ghost_masks.specs.Plan.{fields_of}
use Rattle.ghost_masks.specs.Carried.{AreValues}
use Rattle.ghost_masks.specs.Plan as plan
use Rattle.pair_core.specs.stream_manager.Limits.{Terms}
use Rattle.pair_core.specs.stream_manager.Server.{ghost_log}
use Rattle.pair_core.specs.History as pair
use Rattle.pair_core.specs.History.{PairStep, Show, Hide, Near, Post, Pack}
use Rattle.conn_packing.proofs.Lists.{all-append, all-reverse}
use Rattle.pair_steps.specs.Steps.{shows_in, traits_in, IsNoPack}
use Rattle.pair_steps.proofs.Journals.{IsQuiet, kind_told}
use Rattle.kept_pair.specs.Kept.{newest_first}
use Rattle.race_messages.specs.declared.message.Message.{Message}
use Rattle.race_messages.specs.declared.message.Message.TheVariants as message
use Rattle.race_messages.specs.Steps.{step_for}
use Rattle.own_lists.specs.Past.{showing_of}
use Rattle.own_lists.proofs.WorldFacts as facts
use Rattle.own_lists.proofs.WorldFacts.{object_goes_on, object_values_fit, object_at}
use Rattle.legal_race.specs.race_history.History.{Values, fields_told, IsHistory, IsHistoryOf, world_after, worlds_from}
use Rattle.legal_race.specs.race_course.Messages.{Ticks, is_tick, ticks_in, world_at, scans_of, scan_messages, hide_message, near_message, show_message, line_gives, messages}
use Rattle.legal_race.specs.race_reads.Reads.{IsDue, object_of, ReadStands, NeverFalls}
use Rattle.legal_race.specs.race_reads.Legal.{reads_of, is_field_due, AreLegalReads, IsCurrentIfUp}
use Rattle.legal_race.proofs.Below.race_reads.ShownPeriods.{up_shown}
use Rattle.legal_race.specs.race_steps.Asked.{object_shown, objects_shown}
use Rattle.plain_race.specs.Done.{IsOwnStep, IsDone}
use Rattle.plain_race.specs.Idle.{idle, idle_row}
use Rattle.plain_race.proofs.Still.{told, still, world_next, steps_of_messages}
use Rattle.legal_race.proofs.Below.race_course.Following.{ticks_more, ticks_same}
use Rattle.plain_race.proofs.Quiet.{AreQuiet, behind_shows, behind_traits, all_due}

-- there is such an object, of this kind
pub record IsThere (w : Worlds) (object kind : ℕ) : Type 0 where
  pub found : Object
  pub there : slice_get w.objects object ≡ Some found
  pub kind_is : kind ≡ kind_of found.state

abbrev pub ShowsThere : Worlds → Message → Type 0
ShowsThere w (message.Show object kind block level control) = IsThere w object kind
ShowsThere w m = Unit {0}

-- ---- what is seen is there

none_past : {X : Type 0} (xs : List X) (i : ℕ) → slice_get xs i ≡ None → length xs ≤ i
none_past [] i e = omega arith
none_past (x ∷ xs) zero e = absurd (cc)
none_past (x ∷ xs) (suc i) e = let h = none_past xs i e in omega (arith, h)

seen_there : (w : Worlds) (c : ℕ) (s : Seen) → s.object < length w.objects → IsThere w s.object (showing_of w c s).kind
seen_there w c s less = go (slice_get w.objects s.object) refl
  where
    go : (o : Option Object) → slice_get w.objects s.object ≡ o → IsThere w s.object (showing_of w c s).kind
    go None e = absurd (let past = none_past w.objects s.object e in omega (arith, less, past))
    go (Some o) e = record { found = o; there = e; kind_is = ap (λ (x : Option Object). unwrap_or (option_map (λ (y : Object). kind_of y.state) x) 0) e }

hides_there : (w : Worlds) (ns : List ℕ) → AllByRecursion (ShowsThere w) (map hide_message ns)
hides_there w [] = tt
hides_there w (n ∷ ns) = (tt, hides_there w ns)

nears_there : (w : Worlds) (ps : List NearPeriod) → AllByRecursion (ShowsThere w) (map near_message ps)
nears_there w [] = tt
nears_there w (p ∷ ps) = (tt, nears_there w ps)

shows_there : (w : Worlds) (c : ℕ) (ss : List Seen) → AllByRecursion (λ s. s.object < length w.objects) ss → AllByRecursion (ShowsThere w) (map (show_message w c) ss)
shows_there w c [] all = tt
shows_there w c (s ∷ ss) all = (seen_there w c s all.0, shows_there w c ss all.1)

scan_there : (w : Worlds) (c : ℕ) (scans : List (List Seen)) → AllByRecursion (ShowsThere w) (scan_messages w c (visible_list w c ∷ scans))
scan_there w c scans =
    let all : List (List Seen) = visible_list w c ∷ scans in
    let seen = All-filter (is_new (level_in (last scans))) (λ (s : Seen). s.object < length w.objects) (visible_list w c) (all_there w c) in
    all-append (ShowsThere w) (map hide_message (hides all)) (map near_message (nears all) ++ map (show_message w c) (shows all)) (hides_there w (hides all))
    (all-append (ShowsThere w) (map near_message (nears all)) (map (show_message w c) (shows all)) (nears_there w (nears all))
    (shows_there w c (shows all) (recursion_from_All (λ (s : Seen). s.object < length w.objects) (shows all) seen)))

-- ---- it stays there

one_stays : (w : Worlds) (row : List (Option MoveBits)) → IsWorld w → (m : Message) → ShowsThere w m → ShowsThere (next w row) m
one_stays w row h (message.Show object kind block level control) s =
    let g = object_goes_on w row object s.found h s.there in
    record { found = g.object; there = g.there; kind_is = s.kind_is ∙ ap (λ (i : Identity). i.kind) (sym g.same) }
one_stays w row h (message.Hide n) s = tt
one_stays w row h (message.Near n level) s = tt
one_stays w row h (message.Post class v) s = tt

all_stay : (w : Worlds) (row : List (Option MoveBits)) → IsWorld w → (ms : List Message) → AllByRecursion (ShowsThere w) ms → AllByRecursion (ShowsThere (next w row)) ms
all_stay w row h [] all = tt
all_stay w row h (m ∷ ms) all = (one_stays w row h m all.0, all_stay w row h ms all.1)

module _ (head : Head) (fits : HeadFits head) (n c : ℕ) where
  abbrev at : List BodyLine → Worlds
  at past = world_at (first_world head.seed head.setup) (idle n head.clients) past

  abbrev given : List BodyLine → List Message
  given past = messages (first_world head.seed head.setup) (idle n head.clients) c past

  pub is_world : (past : List BodyLine) → ticks_in past ≤ n → IsWorld (at past)
  is_world past few = subst IsWorld ((still head n past few).world) (facts.world_after head (told past) fits)

  abbrev AreThere : List BodyLine → Type 0
  AreThere past = AllByRecursion (ShowsThere (at past)) (given past)

  more_there : (line : BodyLine) (past : List BodyLine) → is_tick line ≡ false
      → AllByRecursion (ShowsThere (at past)) (line_gives (first_world head.seed head.setup) (idle n head.clients) c past line) → AreThere past → AreThere (line ∷ past)
  more_there line past no_tick here before =
      let gives = line_gives (first_world head.seed head.setup) (idle n head.clients) c past line in
      subst (λ (k : ℕ). AllByRecursion (ShowsThere (world_after (first_world head.seed head.setup) (take k (idle n head.clients)))) (given past ++ gives)) (sym (ticks_same line past no_tick))
      (all-append (ShowsThere (at past)) (given past) gives before here)

  -- what the messages of these lines show is there
  pub all_shown_there : (past : List BodyLine) → ticks_in past ≤ n → AreThere past
  all_shown_there [] few = tt
  all_shown_there (line ∷ past) few = by line few (λ less. all_shown_there past less)
    where
      before : (l : BodyLine) → is_tick l ≡ false → ticks_in (l ∷ past) ≤ n → ticks_in past ≤ n
      before l no_tick less = let e = ticks_same l past no_tick in omega (arith, e, less)

      by : (l : BodyLine) → ticks_in (l ∷ past) ≤ n → (ticks_in past ≤ n → AreThere past) → AreThere (l ∷ past)
      by script.Tick less rest =
          let one = ticks_more past in
          subst (λ (ms : List Message). AllByRecursion (ShowsThere (at (script.Tick ∷ past))) ms) (sym (append-nil (given past)))
          (subst (λ (w : Worlds). AllByRecursion (ShowsThere w) (given past)) (world_next head n past (omega (arith, one, less)))
          (all_stay (at past) (idle_row head.clients) (is_world past (omega (arith, one, less))) (given past) (rest (omega (arith, one, less)))))
      by (script.Scan d) less rest =
          more_there (script.Scan d) past refl (go (d == c)) (rest (before (script.Scan d) refl less))
        where
          go : (b : Bool) → AllByRecursion (ShowsThere (at past)) (if b then scan_messages (at past) c (visible_list (at past) c ∷ scans_of (first_world head.seed head.setup) (idle n head.clients) c past) else [])
          go true = scan_there (at past) c (scans_of (first_world head.seed head.setup) (idle n head.clients) c past)
          go false = tt
      by (script.Post d class payload) less rest =
          more_there (script.Post d class payload) past refl (go (d == c)) (rest (before (script.Post d class payload) refl less))
        where
          go : (b : Bool) → AllByRecursion (ShowsThere (at past)) (if b then message.Post class payload ∷ [] else [])
          go true = (tt, tt)
          go false = tt
      by l less rest = more_there l past refl tt (rest (before l refl less))

-- ---- the kind of each period

map_reverse : {X Y : Type 0} (f : X → Y) (xs : List X) → reverse (map f xs) ≡ map f (reverse xs)
map_reverse f [] = refl
map_reverse {X} {Y} f (x ∷ xs) =
    reverse-append (f x ∷ []) (map f xs)
    ∙ ap (λ (l : List Y). l ++ f x ∷ []) (map_reverse f xs)
    ∙ sym (map-append f (reverse xs) (x ∷ []))
    ∙ ap (map f) (sym (reverse-append (x ∷ []) xs))

objects_next : (m : Message) (rs : List Message) → objects_shown (reverse (m ∷ rs)) ≡ objects_shown (reverse rs) ++ objects_shown (m ∷ [])
objects_next m rs = ap objects_shown (reverse-append (m ∷ []) rs) ∙ filter_map-append object_shown (reverse rs) (m ∷ [])

module _ (w : Worlds) where
  pub record AreOfKinds (rs : List Message) : Type 0 where
    pub many : length (objects_shown (reverse rs)) ≡ shows_in (map step_for rs)
    pub each : (n : ℕ) → n < shows_in (map step_for rs) → IsThere w (slice_index (objects_shown (reverse rs)) n) (traits_in (map step_for rs) n).kind

  same_kinds : (m : Message) (rs : List Message) → objects_shown (m ∷ []) ≡ [] → shows_in (step_for m ∷ map step_for rs) ≡ shows_in (map step_for rs)
      → ((n : ℕ) → (traits_in (step_for m ∷ map step_for rs) n).kind ≡ (traits_in (map step_for rs) n).kind) → AreOfKinds rs → AreOfKinds (m ∷ rs)
  same_kinds m rs none same kinds h =
      let objects : objects_shown (reverse (m ∷ rs)) ≡ objects_shown (reverse rs) =
      objects_next m rs ∙ ap (λ (l : List ℕ). objects_shown (reverse rs) ++ l) none ∙ append-nil (objects_shown (reverse rs)) in
      record {
        many = ap (λ (l : List ℕ). length l) objects ∙ h.many ∙ sym same;
        each = λ n less.
            let here = h.each n (subst (λ k. n < k) same less) in
            subst (λ (l : List ℕ). IsThere w (slice_index l n) (traits_in (step_for m ∷ map step_for rs) n).kind) (sym objects)
            (subst (λ k. IsThere w (slice_index (objects_shown (reverse rs)) n) k) (sym (kinds n)) here);
      }

  near_kind : (m l : ℕ) (steps : List PairStep) (n : ℕ) → (traits_in (Near m l ∷ steps) n).kind ≡ (traits_in steps n).kind
  near_kind m l steps n = go (m == n)
    where
      go : (b : Bool) → (if b then record (traits_in steps n) { level = l } else traits_in steps n).kind ≡ (traits_in steps n).kind
      go true = refl
      go false = refl

  pub are_of_kinds : (rs : List Message) → AllByRecursion (ShowsThere w) rs → AreOfKinds rs
  are_of_kinds [] all = record { many = refl; each = λ n less. absurd (omega (arith, less)) }
  are_of_kinds (message.Hide n ∷ rs) all = same_kinds (message.Hide n) rs refl refl (λ k. refl) (are_of_kinds rs all.1)
  are_of_kinds (message.Near n level ∷ rs) all = same_kinds (message.Near n level) rs refl refl (λ k. near_kind n level (map step_for rs) k) (are_of_kinds rs all.1)
  are_of_kinds (message.Post class v ∷ rs) all = same_kinds (message.Post class v) rs refl refl (λ k. refl) (are_of_kinds rs all.1)
  are_of_kinds (message.Show object kind block level control ∷ rs) all =
      let h = are_of_kinds rs all.1 in
      let m = message.Show object kind block level control in
      let objects = objects_next m rs in
      record {
        many = let long = ap (λ (l : List ℕ). length l) objects ∙ length-append (objects_shown (reverse rs)) (object ∷ []) in let before = h.many in omega (arith, long, before);
        each = λ n less. subst (λ (l : List ℕ). IsThere w (slice_index l n) (traits_in (Show kind block level control ∷ map step_for rs) n).kind) (sym objects) (go n (cases_lt n (shows_in (map step_for rs))) less h);
      }
    where
      other : (n k : ℕ) → n < k → (n == k) ≡ false
      other n k less = grind (arith, nat_tests)

      go : (n : ℕ) → (n < shows_in (map step_for rs)) ⊎ (shows_in (map step_for rs) ≤ n) → n < shows_in (map step_for rs) + 1 → AreOfKinds rs
          → IsThere w (slice_index (objects_shown (reverse rs) ++ object ∷ []) n) (traits_in (Show kind block level control ∷ map step_for rs) n).kind
      go n (inl l) less h =
          let before = h.many in
          let index : slice_index (objects_shown (reverse rs) ++ object ∷ []) n ≡ slice_index (objects_shown (reverse rs)) n = get_or_append_left (objects_shown (reverse rs)) (object ∷ []) 0 n (omega (arith, before, l)) in
          let kinds : (traits_in (Show kind block level control ∷ map step_for rs) n).kind ≡ (traits_in (map step_for rs) n).kind =
          ap (λ b. (if b then record { kind = kind; block = block; level = level; control = control } else traits_in (map step_for rs) n).kind) (other n (shows_in (map step_for rs)) l) in
          subst (λ k. IsThere w k (traits_in (Show kind block level control ∷ map step_for rs) n).kind) (sym index)
          (subst (λ k. IsThere w (slice_index (objects_shown (reverse rs)) n) k) (sym kinds) (h.each n l))
      go n (inr more) less h =
          let before = h.many in
          let same : n ≡ length (objects_shown (reverse rs)) = omega (arith, before, less, more) in
          let index : slice_index (objects_shown (reverse rs) ++ object ∷ []) n ≡ object = ap (slice_index (objects_shown (reverse rs) ++ object ∷ [])) same ∙ get_or-append_seam (objects_shown (reverse rs)) object [] 0 in
          let kinds : (traits_in (Show kind block level control ∷ map step_for rs) n).kind ≡ kind =
          ap (λ b. (if b then record { kind = kind; block = block; level = level; control = control } else traits_in (map step_for rs) n).kind) (eq-eqb n (shows_in (map step_for rs)) (same ∙ before)) in
          subst (λ k. IsThere w k (traits_in (Show kind block level control ∷ map step_for rs) n).kind) (sym index)
          (subst (λ k. IsThere w object k) (sym kinds) all.0)

-- ---- the fields of a kind

fields_long : (fs : List FieldSpec) (vs : List ℤ) → AreValues fs vs → length vs ≡ length fs
fields_long [] [] h = refl
fields_long [] (v ∷ vs) h = absurd h
fields_long (f ∷ fs) [] h = absurd h
fields_long (f ∷ fs) (v ∷ vs) h = ap suc (fields_long fs vs h.2)

fields_are : (w : Worlds) (worlds : List Worlds) (values : Values) (object kind : ℕ) → IsWorld w → IsHistory worlds w values → IsThere w object kind
    → length (fields_told values object) ≡ length (fields_of match_kinds kind)
fields_are w worlds values object kind h history s =
    let fit = object_values_fit s.found (object_at ObjectFits w.objects object s.found h.fits s.there) in
    let long = fields_long (fields_of match_kinds (kind_of s.found.state)) (values_of s.found) fit in
    let told : option_map (λ (told : List (List ℤ)). length told) (slice_get values object) ≡ Some (length (values_of s.found)) =
    history.fields object ∙ ap (λ (o : Option Object). option_map (λ (now : List ℤ). length now) (option_map values_of o)) s.there in
    go (slice_get values object) refl told ∙ long ∙ ap (λ k. length (fields_of match_kinds k)) (sym s.kind_is)
  where
    go : (o : Option (List (List ℤ))) → slice_get values object ≡ o → option_map (λ (told : List (List ℤ)). length told) o ≡ Some (length (values_of s.found))
        → length (fields_told values object) ≡ length (values_of s.found)
    go None e told = absurd (cc)
    go (Some x) e told = ap (λ (o : Option (List (List ℤ))). length (unwrap_or o [])) e ∙ (let same : length x ≡ length (values_of s.found) = cc (told) in same)

-- ---- reads

nothing_read : (own : List PairStep) (steps : List PairStep) → AllByRecursion IsOwnStep own → reads_of (own ++ steps) ≡ reads_of steps
nothing_read [] steps all = refl
nothing_read (Show kind block level control ∷ own) steps all = absurd all.0
nothing_read (Hide n ∷ own) steps all = absurd all.0
nothing_read (Near n level ∷ own) steps all = absurd all.0
nothing_read (Post class v ∷ own) steps all = absurd all.0
nothing_read (Pack drains reads ∷ own) steps all = ap (λ (l : List Read). l ++ reads_of (own ++ steps)) all.0 ∙ nothing_read own steps all.1
nothing_read (step ∷ own) steps all = nothing_read own steps all.1

messages_read_nothing : (ms : List Message) → reads_of (map step_for ms) ≡ []
messages_read_nothing [] = refl
messages_read_nothing (message.Show object kind block level control ∷ ms) = messages_read_nothing ms
messages_read_nothing (message.Hide n ∷ ms) = messages_read_nothing ms
messages_read_nothing (message.Near n level ∷ ms) = messages_read_nothing ms
messages_read_nothing (message.Post class v ∷ ms) = messages_read_nothing ms

pub own_quiet : (own : List PairStep) → AllByRecursion IsOwnStep own → AreQuiet own
own_quiet [] all = tt
own_quiet (Show kind block level control ∷ own) all = absurd all.0
own_quiet (Hide n ∷ own) all = absurd all.0
own_quiet (Near n level ∷ own) all = absurd all.0
own_quiet (Post class v ∷ own) all = absurd all.0
own_quiet (step ∷ own) all = (tt, own_quiet own all.1)

no_packs : (ms : List Message) → AllByRecursion IsNoPack (map step_for ms)
no_packs [] = tt
no_packs (message.Show object kind block level control ∷ ms) = (tt, no_packs ms)
no_packs (message.Hide n ∷ ms) = (tt, no_packs ms)
no_packs (message.Near n level ∷ ms) = (tt, no_packs ms)
no_packs (message.Post class v ∷ ms) = (tt, no_packs ms)

-- the steps of messages stand behind the own ones
pub newest_are : (own : List PairStep) (ms : List Message) → newest_first (own ++ map step_for ms) ≡ steps_of_messages ms ++ reverse own
newest_are own ms = reverse-append own (map step_for ms)

module _ (t : Terms) (c : ℕ) (w : Worlds) (first : Worlds) (ticks : Ticks) (values : Values) (words : Words) (lines : List BodyLine) (ms : List Message) (steps : List PairStep) (objects : List ℕ)
    (kinds : t.kinds ≡ match_kinds) (world : IsWorld (world_after first ticks)) (history : IsHistoryOf first ticks values)
    (there : AllByRecursion (ShowsThere (world_after first ticks)) ms) (done : IsDone t c lines ms steps objects) where
  abbrev shown : List PairStep
  shown = steps_of_messages ms

  abbrev quiet : List PairStep
  quiet = reverse done.own

  are_quiet : AreQuiet quiet
  are_quiet = all-reverse IsQuiet done.own (own_quiet done.own done.own_are.own)

  past_is : newest_first steps ≡ shown ++ quiet
  past_is = ap reverse done.steps_are ∙ newest_are done.own ms

  none_read : reads_of steps ≡ []
  none_read = ap reads_of done.steps_are ∙ nothing_read done.own (map step_for ms) done.own_are.own ∙ messages_read_nothing ms

  -- as the messages list them, the newest first
  abbrev rs : List Message
  rs = reverse ms

  shown_is : shown ≡ map step_for rs
  shown_is = map_reverse step_for ms

  of_kinds : AreOfKinds (world_after first ticks) rs
  of_kinds = are_of_kinds (world_after first ticks) rs (all-reverse (ShowsThere (world_after first ticks)) ms there)

  objects_same : objects_shown (reverse rs) ≡ objects
  objects_same = ap objects_shown (reverse-reverse ms) ∙ sym done.objects_are

  kind_there : (n : ℕ) → n < shows_in shown → IsThere (world_after first ticks) (object_of objects n) (traits_in shown n).kind
  kind_there n less =
      let here = of_kinds.each n (subst (λ (l : List PairStep). n < shows_in l) shown_is less) in
      subst (λ (l : List PairStep). IsThere (world_after first ticks) (object_of objects n) (traits_in l n).kind) (sym shown_is)
      (subst (λ (l : List ℕ). IsThere (world_after first ticks) (object_of l n) (traits_in (map step_for rs) n).kind) objects_same here)

  many_objects : length objects ≡ shows_in shown
  many_objects = ap (λ (l : List ℕ). length l) (sym objects_same) ∙ of_kinds.many ∙ ap shows_in (sym shown_is)

  field_due : (n field : ℕ) → n < shows_in shown → field < length (fields_told values (object_of objects n)) → is_field_due t (newest_first steps) n field ≡ true
  field_due n field less narrow =
      let kind : plan.kind_of (ghost_log (pair.history t (shown ++ quiet)).server) n ≡ (traits_in shown n).kind =
      kind_told t (shown ++ quiet) n ∙ ap (λ (x : Traits). x.kind) (behind_traits quiet are_quiet shown n) in
      let many = fields_are (world_after first ticks) (worlds_from first ticks) values (object_of objects n) (traits_in shown n).kind world history (kind_there n less) in
      let same : length (fields_of t.kinds (plan.kind_of (ghost_log (pair.history t (shown ++ quiet)).server) n)) ≡ length (fields_of match_kinds (traits_in shown n).kind) =
      λ j. length (fields_of (kinds j) (kind j)) in
      let enough : nat_lt field (length (fields_of t.kinds (plan.kind_of (ghost_log (pair.history t (shown ++ quiet)).server) n))) ≡ true = lt-ltb field _ (omega (arith, narrow, many, same)) in
      let no_pack : AllByRecursion IsNoPack shown = all-reverse IsNoPack (map step_for ms) (no_packs ms) in
      subst (λ (past : List PairStep). is_field_due t past n field ≡ true) (sym past_is)
      (and_from (nat_lt field (length (fields_of t.kinds (plan.kind_of (ghost_log (pair.history t (shown ++ quiet)).server) n)))) _ enough (all_due quiet are_quiet t shown no_pack n field less))

  current : (n : ℕ) → IsCurrentIfUp values words c t steps objects n
  current n up =
      let less : n < shows_in shown =
      subst (λ k. n < k) (ap shows_in past_is ∙ behind_shows quiet are_quiet shown) (up_shown (newest_first steps) n up) in
      record {
        shown = let many = many_objects in omega (arith, many, less);
        each = λ field narrow. IsDue (field_due n field less narrow);
      }

  pub legal_reads : AreLegalReads values words c t steps objects
  legal_reads = record {
    stand = subst (AllByRecursion (ReadStands values objects)) (sym none_read) tt;
    never_fall = subst (NeverFalls objects) (sym none_read) tt;
    current = current;
  }
