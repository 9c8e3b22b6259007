-- A match in which no tick takes a move: its worlds, scans and messages are those of the own lists of the script's ticks, scans and
-- posts alone, in which nothing arrives.
use Rattle.std.proofs.Common.{◌≡◌, ℕ, zero, suc, ◌+◌, ◌<◌, ◌≤◌, Bool, true, false, cond, nat_eq, List, [], ◌∷◌, ◌++◌, length, take, map, reverse, drop, replicate, Option, None, refl, sym, ap, subst, ◌∙◌, arith, ◌⊎◌, inl, inr, append-nil, append_assoc}
use Rattle.std.specs.Prelude.{slice_get, if◌then◌else◌}
use Rattle.std.specs.List.{range_with_len, AllByRecursion}
use Rattle.std.proofs.lemmas.Bool.{eqb-true, eq-eqb}
use Rattle.std.proofs.lemmas.List.{reverse-append, take-replicate, map-append}
use Rattle.std.proofs.lemmas.List.Elements.{All-from_recursion}
use Rattle.match_script.specs.declared.limits.TheConstants.{MAX_BODY_LINES}
use Rattle.tn_types.specs.declared.choices.Class.{Class}
use Rattle.tn_types.specs.declared.moves.MoveBits.{MoveBits}
use Rattle.match_script.specs.declared.types.BodyLine.{BodyLine}
use Rattle.match_script.specs.declared.types.BodyLine.TheVariants as script
use Rattle.match_script.specs.declared.types.Head.{Head}
use Rattle.match_script.specs.Ranges.{HeadFits, LineFits}
use Rattle.world_sim.specs.Worlds.{Worlds, next, first_world}
use Rattle.world_scope.specs.declared.viewer.Seen.{Seen}
use Rattle.world_scope.specs.Scope.{visible_list}
use Rattle.client_scope.specs.declared.period.ShownPeriod.{ShownPeriod}
use Rattle.client_scope.specs.Scans.{shown}
use Rattle.client_scope.specs.Changes.{hides, nears, shows}
use Rattle.pair_core.specs.stream_manager.Limits.{Terms}
use Rattle.pair_core.specs.declared.step.PairStep.TheVariants as given
use Rattle.pair_core.specs.History.{PairStep, Post}
use Rattle.pair_core.specs.Conditions.{AreMet}
use Rattle.pair_core.specs.Answers.{answer, accepted_in}
use Rattle.kept_pair.proofs.Counts.{none-new}
use Rattle.race_messages.specs.declared.message.Message.{Message}
use Rattle.race_messages.specs.declared.message.Message.TheVariants as message
use Rattle.race_messages.specs.Steps.{step_for}
use Rattle.own_lists.specs.Own.{OwnShow, OwnItem, Line}
use Rattle.own_lists.specs.declared.showing.Showing.{Showing}
use Rattle.own_lists.specs.Kept.{kept}
use Rattle.own_lists.specs.Course.{onto, scan_steps}
use Rattle.own_lists.specs.Past.{Past, client_terms, kept_by, after, move_of, moves_of, showing_of, own_show, own_writes, scan_item}
use Rattle.own_lists.proofs.KeptValues.{wrote_course}
use Rattle.own_lists.proofs.Meeting.{scan_journal, are_met}
use Rattle.own_lists.proofs.Counting.{counted_few}
use Rattle.own_lists.proofs.Agreeing.{own_lists_agree}
use Rattle.legal_race.specs.race_history.History.{world_after}
use Rattle.legal_race.specs.race_course.Messages.{Ticks, is_tick, ticks_in, is_scan_of, world_at, seen_at, scans_of, scan_messages, line_gives, messages}
use Rattle.legal_race.proofs.Below.race_course.Following.{ticks_more, ticks_same}
use Rattle.legal_race.proofs.Below.race_course.ScanSteps.{are_scan_steps}
use Rattle.plain_race.specs.Idle.{idle_row, idle}

-- the ticks, scans and posts
abbrev pub told : List BodyLine → List BodyLine
told [] = []
told (script.Tick ∷ past) = script.Tick ∷ told past
told (script.Scan c ∷ past) = script.Scan c ∷ told past
told (script.Post c class payload ∷ past) = script.Post c class payload ∷ told past
told (line ∷ past) = told past

-- the steps of messages, the newest first
abbrev pub steps_of_messages : List Message → List PairStep
steps_of_messages ms = reverse (map step_for ms)

-- ---- lists

pub steps_more : (xs ys : List Message) → steps_of_messages (xs ++ ys) ≡ steps_of_messages ys ++ steps_of_messages xs
steps_more xs ys = ap reverse (map-append step_for xs ys) ∙ reverse-append (map step_for xs) (map step_for ys)

onto_is : (more steps : List PairStep) → onto more steps ≡ reverse more ++ steps
onto_is [] steps = refl
onto_is (step ∷ more) steps =
    onto_is more (step ∷ steps)
    ∙ sym (append_assoc (reverse more) (step ∷ []) steps)
    ∙ ap (λ (l : List PairStep). l ++ steps) (sym (reverse-append (step ∷ []) more))

-- ---- no move comes

one_none : (t : Terms) (m : Message) (steps : List PairStep) → accepted_in t (step_for m ∷ steps) ≡ accepted_in t steps
one_none t (message.Show object kind block level control) steps =
    let g = given.Show kind block level control in none-new t steps g (answer t steps (step_for (message.Show object kind block level control))) refl refl
one_none t (message.Hide n) steps = none-new t steps (given.Hide n) (answer t steps (step_for (message.Hide n))) refl refl
one_none t (message.Near n level) steps = none-new t steps (given.Near n level) (answer t steps (step_for (message.Near n level))) refl refl
one_none t (message.Post class v) steps = none-new t steps (given.Post class v) (answer t steps (step_for (message.Post class v))) refl refl

onto_none : (t : Terms) (ms : List Message) (steps : List PairStep) → accepted_in t (onto (map step_for ms) steps) ≡ accepted_in t steps
onto_none t [] steps = refl
onto_none t (m ∷ ms) steps = onto_none t ms (step_for m ∷ steps) ∙ one_none t m steps

pub no_moves : (t : Terms) (ms : List Message) → accepted_in t (steps_of_messages ms) ≡ []
no_moves t ms =
    ap (accepted_in t) (sym (append-nil (steps_of_messages ms)) ∙ sym (onto_is (map step_for ms) [])) ∙ onto_none t ms []

first_of_none : (n : ℕ) (ms : List MoveBits) → ms ≡ [] → slice_get (drop n ms) 0 ≡ None
first_of_none n ms none = rw none (go n)
  where
    go : (k : ℕ) → (let l : List MoveBits = [] in slice_get (drop k l) 0 ≡ None)
    go zero = refl
    go (suc k) = refl

-- ---- worlds

still_next : (w : Worlds) (row : List (Option MoveBits)) (k : ℕ) → world_after (next w row) (replicate k row) ≡ next (world_after w (replicate k row)) row
still_next w row zero = refl
still_next w row (suc k) = still_next (next w row) row k

all_none : {X : Type 0} (f : ℕ → Option X) → ((c : ℕ) → f c ≡ None) → (a n : ℕ) → map f (range_with_len a n) ≡ replicate n None
all_none f none a zero = refl
all_none {X} f none a (suc n) = λ j. none a j ∷ all_none f none (a + 1) n j

-- ---- which client

abbrev IsOneOf : ℕ → ℕ → Type 0
IsOneOf c d = ((c ≡ d) × (nat_eq c d ≡ true) × (nat_eq d c ≡ true)) ⊎ ((nat_eq c d ≡ false) × (nat_eq d c ≡ false))

which : (c d : ℕ) → IsOneOf c d
which c d = go (nat_eq c d) refl
  where
    go : (b : Bool) → nat_eq c d ≡ b → IsOneOf c d
    go true e = let same = eqb-true c d e in inl (same, e, eq-eqb d c (sym same))
    go false e = inr (e, other (nat_eq d c) refl)
      where
        other : (b : Bool) → nat_eq d c ≡ b → nat_eq d c ≡ false
        other true f = absurd (let same = eq-eqb c d (sym (eqb-true d c f)) in cc (same, e))
        other false f = f

-- ---- scans

shown_how : (w : Worlds) (c : ℕ) (ss : List Seen) → map (λ (s : OwnShow). s.how) (map (own_show w c) ss) ≡ map (showing_of w c) ss
shown_how w c [] = refl
shown_how w c (s ∷ ss) = λ j. showing_of w c s ∷ shown_how w c ss j

-- ---- the law

pub record IsStill (head : Head) (ticks : Ticks) (past : List BodyLine) : Type 0 where
  pub world : (after head (told past)).world ≡ world_at (first_world head.seed head.setup) ticks past
  pub scans : (c : ℕ) → (after head (told past)).scans c ≡ scans_of (first_world head.seed head.setup) ticks c past
  pub steps : (c : ℕ) → (kept_by head (after head (told past)) c).course.steps ≡ steps_of_messages (messages (first_world head.seed head.setup) ticks c past)

module _ (head : Head) (n : ℕ) where
  abbrev first : Worlds
  first = first_world head.seed head.setup

  abbrev ticks : Ticks
  ticks = idle n head.clients

  takes_none : (past : List BodyLine) → IsStill head ticks past → moves_of head (after head (told past)) ≡ idle_row head.clients
  takes_none past h =
      let p = after head (told past) in
      all_none (move_of head p)
      (λ c. first_of_none (kept_by head p c).course.taken (accepted_in (client_terms head c) (kept_by head p c).course.steps)
      (ap (accepted_in (client_terms head c)) (h.steps c) ∙ no_moves (client_terms head c) (messages first ticks c past)))
      0 head.clients

  world_same : (k m : ℕ) → k ≡ m → world_after first (take k ticks) ≡ world_after first (take m ticks)
  world_same k m e = ap (λ (i : ℕ). world_after first (take i ticks)) e

  pub world_next : (past : List BodyLine) → ticks_in past + 1 ≤ n → next (world_at first ticks past) (idle_row head.clients) ≡ world_at first ticks (script.Tick ∷ past)
  world_next past few =
      let k = ticks_in past in
      let row = idle_row head.clients in
      ap (λ (ts : Ticks). next (world_after first ts) row) (take-replicate k n row (omega (arith, few)))
      ∙ sym (still_next first row k)
      ∙ ap (world_after first) (sym (take-replicate (suc k) n row (omega (arith, few))))
      ∙ world_same (suc k) (ticks_in (script.Tick ∷ past)) (let e = ticks_more past in omega (arith, e))

  -- a line that is passed over
  passed : (line : BodyLine) (past : List BodyLine) → is_tick line ≡ false → ((c : ℕ) → is_scan_of c line ≡ false)
      → ((c : ℕ) → line_gives first ticks c past line ≡ []) → told (line ∷ past) ≡ told past
      → IsStill head ticks past → IsStill head ticks (line ∷ past)
  passed line past no_tick no_scan nothing same h = record {
    world = ap (λ (l : List BodyLine). (after head l).world) same ∙ h.world ∙ world_same (ticks_in past) (ticks_in (line ∷ past)) (sym (ticks_same line past no_tick));
    scans = λ c.
        ap (λ (l : List BodyLine). (after head l).scans c) same ∙ h.scans c
        ∙ ap (λ (b : Bool). if b then seen_at first ticks c past ∷ scans_of first ticks c past else scans_of first ticks c past) (sym (no_scan c));
    steps = λ c.
        ap (λ (l : List BodyLine). (kept_by head (after head l) c).course.steps) same ∙ h.steps c
        ∙ ap steps_of_messages (sym (append-nil (messages first ticks c past)) ∙ ap (λ (ms : List Message). messages first ticks c past ++ ms) (sym (nothing c)));
  }

  ticked : (past : List BodyLine) → ticks_in past + 1 ≤ n → IsStill head ticks past → IsStill head ticks (script.Tick ∷ past)
  ticked past few h =
      let p = after head (told past) in
      record {
        world = (λ j. next (h.world j) (takes_none past h j)) ∙ world_next past few;
        scans = λ c. h.scans c;
        steps = λ c.
            let t = client_terms head c in
            ap (λ k. k.steps) (wrote_course t (own_writes (next p.world (moves_of head p)) (shown_periods p c)) (kept_by head p c))
            ∙ h.steps c ∙ ap steps_of_messages (sym (append-nil (messages first ticks c past)));
      }
    where
      shown_periods : Past → ℕ → List ShownPeriod
      shown_periods p c = shown (p.scans c)

  -- ---- a scan

  own_scan : (past : List BodyLine) → IsStill head ticks past → (c : ℕ)
      → (kept (client_terms head c) (scan_item (after head (told past)).world c (visible_list (after head (told past)).world c ∷ (after head (told past)).scans c) ∷ (after head (told past)).own c)).course.steps
      ≡ steps_of_messages (messages first ticks c past ++ scan_messages (world_at first ticks past) c (seen_at first ticks c past ∷ scans_of first ticks c past))
  own_scan past h c =
      let p = after head (told past) in
      let k = kept_by head p c in
      let scans : List (List Seen) = visible_list p.world c ∷ p.scans c in
      scan_journal (hides scans) (nears scans) (map (own_show p.world c) (shows scans)) k
      ∙ ap (λ (l : List Showing). onto (scan_steps (hides scans) (nears scans) l) k.course.steps) (shown_how p.world c (shows scans))
      ∙ ap (λ (l : List PairStep). onto l k.course.steps) (sym (are_scan_steps p.world c scans))
      ∙ onto_is (map step_for (scan_messages p.world c scans)) k.course.steps
      ∙ (λ j. steps_of_messages (scan_messages (h.world j) c (visible_list (h.world j) c ∷ h.scans c j)) ++ h.steps c j)
      ∙ sym (steps_more (messages first ticks c past) (scan_messages (world_at first ticks past) c (seen_at first ticks c past ∷ scans_of first ticks c past)))

  module _ (past : List BodyLine) (d : ℕ) (h : IsStill head ticks past) where
    abbrev p : Past
    p = after head (told past)

    abbrev item : ℕ → OwnItem
    item x = scan_item p.world x (visible_list p.world x ∷ p.scans x)

    scans_by : (c : ℕ) → IsOneOf c d → cond (nat_eq c d) (visible_list p.world d ∷ p.scans d) (p.scans c)
        ≡ (if nat_eq d c then seen_at first ticks c past ∷ scans_of first ticks c past else scans_of first ticks c past)
    scans_by c (inl e) =
        let s : d ≡ c = sym e.0 in
        ap (λ b. cond b (visible_list p.world d ∷ p.scans d) (p.scans c)) e.1
        ∙ (λ j. visible_list (h.world j) (s j) ∷ h.scans (s j) j)
        ∙ ap (λ b. if b then seen_at first ticks c past ∷ scans_of first ticks c past else scans_of first ticks c past) (sym e.2)
    scans_by c (inr e) =
        ap (λ b. cond b (visible_list p.world d ∷ p.scans d) (p.scans c)) e.0
        ∙ h.scans c
        ∙ ap (λ b. if b then seen_at first ticks c past ∷ scans_of first ticks c past else scans_of first ticks c past) (sym e.1)

    abbrev given_by : ℕ → List Message
    given_by c = scan_messages (world_at first ticks past) c (seen_at first ticks c past ∷ scans_of first ticks c past)

    steps_by : (c : ℕ) → IsOneOf c d → (kept (client_terms head c) (cond (nat_eq c d) (item d ∷ p.own d) (p.own c))).course.steps
        ≡ steps_of_messages (messages first ticks c past ++ (if nat_eq d c then given_by c else []))
    steps_by c (inl e) =
        ap (λ b. (kept (client_terms head c) (cond b (item d ∷ p.own d) (p.own c))).course.steps) e.1
        ∙ subst (λ (x : ℕ). (kept (client_terms head c) (item x ∷ p.own x)).course.steps ≡ steps_of_messages (messages first ticks c past ++ given_by c)) e.0 (own_scan past h c)
        ∙ ap (λ b. steps_of_messages (messages first ticks c past ++ (if b then given_by c else []))) (sym e.2)
    steps_by c (inr e) =
        ap (λ b. (kept (client_terms head c) (cond b (item d ∷ p.own d) (p.own c))).course.steps) e.0
        ∙ h.steps c
        ∙ ap steps_of_messages (sym (append-nil (messages first ticks c past)))
        ∙ ap (λ b. steps_of_messages (messages first ticks c past ++ (if b then given_by c else []))) (sym e.1)

    scanned : IsStill head ticks (script.Scan d ∷ past)
    scanned = record {
      world = h.world ∙ world_same (ticks_in past) (ticks_in (script.Scan d ∷ past)) (sym (ticks_same (script.Scan d) past refl));
      scans = λ c. scans_by c (which c d);
      steps = λ c. steps_by c (which c d);
    }

  -- ---- a post

  module _ (past : List BodyLine) (d : ℕ) (class : Class) (payload : List ℕ) (h : IsStill head ticks past) where
    abbrev q : Past
    q = after head (told past)

    abbrev line_item : OwnItem
    line_item = Line (script.Post d class payload)

    abbrev post_given : List Message
    post_given = message.Post class payload ∷ []

    own_post : (c : ℕ) → Post class payload ∷ (kept_by head q c).course.steps ≡ steps_of_messages (messages first ticks c past ++ post_given)
    own_post c = (λ j. Post class payload ∷ h.steps c j) ∙ sym (steps_more (messages first ticks c past) post_given)

    post_steps : (c : ℕ) → IsOneOf c d → (kept (client_terms head c) (cond (nat_eq c d) (line_item ∷ q.own d) (q.own c))).course.steps
        ≡ steps_of_messages (messages first ticks c past ++ (if nat_eq d c then post_given else []))
    post_steps c (inl e) =
        ap (λ b. (kept (client_terms head c) (cond b (line_item ∷ q.own d) (q.own c))).course.steps) e.1
        ∙ subst (λ (x : ℕ). Post class payload ∷ (kept (client_terms head c) (q.own x)).course.steps ≡ steps_of_messages (messages first ticks c past ++ post_given)) e.0 (own_post c)
        ∙ ap (λ b. steps_of_messages (messages first ticks c past ++ (if b then post_given else []))) (sym e.2)
    post_steps c (inr e) =
        ap (λ b. (kept (client_terms head c) (cond b (line_item ∷ q.own d) (q.own c))).course.steps) e.0
        ∙ h.steps c
        ∙ ap steps_of_messages (sym (append-nil (messages first ticks c past)))
        ∙ ap (λ b. steps_of_messages (messages first ticks c past ++ (if b then post_given else []))) (sym e.1)

    posted : IsStill head ticks (script.Post d class payload ∷ past)
    posted = record {
      world = h.world ∙ world_same (ticks_in past) (ticks_in (script.Post d class payload ∷ past)) (sym (ticks_same (script.Post d class payload) past refl));
      scans = λ c. h.scans c;
      steps = λ c. post_steps c (which c d);
    }

  pub still : (past : List BodyLine) → ticks_in past ≤ n → IsStill head ticks past
  still [] few = record { world = refl; scans = λ c. refl; steps = λ c. refl }
  still (line ∷ past) few = by line few (λ less. still past less)
    where
      here : (l : BodyLine) → is_tick l ≡ false → ticks_in (l ∷ past) ≤ n → (ticks_in past ≤ n → IsStill head ticks past) → IsStill head ticks past
      here l no_tick less rest = rest (let e = ticks_same l past no_tick in omega (arith, e, less))

      by : (l : BodyLine) → ticks_in (l ∷ past) ≤ n → (ticks_in past ≤ n → IsStill head ticks past) → IsStill head ticks (l ∷ past)
      by script.Tick less rest =
          let one = ticks_more past in ticked past (omega (arith, one, less)) (rest (omega (arith, one, less)))
      by (script.Scan d) less rest = scanned past d (here (script.Scan d) refl less rest)
      by (script.Post d class payload) less rest = posted past d class payload (here (script.Post d class payload) refl less rest)
      by l less rest = passed l past refl (λ c. refl) (λ c. refl) refl (here l refl less rest)

  -- ---- lines that are told

  told_fits : (clients : ℕ) (past : List BodyLine) → AllByRecursion (LineFits clients) past → AllByRecursion (LineFits clients) (told past)
  told_fits clients [] all = tt
  told_fits clients (script.Tick ∷ past) all = (all.0, told_fits clients past all.1)
  told_fits clients (script.Scan c ∷ past) all = (all.0, told_fits clients past all.1)
  told_fits clients (script.Post c class payload ∷ past) all = (all.0, told_fits clients past all.1)
  told_fits clients (line ∷ past) all = told_fits clients past all.1

  told_few : (past : List BodyLine) → length (told past) ≤ length past
  told_few [] = omega arith
  told_few (script.Tick ∷ past) = let h = told_few past in omega (arith, h)
  told_few (script.Scan c ∷ past) = let h = told_few past in omega (arith, h)
  told_few (script.Post c class payload ∷ past) = let h = told_few past in omega (arith, h)
  told_few (line ∷ past) = let h = told_few past in omega (arith, h)

  -- each message of a match in which no tick takes a move may become a step, after those before it
  pub all_met : (past : List BodyLine) → HeadFits head → AllByRecursion (LineFits head.clients) past → length past ≤ MAX_BODY_LINES → ticks_in past ≤ n
      → (c : ℕ) → c < head.clients → AreMet (client_terms head c) (steps_of_messages (messages first ticks c past))
  all_met past fits lines many few c below =
      let few_told = told_few past in
      let few_counted = counted_few (told past) in
      let hold = own_lists_agree head (told past) c (record {
        fits = fits;
        lines = All-from_recursion (LineFits head.clients) (told past) (told_fits head.clients past lines);
        few = omega (arith, many, few_told, few_counted);
      }) below in
      subst (AreMet (client_terms head c)) ((still past few).steps c) (are_met (client_terms head c) refl ((after head (told past)).own c) hold.0)
