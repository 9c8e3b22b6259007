-- A period of a spectator keeps the kind that it was shown with.
use Rattle.std.proofs.Common.{◌≡◌, ◌∙◌, ℕ, ◌<◌, ◌==◌, Bool, true, false, cond, List, [], ◌∷◌, ◌++◌, map, if◌then◌else◌, refl, sym, subst, arith}
use Rattle.std.proofs.lemmas.Bool.Decides.{nat_tests}
use Rattle.tn_types.specs.declared.choices.Class.TheVariants.{Guaranteed}
use Rattle.ghost_model.specs.Scope.{Traits}
use Rattle.stream_manager.specs.Limits.{Terms}
use Rattle.pair_core.specs.History.{PairStep, Show, Near}
use Rattle.pair_steps.specs.Steps.{shows_in, traits_in}
use Rattle.match_script.specs.declared.types.BodyLine.{BodyLine}
use Rattle.match_script.specs.declared.types.BodyLine.TheVariants as script
use Rattle.own_lists.specs.Own.{OwnItem, OwnShow, Line, Scan, Tick}
use Rattle.own_lists.specs.Course.{Course, onto, scan_steps}
use Rattle.own_lists.specs.Kept.{Kept, kept, journal, after_line, follows}
use Rattle.own_lists.proofs.Meeting.{scan_journal}
use Rattle.own_lists.proofs.KeptValues.{wrote_course}
use Rattle.relay_model.specs.Watching.{WatchEvent, Took, Scans, Own}
use Rattle.relay_model.specs.Items.{posting, is_stopped, items_of, news_by, hide_item, write_item, show_item}

-- what was shown stays so, with its kind
abbrev pub Continues : List PairStep → List PairStep → Type 0
Continues old new = (n : ℕ) → n < shows_in old → (n < shows_in new) × ((traits_in new n).kind ≡ (traits_in old n).kind)

stays : (steps : List PairStep) → Continues steps steps
stays steps n lt = (lt, refl)

continues_then : (a b c : List PairStep) → Continues a b → Continues b c → Continues a c
continues_then a b c x y n lt =
    let p = x n lt in
    let q = y n p.0 in
    (q.0, q.1 ∙ p.1)

near_kind : (b : Bool) (l : ℕ) (x : Traits) → (cond b (record x { level = l }) x).kind ≡ x.kind
near_kind true l x = refl
near_kind false l x = refl

step_continues : (step : PairStep) (steps : List PairStep) → Continues steps (step ∷ steps)
step_continues (Show kind block level control) steps n lt = (omega (arith, lt), go (n == shows_in steps) refl)
  where
    go : (b : Bool) → (n == shows_in steps) ≡ b
        → (cond b (record { kind = kind; block = block; level = level; control = control }) (traits_in steps n)).kind ≡ (traits_in steps n).kind
    go true e = absurd (let same : n ≡ shows_in steps = grind (arith, nat_tests) in omega (arith, same, lt))
    go false e = refl
step_continues (Near m l) steps n lt = (lt, near_kind (m == n) l (traits_in steps n))
step_continues step steps n lt = (lt, refl)

onto_continues : (more steps : List PairStep) → Continues steps (onto more steps)
onto_continues [] steps n lt = (lt, refl)
onto_continues (step ∷ more) steps n lt =
    continues_then steps (step ∷ steps) (onto more (step ∷ steps)) (step_continues step steps) (onto_continues more (step ∷ steps)) n lt

module _ (t : Terms) where
  line_continues : (line : BodyLine) (k : Kept) → Continues k.course.steps (after_line t line k).course.steps
  line_continues script.Tick k n lt = (lt, refl)
  line_continues (script.Scan c) k n lt = (lt, refl)
  line_continues (script.Show c) k n lt = (lt, refl)
  line_continues script.World k n lt = (lt, refl)
  line_continues line k n lt = (lt, refl)

  item_continues : (item : OwnItem) (k : Kept) → Continues k.course.steps (follows t item k).course.steps
  item_continues (Line line) k = line_continues line k
  item_continues (Scan hides nears shows) k =
      let steps = scan_steps hides nears (map (λ (s : OwnShow). s.how) shows) in
      subst (Continues k.course.steps) (sym (scan_journal hides nears shows k)) (onto_continues steps k.course.steps)
  item_continues (Tick writes taken) k =
      subst (λ (c : Course). Continues k.course.steps c.steps) (sym (wrote_course t writes k)) (λ n lt. (lt, refl))

  abbrev Goes : List OwnItem → List OwnItem → Type 0
  Goes old new = Continues (journal t old) (journal t new)

  one_goes : (item : OwnItem) (items : List OwnItem) → Goes items (item ∷ items)
  one_goes item items = item_continues item (kept t items)

  post_goes : (v : List ℕ) (items : List OwnItem) (b : Bool) → Goes items (if b then items else Line (script.Post t.config.client Guaranteed v) ∷ items)
  post_goes v items true = stays (journal t items)
  post_goes v items false = one_goes (Line (script.Post t.config.client Guaranteed v)) items

  posts_go : (vs : List (List ℕ)) (items : List OwnItem) → Goes items (posting t vs items)
  posts_go [] items = stays (journal t items)
  posts_go (v ∷ vs) items =
      let next = if is_stopped t items then items else Line (script.Post t.config.client Guaranteed v) ∷ items in
      continues_then (journal t items) (journal t next) (journal t (posting t vs next)) (post_goes v items (is_stopped t items)) (posts_go vs next)

  event_goes : (event : WatchEvent) (events : List WatchEvent) → Goes (items_of t events) (items_of t (event ∷ events))
  event_goes (Took p) events =
      let items = items_of t events in
      let hidden = hide_item p events ∷ items in
      let written = write_item t.kinds p events ∷ hidden in
      continues_then (journal t items) (journal t written) (journal t (posting t (news_by p events) written))
      (continues_then (journal t items) (journal t hidden) (journal t written) (one_goes (hide_item p events) items) (one_goes (write_item t.kinds p events) hidden))
      (posts_go (news_by p events) written)
  event_goes Scans events = one_goes (show_item t.kinds events) (items_of t events)
  event_goes (Own line) events = one_goes (Line line) (items_of t events)

  pub all_go : (later earlier : List WatchEvent) → Goes (items_of t earlier) (items_of t (later ++ earlier))
  all_go [] earlier = stays (journal t (items_of t earlier))
  all_go (event ∷ later) earlier =
      continues_then (journal t (items_of t earlier)) (journal t (items_of t (later ++ earlier))) (journal t (items_of t (event ∷ later ++ earlier)))
      (all_go later earlier) (event_goes event (later ++ earlier))
