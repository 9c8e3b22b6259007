-- The steps of a spectator's connection: no raw bytes come to its server, and what is posted to it fits.
use Rattle.std.proofs.Common.{ℕ, Bool, true, false, List, [], ◌∷◌, ◌++◌, map, if◌then◌else◌, sym, subst}
use Rattle.std.specs.List.{AllByRecursion}
use Rattle.tn_types.specs.declared.choices.Class.TheVariants.{Guaranteed}
use Rattle.client_scope.specs.declared.period.Near.{Near}
use Rattle.event_manager.specs.Posted.{guaranteed_of}
use Rattle.stream_manager.specs.Limits.{Terms}
use Rattle.stream_manager.specs.Packets.{delivered_to}
use Rattle.pair_core.specs.History.{PairStep}
use Rattle.pair_core.specs.Conditions.{IsHonestStep, IsHonest}
use Rattle.pair_core.specs.Conditions.{IsPayload, StepFits}
use Rattle.match_script.specs.declared.types.BodyLine.{BodyLine}
use Rattle.match_script.specs.declared.types.BodyLine.TheVariants as script
use Rattle.own_lists.specs.declared.showing.Showing.{Showing}
use Rattle.own_lists.specs.Own.{OwnItem, OwnShow, Line, Scan}
use Rattle.own_lists.specs.Course.{Course, onto, near_step, show_step, scan_steps}
use Rattle.own_lists.specs.Kept.{kept, journal}
use Rattle.own_lists.proofs.Meeting.{scan_journal}
use Rattle.own_lists.proofs.KeptValues.{wrote_course}
use Rattle.relay_model.specs.Watching.{WatchEvent, Took, Scans, Own, packets_in, watched, copy_at}
use Rattle.relay_model.specs.Items.{shown_of, hidden_of, writes_of, posting, is_stopped, items_of, news_by, hide_item, write_item}
use Rattle.relay_model.specs.Laws.{AreSpectators, IsSpectators}
use Rattle.relay_model.proofs.Posting.{delivers-more}

-- ---- lists

pub all_first : {A : Type 0} (P : A → Type 0) (xs ys : List A) → AllByRecursion P (xs ++ ys) → AllByRecursion P xs
all_first P [] ys h = tt
all_first P (x ∷ xs) ys h = (h.0, all_first P xs ys h.1)

all_last : {A : Type 0} (P : A → Type 0) (xs ys : List A) → AllByRecursion P (xs ++ ys) → AllByRecursion P ys
all_last P [] ys h = h
all_last P (x ∷ xs) ys h = all_last P xs ys h.1

-- ---- steps

abbrev IsFine : PairStep → Type 0
IsFine step = IsHonestStep step × StepFits step

abbrev AreFine : List PairStep → Type 0
AreFine steps = AllByRecursion IsFine steps

onto_fine : (more steps : List PairStep) → AreFine more → AreFine steps → AreFine (onto more steps)
onto_fine [] steps new old = old
onto_fine (step ∷ more) steps new old = onto_fine more (step ∷ steps) new.1 (new.0, old)

shows_fine : (shows : List Showing) → AreFine (map show_step shows)
shows_fine [] = tt
shows_fine (s ∷ shows) = ((tt, tt), shows_fine shows)

nears_fine : (nears : List Near) (shows : List Showing) → AreFine (map near_step nears ++ map show_step shows)
nears_fine [] shows = shows_fine shows
nears_fine (p ∷ nears) shows = ((tt, tt), nears_fine nears shows)

scan_fine : (hides : List ℕ) (nears : List Near) (shows : List Showing) → AreFine (scan_steps hides nears shows)
scan_fine [] nears shows = nears_fine nears shows
scan_fine (n ∷ hides) nears shows = ((tt, tt), scan_fine hides nears shows)

module _ (t : Terms) where
  abbrev Fine : List OwnItem → Type 0
  Fine items = AreFine (journal t items)

  with_scan : (hides : List ℕ) (nears : List Near) (shows : List OwnShow) (items : List OwnItem) → Fine items → Fine (Scan hides nears shows ∷ items)
  with_scan hides nears shows items h =
      let hows : List Showing = map (λ (s : OwnShow). s.how) shows in
      subst AreFine (sym (scan_journal hides nears shows (kept t items))) (onto_fine (scan_steps hides nears hows) (journal t items) (scan_fine hides nears hows) h)

  with_line : (line : BodyLine) (items : List OwnItem) → IsSpectators line → Fine items → Fine (Line line ∷ items)
  with_line (script.Pack c) items is h = ((tt, tt), h)
  with_line (script.ClientPack c) items is h = ((tt, tt), h)
  with_line (script.Down c k) items is h = ((tt, tt), h)
  with_line (script.Up c k) items is h = ((tt, tt), h)
  with_line (script.Show c) items is h = h
  with_line (script.Post c class payload) items is h = absurd is
  with_line (script.ClientPost c class payload) items is h = absurd is
  with_line (script.Scan c) items is h = absurd is
  with_line (script.Raw c bytes) items is h = absurd is
  with_line (script.Move c m) items is h = absurd is
  with_line script.Tick items is h = absurd is
  with_line script.World items is h = absurd is

  abbrev one_more : List ℕ → List OwnItem → Bool → List OwnItem
  one_more v items b = if b then items else Line (script.Post t.config.client Guaranteed v) ∷ items

  with_post : (v : List ℕ) (items : List OwnItem) (b : Bool) → IsPayload v → Fine items → Fine (one_more v items b)
  with_post v items true fits h = h
  with_post v items false fits h = ((tt, fits), h)

  with_posts : (vs : List (List ℕ)) (items : List OwnItem) → AllByRecursion IsPayload vs → Fine items → Fine (posting t vs items)
  with_posts [] items fits h = h
  with_posts (v ∷ vs) items fits h =
      with_posts vs (one_more v items (is_stopped t items)) fits.1 (with_post v items (is_stopped t items) fits.0 h)

  -- the guaranteed events that were delivered at the relay
  abbrev pub came : List WatchEvent → List (List ℕ)
  came events = guaranteed_of (delivered_to (packets_in events))

  fine : (events : List WatchEvent) → AreSpectators events → AllByRecursion IsPayload (came events) → Fine (items_of t events)
  fine [] own fits = tt
  fine (Took p ∷ events) own fits =
      let both : AllByRecursion IsPayload (came events ++ news_by p events) = subst (AllByRecursion IsPayload) (delivers-more p events) fits in
      let before = fine events own (all_first IsPayload (came events) (news_by p events) both) in
      let hidden = with_scan (hidden_of (copy_at (Took p ∷ events)) (watched events)) [] [] (items_of t events) before in
      let writes = writes_of t.kinds (watched events) (copy_at events) (copy_at (Took p ∷ events)) in
      with_posts (news_by p events) (write_item t.kinds p events ∷ hide_item p events ∷ items_of t events)
      (all_last IsPayload (came events) (news_by p events) both)
      (subst (λ (c : Course). AreFine c.steps) (sym (wrote_course t writes (kept t (hide_item p events ∷ items_of t events)))) hidden)
  fine (Scans ∷ events) own fits = with_scan [] [] (shown_of t.kinds (copy_at events) (watched events)) (items_of t events) (fine events own fits)
  fine (Own line ∷ events) own fits = with_line line (items_of t events) own.0 (fine events own.1 fits)

  honest_of : (steps : List PairStep) → AreFine steps → IsHonest steps
  honest_of [] h = tt
  honest_of (step ∷ steps) h = ((h.0).0, honest_of steps h.1)

  fit_of : (steps : List PairStep) → AreFine steps → AllByRecursion StepFits steps
  fit_of [] h = tt
  fit_of (step ∷ steps) h = ((h.0).1, fit_of steps h.1)

  pub are_honest : (events : List WatchEvent) → AreSpectators events → AllByRecursion IsPayload (came events) → IsHonest (journal t (items_of t events))
  are_honest events own fits = honest_of (journal t (items_of t events)) (fine events own fits)

  pub are_fit : (events : List WatchEvent) → AreSpectators events → AllByRecursion IsPayload (came events)
      → AllByRecursion StepFits (journal t (items_of t events))
  are_fit events own fits = fit_of (journal t (items_of t events)) (fine events own fits)
