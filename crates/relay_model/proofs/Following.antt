-- What a relay tells a spectator's server is an own list: each item may follow on those before it.
use Rattle.std.proofs.Common.{◌≡◌, ◌∙◌, ℕ, ◌+◌, ◌*◌, ◌<◌, ◌≤◌, Bool, true, false, List, [], ◌∷◌, length, map, Option, Some, None, if◌then◌else◌, is_some, refl, sym, ap, subst, arith, append-nil}
use Rattle.std.specs.Prelude.{slice_get}
use Rattle.std.specs.List.{AllByRecursion, filter_map, flat_map}
use Rattle.std.specs.Option.{option_map}
use Rattle.std.proofs.lemmas.List.Sums.{count_by-le-length}
use Rattle.tn_types.specs.declared.choices.Class.TheVariants.{Guaranteed}
use Rattle.tn_types.specs.declared.limits.TheConstants.{MAX_SLOTS, MAX_SHOWS}
use Rattle.quantised_fields.specs.declared.kind.Kind.{Kind}
use Rattle.quantised_fields.specs.Kinds.{table_fault}
use Rattle.ghost_model.specs.Words.{upto}
use Rattle.ghost_masks.specs.Plan.{fields_of}
use Rattle.ghost_client.specs.declared.copy.GhostCopy.{GhostCopy}
use Rattle.stream_manager.specs.Limits.{Terms}
use Rattle.pair_core.specs.History.{PairStep, Post}
use Rattle.pair_steps.specs.Steps.{traits_in}
use Rattle.match_script.specs.declared.types.BodyLine.{BodyLine}
use Rattle.match_script.specs.declared.types.BodyLine.TheVariants as script
use Rattle.own_lists.specs.Own.{OwnShow, OwnWrite, OwnItem, Line, Scan, Tick}
use Rattle.own_lists.specs.Course.{Course, onto, hide_step}
use Rattle.own_lists.specs.Kept.{kept, journal}
use Rattle.own_lists.specs.Conditions.{MeetEach, HasValues, IsOwnWrite, AreOwn}
use Rattle.own_lists.proofs.KeptValues.{wrote_course}
use Rattle.own_lists.proofs.Meeting.{scan_journal}
use Rattle.own_lists.proofs.ScanFacts.{all_on}
use Rattle.relay_model.specs.Watching.{WatchEvent, Took, Scans, Own, Watched, copy_at, is_unwatched, all_watched, watched, left_watched}
use Rattle.relay_model.specs.Items.{show_of, shown_of, hidden_of, is_changed, shown_at, write_of, writes_between, writes_of, news_by, is_stopped, posting, hide_item, write_item, items_of}
use Rattle.relay_model.specs.Laws.{IsCopy, IsChange, AreCopies, IsSpectators, AreSpectators, ItemsMayFollow}
use Rattle.relay_model.proofs.Mapped.{all_mapped, below_upto}
use Rattle.relay_model.proofs.Stretches.{Watches, same_steps, meet_hides, hides_apart, hides_shown, leaves}
use Rattle.relay_model.proofs.Shown.{length-upto, all_met, all_shown}
use Rattle.relay_model.proofs.Written.{shows_field, shows_values}

-- ---- copies, and how many periods there are

module _ (kinds : List Kind) where
  abbrev Fit : (ℕ → Option GhostCopy) → Type 0
  Fit copies = (slot : ℕ) (copy : GhostCopy) → copies slot ≡ Some copy → IsCopy kinds copy

  abbrev Within : (ℕ → Option GhostCopy) → Type 0
  Within copies = (slot : ℕ) → MAX_SLOTS ≤ slot → copies slot ≡ None

  copies_fit : (events : List WatchEvent) → AreCopies kinds events → Fit (copy_at events) × Within (copy_at events)
  copies_fit [] c = (λ slot copy e. absurd (cc), λ slot le. refl)
  copies_fit (Took p ∷ events) c = ((c.0).fits, (c.0).within)
  copies_fit (Scans ∷ events) c = copies_fit events c
  copies_fit (Own line ∷ events) c = copies_fit events c

pub few_shows : (events : List WatchEvent) → (watched events).shows ≤ MAX_SLOTS * length events
few_shows [] = omega arith
few_shows (Took p ∷ events) = let rest = few_shows events in omega (arith, rest)
few_shows (Scans ∷ events) =
    let rest = few_shows events in
    let some = count_by-le-length (is_unwatched (copy_at events) (watched events)) (upto MAX_SLOTS) in
    let long = length-upto MAX_SLOTS in
    omega (arith, rest, some, long)
few_shows (Own line ∷ events) = let rest = few_shows events in omega (arith, rest)

all_flat : {Y : Type 0} (P : Y → Type 0) (f : ℕ → List Y) → ((x : ℕ) → AllByRecursion P (f x)) → (xs : List ℕ) → AllByRecursion P (flat_map f xs)
all_flat P f each [] = tt
all_flat P f each (x ∷ xs) = all_on P (f x) (flat_map f xs) (each x) (all_flat P f each xs)

copy_same : (a b : GhostCopy) → ◌≡◌ {A = Option GhostCopy} (Some a) (Some b) → a ≡ b
copy_same a b e = cc (e)

module _ (t : Terms) (table : table_fault t.kinds ≡ None) where
  -- ---- posts

  module _ (w : Watched) (copies : ℕ → Option GhostCopy) where
    pub record Holds (items : List OwnItem) : Type 0 where
      pub own : AreOwn t items
      pub watches : Watches (journal t items) w copies

    post_holds : (payload : List ℕ) (items : List OwnItem) (b : Bool) → Holds items
        → Holds (if b then items else Line (script.Post t.config.client Guaranteed payload) ∷ items)
    post_holds payload items true h = h
    post_holds payload items false h = record {
      own = (tt, h.own);
      watches = same_steps (journal t items) (Post Guaranteed payload ∷ journal t items) w copies refl (λ n. refl) (λ n. refl) h.watches;
    }

    posts_hold : (payloads : List (List ℕ)) (items : List OwnItem) → Holds items → Holds (posting t payloads items)
    posts_hold [] items h = h
    posts_hold (payload ∷ payloads) items h =
        posts_hold payloads (if is_stopped t items then items else Line (script.Post t.config.client Guaranteed payload) ∷ items)
        (post_holds payload items (is_stopped t items) h)

  -- ---- a packet

  module _ (items : List OwnItem) (w : Watched) (old new : ℕ → Option GhostCopy) (h : Holds w old items) (c : IsChange t.kinds old new) where
    abbrev hide : OwnItem
    hide = Scan (hidden_of new w) [] []

    abbrev write : OwnItem
    write = Tick (writes_of t.kinds w old new) 0

    hides_met : MeetEach t (map hide_step (hidden_of new w)) (journal t items)
    hides_met =
        meet_hides t (hidden_of new w) (journal t items) (hides_apart t.kinds (journal t items) w old new h.watches c)
        (hides_shown t.kinds (journal t items) w old new h.watches c)

    steps_hidden : journal t (hide ∷ items) ≡ onto (map hide_step (hidden_of new w)) (journal t items)
    steps_hidden =
        scan_journal (hidden_of new w) [] [] (kept t items)
        ∙ ap (λ (l : List PairStep). onto l (journal t items)) (append-nil (map hide_step (hidden_of new w)))

    hidden_holds : Holds (left_watched new w) new (hide ∷ items)
    hidden_holds = record {
      own = (
        record {
          steps = subst (λ (l : List PairStep). MeetEach t l (journal t items)) (sym (append-nil (map hide_step (hidden_of new w)))) hides_met;
          values = tt;
        },
        h.own,
      );
      watches = subst (λ (steps : List PairStep). Watches steps (left_watched new w) new) (sym steps_hidden)
          (leaves t.kinds (journal t items) w old new h.watches c);
    }

    abbrev steps : List PairStep
    steps = journal t (hide ∷ items)

    module _ (slot n : ℕ) (a b : GhostCopy) (watch : w.period slot ≡ Some n) (is : new slot ≡ Some b) where
      still : (left_watched new w).period slot ≡ Some n
      still = ap (λ (o : Option GhostCopy). if is_some o then w.period slot else None) is ∙ watch

      one_write : (f : ℕ) → f < length b.levels → IsOwnWrite t steps (record { n = n; field = f; value = shown_at t.kinds b f })
      one_write f lt =
          let o = hidden_holds.watches.each slot n still in
          let same : o.copy ≡ b = copy_same o.copy b (sym o.there ∙ is) in
          let kind : (traits_in steps n).kind ≡ b.kind = o.kind ∙ ap (λ (x : GhostCopy). x.kind) same in
          let shown = shows_field t.kinds table b (c.fits slot b is).range f lt in
          record {
            shown = o.shown;
            up = o.up;
            spec = shown.spec;
            field = ap (λ k. slice_get (fields_of t.kinds k) f) kind ∙ shown.field;
            least = shown.value.least;
            most = shown.value.most;
          }

      some_write : (f : ℕ) (y : OwnWrite) → f < length b.levels → write_of t.kinds n a b f ≡ Some y → IsOwnWrite t steps y
      some_write f y lt = by (is_changed a b f)
        where
          given : (x z : OwnWrite) → ◌≡◌ {A = Option OwnWrite} (Some x) (Some z) → x ≡ z
          given x z e = cc (e)

          by : (changed : Bool) → (if changed then Some (record { n = n; field = f; value = shown_at t.kinds b f }) else None) ≡ Some y → IsOwnWrite t steps y
          by true e = subst (IsOwnWrite t steps) (given _ y e) (one_write f lt)
          by false e = absurd (cc)

      pub slot_writes : AllByRecursion (IsOwnWrite t steps) (filter_map (write_of t.kinds n a b) (upto (length b.levels)))
      slot_writes =
          all_mapped (write_of t.kinds n a b) (λ f. f < length b.levels) (IsOwnWrite t steps) some_write (upto (length b.levels)) (below_upto (length b.levels))

    writes_at : (slot : ℕ) → AllByRecursion (IsOwnWrite t steps) (writes_between t.kinds (w.period slot) (old slot) (new slot))
    writes_at slot = by (w.period slot) refl (old slot) (new slot) refl
      where
        by : (p : Option ℕ) → w.period slot ≡ p → (o : Option GhostCopy) (q : Option GhostCopy) → new slot ≡ q
            → AllByRecursion (IsOwnWrite t steps) (writes_between t.kinds p o q)
        by None e o q f = tt
        by (Some n) e None q f = tt
        by (Some n) e (Some a) None f = tt
        by (Some n) e (Some a) (Some b) f = slot_writes slot n a b e f

    steps_written : journal t (write ∷ hide ∷ items) ≡ steps
    steps_written = ap (λ (k : Course). k.steps) (wrote_course t (writes_of t.kinds w old new) (kept t (hide ∷ items)))

    pub written_holds : Holds (left_watched new w) new (write ∷ hide ∷ items)
    written_holds = record {
      own = (
        record {
          of_periods = all_flat (IsOwnWrite t steps) (λ slot. writes_between t.kinds (w.period slot) (old slot) (new slot)) writes_at (upto MAX_SLOTS);
          one = omega arith;
          waits = omega arith;
        },
        hidden_holds.own,
      );
      watches = subst (λ (l : List PairStep). Watches l (left_watched new w) new) (sym steps_written) hidden_holds.watches;
    }

  -- ---- a scan

  module _ (items : List OwnItem) (w : Watched) (copies : ℕ → Option GhostCopy) (h : Holds w copies items) (fit : Fit t.kinds copies) (within : Within t.kinds copies)
      (room : w.shows + MAX_SLOTS < MAX_SHOWS) where
    show_values : (slot : ℕ) (s : OwnShow) → slot < MAX_SLOTS → (if is_unwatched copies w slot then option_map (show_of t.kinds) (copies slot) else None) ≡ Some s → HasValues t s
    show_values slot s lt = by (is_unwatched copies w slot) (copies slot) refl
      where
        given : (x z : OwnShow) → ◌≡◌ {A = Option OwnShow} (Some x) (Some z) → x ≡ z
        given x z e = cc (e)

        by : (b : Bool) (o : Option GhostCopy) → copies slot ≡ o → (if b then option_map (show_of t.kinds) o else None) ≡ Some s → HasValues t s
        by false o is e = absurd (cc)
        by true None is e = absurd (cc)
        by true (Some copy) is e = subst (HasValues t) (given _ s e) (shows_values t.kinds table copy (fit slot copy is).range)

    pub shown_holds : Holds (all_watched copies w) copies (Scan [] [] (shown_of t.kinds copies w) ∷ items)
    shown_holds = record {
      own = (
        record {
          steps = all_met t (journal t items) w copies fit room within h.watches;
          values = all_mapped (λ slot. if is_unwatched copies w slot then option_map (show_of t.kinds) (copies slot) else None) (λ s. s < MAX_SLOTS) (HasValues t) show_values (upto MAX_SLOTS) (below_upto MAX_SLOTS);
        },
        h.own,
      );
      watches = subst (λ (l : List PairStep). Watches l (all_watched copies w) copies) (sym (scan_journal [] [] (shown_of t.kinds copies w) (kept t items)))
          (all_shown t (journal t items) w copies fit room within h.watches);
    }

  -- ---- another line

  line_holds : (line : BodyLine) → IsSpectators line → (items : List OwnItem) (w : Watched) (copies : ℕ → Option GhostCopy) → Holds w copies items
      → Holds w copies (Line line ∷ items)
  line_holds script.Tick is items w copies h = absurd is
  line_holds (script.Scan n) is items w copies h = absurd is
  line_holds (script.Post n class v) is items w copies h = absurd is
  line_holds (script.ClientPost n class v) is items w copies h = absurd is
  line_holds (script.Raw n bytes) is items w copies h = absurd is
  line_holds (script.Move n m) is items w copies h = absurd is
  line_holds script.World is items w copies h = absurd is
  line_holds (script.Pack n) is items w copies h =
      record { own = (tt, h.own); watches = same_steps (journal t items) _ w copies refl (λ m. refl) (λ m. refl) h.watches }
  line_holds (script.ClientPack n) is items w copies h =
      record { own = (tt, h.own); watches = same_steps (journal t items) _ w copies refl (λ m. refl) (λ m. refl) h.watches }
  line_holds (script.Down n k) is items w copies h =
      record { own = (tt, h.own); watches = same_steps (journal t items) _ w copies refl (λ m. refl) (λ m. refl) h.watches }
  line_holds (script.Up n k) is items w copies h =
      record { own = (tt, h.own); watches = same_steps (journal t items) _ w copies refl (λ m. refl) (λ m. refl) h.watches }
  line_holds (script.Show n) is items w copies h = record { own = (tt, h.own); watches = h.watches }

  -- ---- all events

  nothing : Holds (watched []) (copy_at []) []
  unfolding upto
  nothing = record {
    own = tt;
    watches = record {
      shows = refl;
      each = λ slot n e. absurd (cc);
      apart = λ s r n e f. absurd (cc);
      all = λ n lt up. absurd (omega (arith, lt));
      later = λ n le. refl;
    };
  }

  pub follow : (events : List WatchEvent) → AreCopies t.kinds events → AreSpectators events → MAX_SLOTS * length events < MAX_SHOWS
      → Holds (watched events) (copy_at events) (items_of t events)
  follow [] c s few = nothing
  follow (Took p ∷ events) c s few =
      let h = follow events c.1 s (omega (arith, few)) in
      posts_hold (watched (Took p ∷ events)) (copy_at (Took p ∷ events)) (news_by p events) (write_item t.kinds p events ∷ hide_item p events ∷ items_of t events)
      (written_holds (items_of t events) (watched events) (copy_at events) (copy_at (Took p ∷ events)) h c.0)
  follow (Scans ∷ events) c s few =
      let h = follow events c s (omega (arith, few)) in
      let copies = copies_fit t.kinds events c in
      let shows = few_shows events in
      shown_holds (items_of t events) (watched events) (copy_at events) h copies.0 copies.1 (omega (arith, few, shows))
  follow (Own line ∷ events) c s few =
      line_holds line s.0 (items_of t events) (watched events) (copy_at events) (follow events c s.1 (omega (arith, few)))

pub items_may_follow : ItemsMayFollow
items_may_follow t events table c s few = (follow t table events c s few).own
