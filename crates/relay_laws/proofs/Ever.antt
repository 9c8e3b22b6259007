-- What a spectator's packs read are values that the relay's copies showed, each in the slot that the period watched then.
use Rattle.std.proofs.Common.{◌≡◌, ℕ, ℤ, pos, ◌<◌, Bool, true, false, List, [], ◌∷◌, ◌++◌, length, None, refl, sym, ap, subst, arith, if◌then◌else◌, inl, inr, ◌⊎◌}
use Rattle.std.specs.Prelude.{slice_index_or}
use Rattle.tn_types.specs.declared.choices.Class.TheVariants.{Guaranteed}
use Rattle.quantised_fields.specs.Kinds.{table_fault}
use Rattle.stream_manager.specs.Limits.{Terms}
use Rattle.pair_copies.specs.Reads.{HasRead, WasRead}
use Rattle.pair_steps.specs.Steps.{shows_in}
use Rattle.match_script.specs.declared.types.BodyLine.TheVariants as script
use Rattle.own_lists.specs.Own.{OwnItem, Line}
use Rattle.own_lists.specs.Kept.{kept, journal, reads_of}
use Rattle.own_lists.specs.Conditions.{AreOwn}
use Rattle.own_lists.proofs.Meeting.{are_met}
use Rattle.own_lists.proofs.KeptValues.{own_fields, is_kept}
use Rattle.own_lists.proofs.Standing.{IsShownIn}
use Rattle.match_laws.proofs.ValuesHad.{values-many}
use Rattle.match_laws.proofs.ValuesRead.{pack_reads, item_read}
use Rattle.relay_model.specs.Watching.{WatchEvent, Took, Scans, Own, watched, copy_at}
use Rattle.relay_model.specs.Items.{hidden_of, hide_item, write_item, news_by, posting, is_stopped, items_of}
use Rattle.relay_model.specs.Laws.{AreSpectators}
use Rattle.relay_laws.proofs.Told.{WasShown, AllShown, one_later, hides_many, relay_tells}

-- ---- what was read was the newest value then

-- at some place in the items, this was the newest value of a field of a period that was shown there
record WasKept (t : Terms) (items : List OwnItem) (n f : ℕ) (value : ℤ) : Type 0 where
  pub later : List OwnItem
  pub earlier : List OwnItem
  pub whole : later ++ earlier ≡ items
  pub shown : n < shows_in (journal t earlier)
  pub within : f < length ((kept t earlier).values n)
  pub newest : value ≡ slice_index_or ((kept t earlier).values n) f (pos 0)

module _ (t : Terms) (table : table_fault t.kinds ≡ None) (n f : ℕ) (value : ℤ) where
  many_values : (items : List OwnItem) → AreOwn t items → IsShownIn (journal t items) n → f < length (own_fields t (journal t items) n)
      → f < length ((kept t items).values n)
  many_values items own up lt =
      let many = values-many (own_fields t (journal t items) n) ((kept t items).values n) ((is_kept t items own).periods n up.0 up.1).values in
      omega (arith, lt, many)

  now_kept : (item : OwnItem) (items : List OwnItem) → AreOwn t items → HasRead (reads_of t (kept t items)) n f value
      → WasKept t (item ∷ items) n f value
  now_kept item items own h =
      let r = pack_reads t (kept t items) table (are_met t table items own) (are_met t table (Line (script.Pack 0) ∷ items) (tt, own)) n f value h in
      record { later = item ∷ []; earlier = items; whole = refl; shown = r.up.0; within = many_values items own r.up r.field; newest = r.newest }

  later_kept : (item : OwnItem) (items : List OwnItem) → WasKept t items n f value → WasKept t (item ∷ items) n f value
  later_kept item items h = record {
    later = item ∷ h.later;
    earlier = h.earlier;
    whole = ap (λ (l : List OwnItem). item ∷ l) h.whole;
    shown = h.shown;
    within = h.within;
    newest = h.newest;
  }

  was_kept : (items : List OwnItem) → AreOwn t items → WasRead (journal t items) n f value → WasKept t items n f value
  was_kept [] own h = absurd h
  was_kept (item ∷ items) own h = go (λ before. was_kept items own.1 before) (item_read t n f value item (kept t items) h)
    where
      go : (WasRead (journal t items) n f value → WasKept t items n f value)
          → HasRead (reads_of t (kept t items)) n f value ⊎ WasRead (journal t items) n f value → WasKept t (item ∷ items) n f value
      go earlier (inl now) = now_kept item items own.1 now
      go earlier (inr before) = later_kept item items (earlier before)

-- ---- at each place in the items, the values are such

module _ (t : Terms) where
  abbrev At : List WatchEvent → List OwnItem → Type 0
  At events items = AllShown t events (kept t items).values (shows_in (journal t items))

  -- at each place in the items
  abbrev Ever : List WatchEvent → List OwnItem → Type 0
  Ever events [] = Unit {0}
  Ever events (item ∷ items) = At events (item ∷ items) × Ever events items

  at_later : (event : WatchEvent) (events : List WatchEvent) (items : List OwnItem) → At events items → At (event ∷ events) items
  at_later event events items h n f lt within =
      one_later t event events n f (slice_index_or ((kept t items).values n) f (pos 0)) (h n f lt within)

  ever_later : (event : WatchEvent) (events : List WatchEvent) (items : List OwnItem) → Ever events items → Ever (event ∷ events) items
  ever_later event events [] h = tt
  ever_later event events (item ∷ items) h = (at_later event events (item ∷ items) h.0, ever_later event events items h.1)

  -- the posts of a packet leave the values
  unposted : (events : List WatchEvent) (v : List ℕ) (items : List OwnItem) (b : Bool)
      → At events (if b then items else Line (script.Post t.config.client Guaranteed v) ∷ items) → At events items
  unposted events v items true h = h
  unposted events v items false h = h

  posts_back : (events : List WatchEvent) (vs : List (List ℕ)) (items : List OwnItem) → At events (posting t vs items) → At events items
  posts_back events [] items h = h
  posts_back events (v ∷ vs) items h =
      unposted events v items (is_stopped t items)
      (posts_back events vs (if is_stopped t items then items else Line (script.Post t.config.client Guaranteed v) ∷ items) h)

  one_post : (events : List WatchEvent) (v : List ℕ) (items : List OwnItem) (b : Bool) → At events items → Ever events items
      → Ever events (if b then items else Line (script.Post t.config.client Guaranteed v) ∷ items)
  one_post events v items true now ever = ever
  one_post events v items false now ever = (now, ever)

  posted_at : (events : List WatchEvent) (v : List ℕ) (items : List OwnItem) (b : Bool) → At events items
      → At events (if b then items else Line (script.Post t.config.client Guaranteed v) ∷ items)
  posted_at events v items true now = now
  posted_at events v items false now = now

  ever_posts : (events : List WatchEvent) (vs : List (List ℕ)) (items : List OwnItem) → At events items → Ever events items
      → Ever events (posting t vs items)
  ever_posts events [] items now ever = ever
  ever_posts events (v ∷ vs) items now ever =
      ever_posts events vs (if is_stopped t items then items else Line (script.Post t.config.client Guaranteed v) ∷ items)
      (posted_at events v items (is_stopped t items) now) (one_post events v items (is_stopped t items) now ever)

  ever_tells : (events : List WatchEvent) → AreSpectators events → Ever events (items_of t events)
  ever_tells [] own = tt
  ever_tells (Took p ∷ events) own =
      let items = items_of t events in
      let hidden = hide_item p events ∷ items in
      let written = write_item t.kinds p events ∷ hidden in
      let same : shows_in (journal t hidden) ≡ shows_in (journal t items) =
      hides_many t (hidden_of (copy_at (Took p ∷ events)) (watched events)) (journal t items) in
      let was : At events hidden = subst (AllShown t events (kept t items).values) (sym same) (relay_tells t events own).all in
      let now : At (Took p ∷ events) written = posts_back (Took p ∷ events) (news_by p events) written (relay_tells t (Took p ∷ events) own).all in
      ever_posts (Took p ∷ events) (news_by p events) written now
      (now, (at_later (Took p) events hidden was, ever_later (Took p) events items (ever_tells events own)))
  ever_tells (Scans ∷ events) own =
      ((relay_tells t (Scans ∷ events) own).all, ever_later Scans events (items_of t events) (ever_tells events own))
  ever_tells (Own line ∷ events) own =
      ((relay_tells t (Own line ∷ events) own).all, ever_later (Own line) events (items_of t events) (ever_tells events own.1))

  -- ---- at one place

  behind : (events : List WatchEvent) (later earlier : List OwnItem) → Ever events (later ++ earlier) → Ever events earlier
  behind events [] earlier h = h
  behind events (item ∷ later) earlier h = behind events later earlier h.1

  at_one : (events : List WatchEvent) (items : List OwnItem) → Ever events items → At events items
  at_one events [] h = λ n f lt within. absurd (omega (arith, lt))
  at_one events (item ∷ items) h = h.0

  kept_shown : (events : List WatchEvent) (n f : ℕ) (value : ℤ) → AreSpectators events → WasKept t (items_of t events) n f value
      → WasShown t.kinds events n f value
  kept_shown events n f value own h =
      subst (λ (v : ℤ). WasShown t.kinds events n f v) (sym h.newest)
      (at_one events h.earlier (behind events h.later h.earlier (subst (Ever events) (sym h.whole) (ever_tells events own))) n f h.shown h.within)

  pub read_shown : table_fault t.kinds ≡ None → (events : List WatchEvent) → AreSpectators events → AreOwn t (items_of t events) → (n f : ℕ) (value : ℤ)
      → WasRead (journal t (items_of t events)) n f value → WasShown t.kinds events n f value
  read_shown table events own may n f value h =
      kept_shown events n f value own (was_kept t table n f value (items_of t events) may h)
