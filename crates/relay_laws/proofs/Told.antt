-- What a relay tells a spectator's server are values that its copies showed.
use Rattle.std.proofs.Common.{◌≡◌, ℕ, ℤ, pos, ◌+◌, ◌<◌, ◌==◌, Bool, true, false, cond, List, [], ◌∷◌, ◌++◌, length, map, Option, Some, None, refl, sym, ◌∙◌, ap, subst, arith, inl, inr, if◌then◌else◌, get_or-set_same, get_or-set_other, length-set}
use Rattle.std.specs.Prelude.{slice_index_or, slice_set, is_some, filter_map}
use Rattle.std.specs.List.{AllByRecursion, flat_map, cons_option}
use Rattle.std.proofs.lemmas.Bool.{eqb-true, eq-eqb, cases_eq}
use Rattle.std.proofs.lemmas.List.FromFn.{length-map-range_with_len, get_or-map-range_with_len}
use Rattle.tn_types.specs.declared.choices.Class.TheVariants.{Guaranteed}
use Rattle.tn_types.specs.declared.limits.TheConstants.{MAX_SLOTS}
use Rattle.quantised_fields.specs.declared.kind.Kind.{Kind}
use Rattle.wire_format.specs.declared.server.ServerPacket.{ServerPacket}
use Rattle.ghost_model.specs.Words.{upto}
use Rattle.ghost_client.specs.declared.copy.GhostCopy.{GhostCopy}
use Rattle.stream_manager.specs.Limits.{Terms}
use Rattle.pair_core.specs.History.{PairStep}
use Rattle.pair_steps.specs.Steps.{shows_in}
use Rattle.conn_packing.proofs.Lists.{all-append}
use Rattle.match_script.specs.declared.types.BodyLine.{BodyLine}
use Rattle.match_script.specs.declared.types.BodyLine.TheVariants as script
use Rattle.own_lists.specs.Own.{OwnWrite, OwnItem, Line}
use Rattle.own_lists.specs.Course.{Course, onto, hide_step}
use Rattle.own_lists.specs.Kept.{Kept, kept, journal, begins, wrote, wrote_all}
use Rattle.own_lists.proofs.KeptValues.{wrote_course}
use Rattle.relay_model.specs.Watching.{WatchEvent, Took, Scans, Own, watched, copy_at}
use Rattle.relay_model.specs.Items.{shown_at, values_of, show_of, write_of, writes_between, writes_of, hidden_of, is_changed, hide_item, write_item, news_by, posting, is_stopped, items_of}
use Rattle.relay_model.specs.Laws.{AreSpectators, IsSpectators}
use Rattle.relay_laws.proofs.Scanning.{up_to, scanned_to}

-- at some place, the relay's copy in the slot that period n watched showed this value of the field
pub record WasShown (kinds : List Kind) (events : List WatchEvent) (n f : ℕ) (value : ℤ) : Type 0 where
  pub later : List WatchEvent
  pub earlier : List WatchEvent
  pub whole : later ++ earlier ≡ events
  pub slot : ℕ
  pub watches : (watched earlier).period slot ≡ Some n
  pub copy : GhostCopy
  pub there : copy_at earlier slot ≡ Some copy
  pub shows : value ≡ shown_at kinds copy f

module _ (t : Terms) where
  abbrev pub Shown : List WatchEvent → ℕ → ℕ → ℤ → Type 0
  Shown events n f value = WasShown t.kinds events n f value

  pub one_later : (event : WatchEvent) (events : List WatchEvent) (n f : ℕ) (value : ℤ) → Shown events n f value → Shown (event ∷ events) n f value
  one_later event events n f value h = record {
    later = event ∷ h.later;
    earlier = h.earlier;
    whole = ap (λ (l : List WatchEvent). event ∷ l) h.whole;
    slot = h.slot;
    watches = h.watches;
    copy = h.copy;
    there = h.there;
    shows = h.shows;
  }

  -- the values of each period
  abbrev pub AllShown : List WatchEvent → (ℕ → List ℤ) → ℕ → Type 0
  AllShown events values count =
      (n f : ℕ) → n < count → f < length (values n) → Shown events n f (slice_index_or (values n) f (pos 0))

  pub record Tells (events : List WatchEvent) (k : Kept) : Type 0 where
    pub many : shows_in k.course.steps ≡ (watched events).shows
    pub all : AllShown events k.values (shows_in k.course.steps)

  -- ---- a scan

  abbrev Now : List WatchEvent → ℕ → ℕ → GhostCopy → Type 0
  Now events n slot copy = ((watched events).period slot ≡ Some n) × (copy_at events slot ≡ Some copy)

  begins_shown : (events : List WatchEvent) (slot : ℕ) (copy : GhostCopy) (k : Kept) → Now events (shows_in k.course.steps) slot copy
      → AllShown events k.values (shows_in k.course.steps)
      → AllShown events (begins (show_of t.kinds copy) k).values (shows_in k.course.steps + 1)
  begins_shown events slot copy k now all n f lt within = go (n == shows_in k.course.steps) refl within
    where
      go : (b : Bool) → (n == shows_in k.course.steps) ≡ b → f < length (cond b (values_of t.kinds copy) (k.values n))
          → Shown events n f (slice_index_or (cond b (values_of t.kinds copy) (k.values n)) f (pos 0))
      go true e within =
          let same : n ≡ shows_in k.course.steps = eqb-true n (shows_in k.course.steps) e in
          let below : f < length copy.levels = omega (arith, within, length-map-range_with_len (shown_at t.kinds copy) 0 (length copy.levels)) in
          record {
            later = [];
            earlier = events;
            whole = refl;
            slot = slot;
            watches = now.0 ∙ ap (λ (m : ℕ). Some m) (sym same);
            copy = copy;
            there = now.1;
            shows = get_or-map-range_with_len (shown_at t.kinds copy) 0 (length copy.levels) f f (pos 0) below (omega arith);
          }
      go false e within = all n f (sooner n (shows_in k.course.steps) lt e) within
        where
          sooner : (n m : ℕ) → n < m + 1 → (n == m) ≡ false → n < m
          sooner n m lt other = elim (cases_eq n m) [
            | inl same ↦ absurd (let never : true ≡ false = sym (eq-eqb n m same) ∙ other in cc)
            | inr apart ↦ omega (arith, lt, apart)
          ]

  module _ (events : List WatchEvent) (k0 : Kept) (before : Tells events k0) where
    -- what was shown so far, as it is seen behind the scan
    abbrev AreShown : Kept → Type 0
    AreShown k = AllShown (Scans ∷ events) k.values (shows_in k.course.steps)

    scan_tells : Tells (Scans ∷ events) (up_to t.kinds events k0 AreShown MAX_SLOTS)
    scan_tells =
        let all = scanned_to t.kinds events k0 AreShown (λ slot copy k watch is shown. begins_shown (Scans ∷ events) slot copy k (watch, is) shown) before.many
        (λ n f lt within. one_later Scans events n f (slice_index_or (k0.values n) f (pos 0)) (before.all n f lt within)) MAX_SLOTS in
        record { many = all.many; all = all.all }

  -- ---- a packet

  abbrev IsShownWrite : List WatchEvent → OwnWrite → Type 0
  IsShownWrite events w = Shown events w.n w.field w.value

  wrote_shown : (events : List WatchEvent) (w : OwnWrite) (values : ℕ → List ℤ) (count : ℕ) → IsShownWrite events w → AllShown events values count
      → AllShown events (λ m. cond (m == w.n) (slice_set (values w.n) w.field w.value) (values m)) count
  wrote_shown events w values count shown all n f lt within = go (n == w.n) refl within
    where
      own : n ≡ w.n → f < length (slice_set (values w.n) w.field w.value)
          → Shown events n f (slice_index_or (slice_set (values w.n) w.field w.value) f (pos 0))
      own same within =
          let below : f < length (values w.n) = omega (arith, within, length-set (values w.n) w.field w.value) in
          elim (cases_eq f w.field) [
            | inl at ↦
                subst (λ (m : ℕ). Shown events m f (slice_index_or (slice_set (values w.n) w.field w.value) f (pos 0))) (sym same)
                (subst (λ (v : ℤ). Shown events w.n f v)
                (sym (ap (λ (i : ℕ). slice_index_or (slice_set (values w.n) w.field w.value) i (pos 0)) at
                ∙ get_or-set_same (values w.n) w.field w.value (pos 0) (omega (arith, below, at))))
                (subst (λ (i : ℕ). Shown events w.n i w.value) (sym at) shown))
            | inr apart ↦
                subst (λ (v : ℤ). Shown events n f v)
                (ap (λ (m : ℕ). slice_index_or (values m) f (pos 0)) same ∙ sym (get_or-set_other (values w.n) w.field f w.value (pos 0) apart))
                (all n f lt (subst (λ (m : ℕ). f < length (values m)) (sym same) below))
          ]

      go : (b : Bool) → (n == w.n) ≡ b → f < length (cond b (slice_set (values w.n) w.field w.value) (values n))
          → Shown events n f (slice_index_or (cond b (slice_set (values w.n) w.field w.value) (values n)) f (pos 0))
      go true e within = own (eqb-true n w.n e) within
      go false e within = all n f lt within

  wrote_all_shown : (events : List WatchEvent) (writes : List OwnWrite) (k : Kept) (count : ℕ) → AllByRecursion (IsShownWrite events) writes
      → AllShown events k.values count → AllShown events (wrote_all writes k).values count
  wrote_all_shown events [] k count shown all = all
  wrote_all_shown events (w ∷ writes) k count shown all =
      wrote_all_shown events writes (wrote w k) count shown.1 (wrote_shown events w k.values count shown.0 all)

  pub hides_many : (hides : List ℕ) (steps : List PairStep) → shows_in (onto (map hide_step hides ++ []) steps) ≡ shows_in steps
  hides_many [] steps = refl
  hides_many (n ∷ hides) steps = hides_many hides (hide_step n ∷ steps)

  module _ (p : ServerPacket) (events : List WatchEvent) where
    abbrev next : List WatchEvent
    next = Took p ∷ events

    -- the writes of one slot
    between : (slot n : ℕ) → (watched events).period slot ≡ Some n → (old new : GhostCopy) → copy_at next slot ≡ Some new → (fs : List ℕ)
        → AllByRecursion (IsShownWrite next) (filter_map (write_of t.kinds n old new) fs)
    between slot n watches old new there [] = tt
    between slot n watches old new there (f ∷ fs) = go (is_changed old new f) (between slot n watches old new there fs)
      where
        still : (watched next).period slot ≡ Some n
        still = ap (λ (o : Option GhostCopy). if is_some o then (watched events).period slot else None) there ∙ watches

        go : (b : Bool) → AllByRecursion (IsShownWrite next) (filter_map (write_of t.kinds n old new) fs)
            → AllByRecursion (IsShownWrite next)
            (cons_option (if b then Some (record { n = n; field = f; value = shown_at t.kinds new f }) else None) (filter_map (write_of t.kinds n old new) fs))
        go false rest = rest
        go true rest = (record { later = []; earlier = next; whole = refl; slot = slot; watches = still; copy = new; there = there; shows = refl }, rest)

    of_slot : (slot : ℕ) (period : Option ℕ) (old new : Option GhostCopy) → (watched events).period slot ≡ period → copy_at next slot ≡ new
        → AllByRecursion (IsShownWrite next) (writes_between t.kinds period old new)
    of_slot slot (Some n) (Some old) (Some new) watches there = between slot n watches old new there (upto (length new.levels))
    of_slot slot (Some n) (Some old) None watches there = tt
    of_slot slot (Some n) None new watches there = tt
    of_slot slot None old new watches there = tt

    of_slots : (slots : List ℕ)
        → AllByRecursion (IsShownWrite next)
        (flat_map (λ slot. writes_between t.kinds ((watched events).period slot) (copy_at events slot) (copy_at next slot)) slots)
    of_slots [] = tt
    of_slots (slot ∷ slots) =
        all-append (IsShownWrite next) (writes_between t.kinds ((watched events).period slot) (copy_at events slot) (copy_at next slot))
        (flat_map (λ slot. writes_between t.kinds ((watched events).period slot) (copy_at events slot) (copy_at next slot)) slots)
        (of_slot slot ((watched events).period slot) (copy_at events slot) (copy_at next slot) refl refl) (of_slots slots)

    posted : (vs : List (List ℕ)) (items : List OwnItem) → Tells next (kept t items) → Tells next (kept t (posting t vs items))
    posted [] items h = h
    posted (v ∷ vs) items h =
        posted vs (if is_stopped t items then items else Line (script.Post t.config.client Guaranteed v) ∷ items) (go (is_stopped t items))
      where
        go : (b : Bool) → Tells next (kept t (if b then items else Line (script.Post t.config.client Guaranteed v) ∷ items))
        go true = h
        go false = record { many = h.many; all = h.all }

    took_tells : (items : List OwnItem) → Tells events (kept t items)
        → Tells next (kept t (write_item t.kinds p events ∷ hide_item p events ∷ items))
    took_tells items h =
        let hidden = kept t (hide_item p events ∷ items) in
        let writes = writes_of t.kinds (watched events) (copy_at events) (copy_at next) in
        let same : shows_in hidden.course.steps ≡ shows_in (journal t items) = hides_many (hidden_of (copy_at next) (watched events)) (journal t items) in
        let after : shows_in (wrote_all writes hidden).course.steps ≡ shows_in hidden.course.steps = ap (λ (c : Course). shows_in c.steps) (wrote_course t writes hidden) in
        record {
          many = after ∙ same ∙ h.many;
          all = subst (AllShown next (wrote_all writes hidden).values) (sym (after ∙ same))
              (wrote_all_shown next writes hidden (shows_in (journal t items)) (of_slots (upto MAX_SLOTS))
              (λ n f lt within. one_later (Took p) events n f (slice_index_or ((kept t items).values n) f (pos 0)) (h.all n f lt within)));
        }

  -- ---- a line of the spectator

  line_tells : (line : BodyLine) (events : List WatchEvent) (items : List OwnItem) → IsSpectators line → Tells events (kept t items)
      → Tells (Own line ∷ events) (kept t (Line line ∷ items))
  line_tells line events items is h = go line is
    where
      more : AllShown (Own line ∷ events) (kept t items).values (shows_in (journal t items))
      more n f lt within = one_later (Own line) events n f (slice_index_or ((kept t items).values n) f (pos 0)) (h.all n f lt within)

      go : (own : BodyLine) → IsSpectators own → Tells (Own line ∷ events) (kept t (Line own ∷ items))
      go (script.Pack c) is = record { many = h.many; all = more }
      go (script.ClientPack c) is = record { many = h.many; all = more }
      go (script.Down c k) is = record { many = h.many; all = more }
      go (script.Up c k) is = record { many = h.many; all = more }
      go (script.Show c) is = record { many = h.many; all = more }
      go (script.Post c class payload) is = absurd is
      go (script.ClientPost c class payload) is = absurd is
      go (script.Scan c) is = absurd is
      go (script.Raw c bytes) is = absurd is
      go (script.Move c m) is = absurd is
      go script.Tick is = absurd is
      go script.World is = absurd is

  pub relay_tells : (events : List WatchEvent) → AreSpectators events → Tells events (kept t (items_of t events))
  relay_tells [] own = record { many = refl; all = λ n f lt within. absurd (omega (arith, lt)) }
  relay_tells (Took p ∷ events) own =
      posted p events (news_by p events) (write_item t.kinds p events ∷ hide_item p events ∷ items_of t events)
      (took_tells p events (items_of t events) (relay_tells events own))
  relay_tells (Scans ∷ events) own = scan_tells events (kept t (items_of t events)) (relay_tells events own)
  relay_tells (Own line ∷ events) own = line_tells line events (items_of t events) own.0 (relay_tells events own.1)
