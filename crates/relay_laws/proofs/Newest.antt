-- The newest values of a spectator's own list are those that the relay's copies show now, in the slots that its periods watch.
use Rattle.std.proofs.Common.{◌≡◌, ◌∙◌, ℕ, ℤ, pos, zero, suc, ◌+◌, ◌*◌, ◌<◌, ◌==◌, Bool, true, false, not, cond, List, [], ◌∷◌, ◌++◌, length, Option, Some, None, is_some, if◌then◌else◌, refl, sym, ap, subst, arith, inl, inr, ◌⊎◌, get_or-set_same, get_or-set_other, length-set}
use Rattle.std.specs.Prelude.{slice_get, slice_index_or, slice_set, filter_map, unwrap_or, option_map, option_and_then}
use Rattle.std.specs.List.{AllByRecursion, flat_map, cons_option}
use Rattle.std.proofs.lemmas.Bool.{eqb-true, eq-eqb, cases_eq}
use Rattle.std.proofs.lemmas.List.Elements.{filter_map-append}
use Rattle.std.proofs.lemmas.List.Concat.{flat_map-append}
use Rattle.std.proofs.lemmas.List.FromFn.{length-map-range_with_len, get_or-map-range_with_len}
use Rattle.std.proofs.lemmas.Option.{slice_get-get_or}
use Rattle.tn_types.specs.declared.choices.Class.TheVariants.{Guaranteed}
use Rattle.tn_types.specs.declared.limits.TheConstants.{MAX_SLOTS, MAX_SHOWS}
use Rattle.quantised_fields.specs.declared.kind.Kind.{Kind}
use Rattle.quantised_fields.specs.Kinds.{table_fault}
use Rattle.quantised_fields.specs.declared.field.FieldSpec.{FieldSpec}
use Rattle.quantised_fields.specs.Levels.{shown_of}
use Rattle.wire_format.specs.Ghosts.{AreLevels, widths}
use Rattle.conn_packing.proofs.Lists.{all-append}
use Rattle.ghost_model.specs.Words.{upto}
use Rattle.ghost_client.specs.declared.copy.GhostCopy.{GhostCopy}
use Rattle.stream_manager.specs.Limits.{Terms}
use Rattle.pair_steps.specs.Steps.{shows_in}
use Rattle.match_script.specs.declared.types.BodyLine.{BodyLine}
use Rattle.match_script.specs.declared.types.BodyLine.TheVariants as script
use Rattle.own_lists.specs.Own.{OwnWrite, OwnItem, Line}
use Rattle.own_lists.specs.Kept.{Kept, kept, begins, wrote, wrote_all}
use Rattle.relay_model.specs.Watching.{WatchEvent, Took, Scans, Own, Watched, left_watched, watched, copy_at}
use Rattle.relay_model.specs.Items.{shown_at, values_of, show_of, is_changed, write_of, writes_between, writes_of, hide_item, write_item, news_by, posting, is_stopped, items_of}
use Rattle.relay_model.specs.Laws.{IsCopy, IsChange, AreCopies, IsSpectators, AreSpectators}
use Rattle.relay_model.proofs.Following.{follow}
use Rattle.relay_laws.proofs.Scanning.{up_to, scanned_to}
use Rattle.relay_laws.proofs.Meeting.{kept_watch, fit_at}

-- ---- writes of one field

-- one of these is of this field of period n
Pending : List OwnWrite → ℕ → ℕ → Type 0
Pending [] n f = ⊥
Pending (w ∷ ws) n f = ((w.n ≡ n) × (w.field ≡ f)) ⊎ Pending ws n f

pend_left : (n f : ℕ) (xs ys : List OwnWrite) → Pending xs n f → Pending (xs ++ ys) n f
unfolding Pending
pend_left n f [] ys h = absurd h
pend_left n f (x ∷ xs) ys (inl here) = inl here
pend_left n f (x ∷ xs) ys (inr later) = inr (pend_left n f xs ys later)

pend_right : (n f : ℕ) (xs ys : List OwnWrite) → Pending ys n f → Pending (xs ++ ys) n f
unfolding Pending
pend_right n f [] ys h = h
pend_right n f (x ∷ xs) ys h = inr (pend_right n f xs ys h)

-- a number below the next one is below this one, or it
below_or : (f m : ℕ) → f < suc m → (f ≡ m) ⊎ (f < m)
below_or f m lt = elim (cases_eq f m) [
  | inl same ↦ inl same
  | inr apart ↦ inr (omega (arith, lt, apart))
]

pend_field : (kinds : List Kind) (a b : GhostCopy) (n f m : ℕ) → f < m → is_changed a b f ≡ true → Pending (filter_map (write_of kinds n a b) (upto m)) n f
unfolding upto Pending
pend_field kinds a b n f zero lt e = absurd (omega (arith, lt))
pend_field kinds a b n f (suc m) lt e =
    subst (λ (l : List OwnWrite). Pending l n f) (sym (filter_map-append (write_of kinds n a b) (upto m) (m ∷ [])))
    (by (λ below. pend_field kinds a b n f m below e) (below_or f m lt))
  where
    by : (f < m → Pending (filter_map (write_of kinds n a b) (upto m)) n f) → (f ≡ m) ⊎ (f < m) → Pending (filter_map (write_of kinds n a b) (upto m) ++ cons_option (write_of kinds n a b m) []) n f
    by rest (inr below) = pend_left n f (filter_map (write_of kinds n a b) (upto m)) (cons_option (write_of kinds n a b m) []) (rest below)
    by rest (inl same) =
        let some : write_of kinds n a b m ≡ Some (record { n = n; field = m; value = shown_at kinds b m }) =
        ap (λ (c : Bool). if c then Some (record { n = n; field = m; value = shown_at kinds b m }) else None) (ap (is_changed a b) (sym same) ∙ e) in
        pend_right n f (filter_map (write_of kinds n a b) (upto m)) (cons_option (write_of kinds n a b m) [])
        (subst (λ (o : Option OwnWrite). Pending (cons_option o []) n f) (sym some) (inl (refl, sym same)))

pend_slot : (g : ℕ → List OwnWrite) (n f at m : ℕ) → at < m → Pending (g at) n f → Pending (flat_map g (upto m)) n f
unfolding upto Pending
pend_slot g n f at zero lt h = absurd (omega (arith, lt))
pend_slot g n f at (suc m) lt h =
    subst (λ (l : List OwnWrite). Pending l n f) (sym (flat_map-append g (upto m) (m ∷ [])))
    (by (λ below. pend_slot g n f at m below h) (below_or at m lt))
  where
    by : (at < m → Pending (flat_map g (upto m)) n f) → (at ≡ m) ⊎ (at < m) → Pending (flat_map g (upto m) ++ (g m ++ [])) n f
    by rest (inr below) = pend_left n f (flat_map g (upto m)) (g m ++ []) (rest below)
    by rest (inl same) = pend_right n f (flat_map g (upto m)) (g m ++ []) (pend_left n f (g m) [] (subst (λ (x : ℕ). Pending (g x) n f) same h))

-- ---- what writes leave

-- where a field is written it is written so
abbrev Fits : ℕ → (ℕ → ℤ) → OwnWrite → Type 0
Fits n g w = w.n ≡ n → w.value ≡ g w.field

-- each field has this value, or is still to be written
record Going (n many : ℕ) (g : ℕ → ℤ) (ws : List OwnWrite) (vs : List ℤ) : Type 0 where
  long : length vs ≡ many
  each : (f : ℕ) → f < many → (slice_index_or vs f (pos 0) ≡ g f) ⊎ Pending ws n f

pub record Are (many : ℕ) (g : ℕ → ℤ) (vs : List ℤ) : Type 0 where
  pub long : length vs ≡ many
  pub each : (f : ℕ) → f < many → slice_index_or vs f (pos 0) ≡ g f

module _ (n many : ℕ) (g : ℕ → ℤ) where
  one_going : (w : OwnWrite) (ws : List OwnWrite) (values : ℕ → List ℤ) → Fits n g w → Going n many g (w ∷ ws) (values n)
      → Going n many g ws (cond (n == w.n) (slice_set (values w.n) w.field w.value) (values n))
  unfolding Pending
  one_going w ws values fits h = go (n == w.n) refl
    where
      go : (b : Bool) → (n == w.n) ≡ b → Going n many g ws (cond b (slice_set (values w.n) w.field w.value) (values n))
      go false e = record { long = h.long; each = λ f lt. by f (h.each f lt) }
        where
          by : (f : ℕ) → (slice_index_or (values n) f (pos 0) ≡ g f) ⊎ (((w.n ≡ n) × (w.field ≡ f)) ⊎ Pending ws n f)
              → (slice_index_or (values n) f (pos 0) ≡ g f) ⊎ Pending ws n f
          by f (inl e) = inl e
          by f (inr (inl here)) = absurd (let yes : (n == w.n) ≡ true = eq-eqb n w.n (sym here.0) in let never : true ≡ false = sym yes ∙ e in cc)
          by f (inr (inr later)) = inr later
      go true e =
          let same : n ≡ w.n = eqb-true n w.n e in
          let many_are : length (values w.n) ≡ many = ap (λ (m : ℕ). length (values m)) (sym same) ∙ h.long in
          record { long = length-set (values w.n) w.field w.value ∙ many_are; each = λ f lt. by f lt same many_are (h.each f lt) }
        where
          by : (f : ℕ) → f < many → n ≡ w.n → length (values w.n) ≡ many
              → (slice_index_or (values n) f (pos 0) ≡ g f) ⊎ (((w.n ≡ n) × (w.field ≡ f)) ⊎ Pending ws n f)
              → (slice_index_or (slice_set (values w.n) w.field w.value) f (pos 0) ≡ g f) ⊎ Pending ws n f
          by f lt same many_are old = elim (cases_eq f w.field) [
            | inl at ↦
                inl (ap (λ (i : ℕ). slice_index_or (slice_set (values w.n) w.field w.value) i (pos 0)) at
                ∙ get_or-set_same (values w.n) w.field w.value (pos 0) (omega (arith, lt, at, many_are)) ∙ fits (sym same) ∙ ap g (sym at))
            | inr apart ↦ still old apart
          ]
            where
              unset : (f ≡ w.field → ⊥) → slice_index_or (slice_set (values w.n) w.field w.value) f (pos 0) ≡ slice_index_or (values n) f (pos 0)
              unset apart = get_or-set_other (values w.n) w.field f w.value (pos 0) apart ∙ ap (λ (m : ℕ). slice_index_or (values m) f (pos 0)) (sym same)

              still : (slice_index_or (values n) f (pos 0) ≡ g f) ⊎ (((w.n ≡ n) × (w.field ≡ f)) ⊎ Pending ws n f) → (f ≡ w.field → ⊥)
                  → (slice_index_or (slice_set (values w.n) w.field w.value) f (pos 0) ≡ g f) ⊎ Pending ws n f
              still (inl e) apart = inl (unset apart ∙ e)
              still (inr (inl here)) apart = absurd (apart (sym here.1))
              still (inr (inr later)) apart = inr later

  all_going : (ws : List OwnWrite) (k : Kept) → AllByRecursion (Fits n g) ws → Going n many g ws (k.values n) → Are many g ((wrote_all ws k).values n)
  unfolding Pending
  all_going [] k fits h = record { long = h.long; each = λ f lt. by f (h.each f lt) }
    where
      by : (f : ℕ) → (slice_index_or (k.values n) f (pos 0) ≡ g f) ⊎ ⊥ → slice_index_or (k.values n) f (pos 0) ≡ g f
      by f (inl e) = e
      by f (inr never) = absurd never
  all_going (w ∷ ws) k fits h = all_going ws (wrote w k) fits.1 (one_going w ws k.values fits.0 h)

-- ---- copies

as_many : (ws ls : List ℕ) → AreLevels ws ls → length ls ≡ length ws
as_many [] [] h = refl
as_many [] (l ∷ ls) h = absurd h
as_many (x ∷ ws) [] h = absurd h
as_many (x ∷ ws) (l ∷ ls) h = ap (λ (n : ℕ). suc n) (as_many ws ls h.1)

one_copy : (a b : GhostCopy) → ◌≡◌ {A = Option GhostCopy} (Some a) (Some b) → a ≡ b
one_copy a b e = cc (e)

module _ (kinds : List Kind) where
  same_length : (a b : GhostCopy) → IsCopy kinds a → IsCopy kinds b → b.kind ≡ a.kind → length b.levels ≡ length a.levels
  same_length a b x y e =
      as_many (widths kinds b.kind) b.levels y.range.levels ∙ ap (λ (k : ℕ). length (widths kinds k)) e ∙ sym (as_many (widths kinds a.kind) a.levels x.range.levels)

  same_shown : (a b : GhostCopy) (f : ℕ) → b.kind ≡ a.kind → slice_get b.levels f ≡ slice_get a.levels f → shown_at kinds b f ≡ shown_at kinds a f
  same_shown a b f kind level =
      λ j. unwrap_or (option_and_then (λ (k : Kind). option_and_then (λ (spec : FieldSpec). option_map (shown_of spec) (level j)) (slice_get k.fields f)) (slice_get kinds (kind j))) (pos 0)

  unchanged : (a b : GhostCopy) (f : ℕ) → is_changed a b f ≡ false → slice_index_or a.levels f 0 ≡ slice_index_or b.levels f 0
  unchanged a b f e = eqb-true (slice_index_or a.levels f 0) (slice_index_or b.levels f 0) (by (slice_index_or a.levels f 0 == slice_index_or b.levels f 0) e)
    where
      by : (x : Bool) → not x ≡ false → x ≡ true
      by true e = refl
      by false e = absurd (cc)

  -- the values that a copy shows
  abbrev pub IsOf : List ℤ → GhostCopy → Type 0
  IsOf vs copy = Are (length copy.levels) (shown_at kinds copy) vs

  -- the values of each period that watches a slot are those of the copy there
  abbrev pub Right : (ℕ → List ℤ) → Watched → (ℕ → Option GhostCopy) → Type 0
  Right values w copies = (at n : ℕ) (copy : GhostCopy) → w.period at ≡ Some n → copies at ≡ Some copy → IsOf (values n) copy

  -- ---- a packet

  record IsThere (old : ℕ → Option GhostCopy) (at : ℕ) : Type 0 where
    pub copy : GhostCopy
    pub there : old at ≡ Some copy
    pub fits : IsCopy kinds copy
    pub below : at < MAX_SLOTS

  module _ (w : Watched) (old new : ℕ → Option GhostCopy) (apart : (s r n : ℕ) → w.period s ≡ Some n → w.period r ≡ Some n → s ≡ r)
      (there : (at n : ℕ) → w.period at ≡ Some n → IsThere old at) (change : IsChange kinds old new) where
    module _ (at n : ℕ) (b : GhostCopy) (watch : w.period at ≡ Some n) (is : new at ≡ Some b) where
      abbrev g : ℕ → ℤ
      g f = shown_at kinds b f

      fits_between : (slot m : ℕ) → w.period slot ≡ Some m → (x y : GhostCopy) → new slot ≡ Some y → (fs : List ℕ)
          → AllByRecursion (Fits n g) (filter_map (write_of kinds m x y) fs)
      fits_between slot m ws x y ys [] = tt
      fits_between slot m ws x y ys (f ∷ fs) = by (is_changed x y f) (fits_between slot m ws x y ys fs)
        where
          by : (c : Bool) → AllByRecursion (Fits n g) (filter_map (write_of kinds m x y) fs)
              → AllByRecursion (Fits n g)
              (cons_option (if c then Some (record { n = m; field = f; value = shown_at kinds y f }) else None) (filter_map (write_of kinds m x y) fs))
          by false rest = rest
          by true rest = (
            λ e.
                let one : slot ≡ at = apart slot at n (ws ∙ ap (λ (i : ℕ). Some i) e) watch in
                ap (λ (c : GhostCopy). shown_at kinds c f) (one_copy y b (sym ys ∙ ap new one ∙ is)),
            rest,
          )

      fits_slot : (slot : ℕ) (p : Option ℕ) (o q : Option GhostCopy) → w.period slot ≡ p → new slot ≡ q → AllByRecursion (Fits n g) (writes_between kinds p o q)
      fits_slot slot (Some m) (Some x) (Some y) ws ys = fits_between slot m ws x y ys (upto (length y.levels))
      fits_slot slot (Some m) (Some x) None ws ys = tt
      fits_slot slot (Some m) None q ws ys = tt
      fits_slot slot None o q ws ys = tt

      abbrev of_slot : ℕ → List OwnWrite
      of_slot slot = writes_between kinds (w.period slot) (old slot) (new slot)

      fits_all : (slots : List ℕ) → AllByRecursion (Fits n g) (flat_map (λ slot. writes_between kinds (w.period slot) (old slot) (new slot)) slots)
      fits_all [] = tt
      fits_all (slot ∷ slots) =
          all-append (Fits n g) (of_slot slot) (flat_map of_slot slots) (fits_slot slot (w.period slot) (old slot) (new slot) refl refl) (fits_all slots)

      going : (vs : List ℤ) → IsOf vs (there at n watch).copy → Going n (length b.levels) g (writes_of kinds w old new) vs
      going vs h =
          let o = there at n watch in
          let kind = change.kept at o.copy b o.there is in
          let long = same_length o.copy b o.fits (change.fits at b is) kind in
          record { long = h.long ∙ sym long; each = λ f lt. by f lt kind long (is_changed o.copy b f) refl }
        where
          by : (f : ℕ) → f < length b.levels → b.kind ≡ (there at n watch).copy.kind → length b.levels ≡ length (there at n watch).copy.levels
              → (c : Bool) → is_changed (there at n watch).copy b f ≡ c → (slice_index_or vs f (pos 0) ≡ g f) ⊎ Pending (writes_of kinds w old new) n f
          by f lt kind long true e =
              let o = there at n watch in
              inr (pend_slot of_slot n f at MAX_SLOTS o.below
              (subst (λ (l : List OwnWrite). Pending l n f) (λ j. writes_between kinds (sym watch j) (sym o.there j) (sym is j))
              (pend_field kinds o.copy b n f (length b.levels) lt e)))
          by f lt kind long false e =
              let o = there at n watch in
              let below : f < length o.copy.levels = omega (arith, lt, long) in
              let level : slice_get b.levels f ≡ slice_get o.copy.levels f =
              slice_get-get_or b.levels f 0 lt ∙ ap (λ (l : ℕ). Some l) (sym (unchanged o.copy b f e)) ∙ sym (slice_get-get_or o.copy.levels f 0 below) in
              inl (h.each f below ∙ sym (same_shown o.copy b f kind level))

    after_writes : (k : Kept) → Right k.values w old → Right (wrote_all (writes_of kinds w old new) k).values (left_watched new w) new
    after_writes k right at n b e is =
        let watch : w.period at ≡ Some n = sym (ap (λ (o : Option GhostCopy). if is_some o then w.period at else None) is) ∙ e in
        let o = there at n watch in
        all_going n (length b.levels) (shown_at kinds b) (writes_of kinds w old new) k (fits_all at n b watch is (upto MAX_SLOTS))
        (going at n b watch is (k.values n) (right at n o.copy watch o.there))

-- ---- a scan

module _ (t : Terms) (events : List WatchEvent) (k0 : Kept) (many0 : shows_in k0.course.steps ≡ (watched events).shows)
    (apart : (s r n : ℕ) → (watched (Scans ∷ events)).period s ≡ Some n → (watched (Scans ∷ events)).period r ≡ Some n → s ≡ r)
    (right0 : Right t.kinds k0.values (watched events) (copy_at events)) where
  abbrev IsRight : ℕ → List ℤ → Type 0
  IsRight n vs = (at : ℕ) (copy : GhostCopy) → (watched (Scans ∷ events)).period at ≡ Some n → copy_at events at ≡ Some copy → IsOf t.kinds vs copy

  abbrev AreRight : Kept → Type 0
  AreRight k = (n : ℕ) → n < shows_in k.course.steps → IsRight n (k.values n)

  values_right : (m n : ℕ) (copy : GhostCopy) → (watched (Scans ∷ events)).period m ≡ Some n → copy_at events m ≡ Some copy → IsRight n (values_of t.kinds copy)
  values_right m n copy watch is at b e there =
      let one : at ≡ m = apart at m n e watch in
      subst (IsOf t.kinds (values_of t.kinds copy)) (one_copy copy b (sym is ∙ ap (copy_at events) (sym one) ∙ there)) (record {
        long = length-map-range_with_len (shown_at t.kinds copy) 0 (length copy.levels);
        each = λ f lt. get_or-map-range_with_len (shown_at t.kinds copy) 0 (length copy.levels) f f (pos 0) lt (omega arith);
      })

  begun : (m : ℕ) (copy : GhostCopy) (k : Kept) → (watched (Scans ∷ events)).period m ≡ Some (shows_in k.course.steps) → copy_at events m ≡ Some copy
      → AreRight k → AreRight (begins (show_of t.kinds copy) k)
  begun m copy k watch is all n lt = go (n == shows_in k.course.steps) refl
    where
      go : (b : Bool) → (n == shows_in k.course.steps) ≡ b → IsRight n (cond b (values_of t.kinds copy) (k.values n))
      go true e =
          let same : n ≡ shows_in k.course.steps = eqb-true n (shows_in k.course.steps) e in
          values_right m n copy (watch ∙ ap (λ (i : ℕ). Some i) (sym same)) is
      go false e = all n (sooner n (shows_in k.course.steps) lt e)
        where
          sooner : (n m : ℕ) → n < m + 1 → (n == m) ≡ false → n < m
          sooner n m lt other = elim (cases_eq n m) [
            | inl same ↦ absurd (let never : true ≡ false = sym (eq-eqb n m same) ∙ other in cc)
            | inr apart ↦ omega (arith, lt, apart)
          ]

  after_scan : ((at n : ℕ) → (watched (Scans ∷ events)).period at ≡ Some n → n < (watched (Scans ∷ events)).shows)
      → Right t.kinds (up_to t.kinds events k0 AreRight MAX_SLOTS).values (watched (Scans ∷ events)) (copy_at events)
  after_scan began at n copy e there =
      let all = scanned_to t.kinds events k0 AreRight begun many0
      (λ n lt at copy e there. right0 at n copy (kept_watch Scans events at n (omega (arith, lt, many0)) e) there) MAX_SLOTS in
      let lt = began at n e in
      let many = all.many in
      all.all n (omega (arith, lt, many)) at copy e there

-- ---- all that a spectator meets

module _ (t : Terms) (table : table_fault t.kinds ≡ None) where
  abbrev pub RightAt : List WatchEvent → List OwnItem → Type 0
  RightAt events items = Right t.kinds (kept t items).values (watched events) (copy_at events)

  posted : (events : List WatchEvent) (vs : List (List ℕ)) (items : List OwnItem) → RightAt events items → RightAt events (posting t vs items)
  posted events [] items h = h
  posted events (v ∷ vs) items h =
      posted events vs (if is_stopped t items then items else Line (script.Post t.config.client Guaranteed v) ∷ items) (go (is_stopped t items))
    where
      go : (b : Bool) → RightAt events (if b then items else Line (script.Post t.config.client Guaranteed v) ∷ items)
      go true = h
      go false = h

  own_line : (line : BodyLine) (events : List WatchEvent) (items : List OwnItem) → IsSpectators line → RightAt events items → RightAt events (Line line ∷ items)
  own_line (script.Pack c) events items is h = h
  own_line (script.ClientPack c) events items is h = h
  own_line (script.Down c k) events items is h = h
  own_line (script.Up c k) events items is h = h
  own_line (script.Show c) events items is h = h
  own_line (script.Post c class payload) events items is h = absurd is
  own_line (script.ClientPost c class payload) events items is h = absurd is
  own_line (script.Scan c) events items is h = absurd is
  own_line (script.Raw c bytes) events items is h = absurd is
  own_line (script.Move c m) events items is h = absurd is
  own_line script.Tick events items is h = absurd is
  own_line script.World events items is h = absurd is

  pub right : (events : List WatchEvent) → AreCopies t.kinds events → AreSpectators events → MAX_SLOTS * length events < MAX_SHOWS
      → RightAt events (items_of t events)
  right [] c s few = λ at n copy e there. absurd (cc)
  right (Took p ∷ events) c s few =
      let less : MAX_SLOTS * length events < MAX_SHOWS = omega (arith, few) in
      let before = right events c.1 s less in
      let watches = (follow t table events c.1 s less).watches in
      let there : (at n : ℕ) → (watched events).period at ≡ Some n → IsThere t.kinds (copy_at events) at = λ at n e.
      let o = watches.each at n e in
      record { copy = o.copy; there = o.there; fits = fit_at t.kinds events c.1 at o.copy o.there; below = o.below } in
      posted (Took p ∷ events) (news_by p events) (write_item t.kinds p events ∷ hide_item p events ∷ items_of t events)
      (after_writes t.kinds (watched events) (copy_at events) (copy_at (Took p ∷ events)) watches.apart there c.0
      (kept t (hide_item p events ∷ items_of t events)) before)
  right (Scans ∷ events) c s few =
      let less : MAX_SLOTS * length events < MAX_SHOWS = omega (arith, few) in
      let before = right events c s less in
      let old = (follow t table events c s less).watches in
      let new = (follow t table (Scans ∷ events) c s few).watches in
      after_scan t events (kept t (items_of t events)) old.shows new.apart before
      (λ at n e. let lt = (new.each at n e).shown in let many = new.shows in omega (arith, lt, many))
  right (Own line ∷ events) c s few =
      own_line line events (items_of t events) s.0 (right events c s.1 (omega (arith, few)))
