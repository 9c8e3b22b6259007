-- What a scan shows: a period for each copy that none watches, in the order of the slots.
use Rattle.std.proofs.Common.{◌≡◌, ◌∙◌, ℕ, zero, suc, ◌+◌, ◌<◌, ◌≤◌, ◌==◌, ◌&&◌, Bool, true, false, not, cond, List, [], ◌∷◌, ◌++◌, length, map, Option, Some, None, if◌then◌else◌, is_some, refl, sym, ap, subst, arith, append-nil, length-append}
use Rattle.std.specs.List.{filter_map, cons_option}
use Rattle.std.specs.Option.{option_map}
use Rattle.std.proofs.lemmas.Bool.{eqb-true}
use Rattle.std.proofs.lemmas.Bool.Decides.{nat_tests}
use Rattle.std.proofs.lemmas.List.{map-append}
use Rattle.std.proofs.lemmas.List.Elements.{filter_map-append}
use Rattle.std.proofs.lemmas.List.Sums.{count_by-le-length}
use Rattle.tn_types.specs.declared.limits.TheConstants.{MAX_SLOTS, MAX_SHOWS}
use Rattle.ghost_model.specs.Words.{upto}
use Rattle.ghost_client.specs.declared.copy.GhostCopy.{GhostCopy}
use Rattle.stream_manager.specs.Limits.{Terms}
use Rattle.pair_core.specs.History.{PairStep, Show}
use Rattle.pair_core.specs.Conditions.{IsMet}
use Rattle.pair_steps.specs.Steps.{shows_in, is_hidden_in, traits_in}
use Rattle.pair_steps.proofs.Journals.{up_count_told, shows_told}
use Rattle.own_lists.specs.Own.{OwnShow}
use Rattle.own_lists.specs.Course.{onto, show_step}
use Rattle.own_lists.specs.Conditions.{MeetEach}
use Rattle.own_lists.proofs.Standing.{onto_on, meet_on}
use Rattle.relay_model.specs.Watching.{Watched, is_unwatched, all_watched}
use Rattle.relay_model.specs.Items.{show_of}
use Rattle.relay_model.specs.Laws.{IsCopy}
use Rattle.relay_model.specs.Beginning.{begun_at, begun_up_to, shown_in}
use Rattle.relay_model.proofs.Mapped.{some_is}
use Rattle.relay_model.proofs.Begun.{shows_mid, not_yet, all_periods}
use Rattle.relay_model.proofs.Stretches.{IsWatched, HasSlot, Watches, same_watch, few_up}

pub length-upto : (n : ℕ) → length (upto n) ≡ n
unfolding upto
length-upto zero = refl
length-upto (suc n) = length-append (upto n) (n ∷ []) ∙ (let rest = length-upto n in omega (arith, rest))

both : (p : Option ℕ) (k : ℕ) → p ≡ None → p ≡ Some k → ⊥
both p k e f = cc (e, f)

module _ (t : Terms) (steps : List PairStep) (w : Watched) (copies : ℕ → Option GhostCopy) where
  abbrev begun : ℕ → Option OwnShow
  begun slot = shown_in t.kinds copies w slot

  abbrev pub hows : List ℕ → List PairStep
  hows xs = map show_step (map (λ (s : OwnShow). s.how) (filter_map begun xs))

  -- after the slots below one: what is watched, and the steps
  abbrev pub mid : ℕ → Watched
  mid m = begun_up_to copies w m

  abbrev pub after : ℕ → List PairStep
  after m = onto (hows (upto m)) steps

  -- ---- a copy that none watches

  record IsFree (slot : ℕ) : Type 0 where
    pub copy : GhostCopy
    pub there : copies slot ≡ Some copy
    pub free : w.period slot ≡ None

  is_free : (slot : ℕ) → is_unwatched copies w slot ≡ true → IsFree slot
  is_free slot = by (copies slot) refl (w.period slot) refl
    where
      by : (o : Option GhostCopy) → copies slot ≡ o → (p : Option ℕ) → w.period slot ≡ p → (is_some o && not (is_some p)) ≡ true → IsFree slot
      by None a p b e = absurd (cc)
      by (Some c) a (Some n) b e = absurd (cc)
      by (Some c) a None b e = record { copy = c; there = a; free = b }

  -- ---- one more

  module _ (fits : (slot : ℕ) (copy : GhostCopy) → copies slot ≡ Some copy → IsCopy t.kinds copy) (room : w.shows + MAX_SLOTS < MAX_SHOWS) where
    module _ (m : ℕ) (in_slots : m < MAX_SLOTS) (h : Watches (after m) (mid m) copies) (o : IsFree m) where
      abbrev show : PairStep
      show = Show o.copy.kind o.copy.block 0 false

      abbrev count : ℕ
      count = shows_in (after m)

      here : (s k : ℕ) → s ≡ m → k ≡ count → IsWatched (show ∷ after m) copies s k
      here s k slot number =
          let at : (k == count) ≡ true = grind (arith, nat_tests) in
          record {
            shown = omega (arith, number);
            up = h.later k (omega (arith, number));
            copy = o.copy;
            there = ap copies slot ∙ o.there;
            kind = ap (λ (b : Bool). (if b then record { kind = o.copy.kind; block = o.copy.block; level = 0; control = false } else traits_in (after m) k).kind) at;
            below = omega (arith, slot, in_slots);
          }

      there : (s k : ℕ) → IsWatched (after m) copies s k → IsWatched (show ∷ after m) copies s k
      there s k was =
          let lt = was.shown in
          let apart : (k == count) ≡ false = grind (arith, nat_tests) in
          record {
            shown = omega (arith, lt);
            up = was.up;
            copy = was.copy;
            there = was.there;
            kind = ap (λ (b : Bool). (if b then record { kind = o.copy.kind; block = o.copy.block; level = 0; control = false } else traits_in (after m) k).kind) apart ∙ was.kind;
            below = was.below;
          }

      each : (s k : ℕ) (b : Bool) → (s == m) ≡ b → cond b (Some (mid m).shows) ((mid m).period s) ≡ Some k → IsWatched (show ∷ after m) copies s k
      each s k true equal e = here s k (eqb-true s m equal) (sym (some_is (mid m).shows k e) ∙ sym h.shows)
      each s k false differs e = there s k (h.each s k e)

      -- the new number is that of no other slot
      never : (r k : ℕ) → Some (mid m).shows ≡ Some k → (mid m).period r ≡ Some k → ⊥
      never r k e f =
          let lt = (h.each r k f).shown in
          let is = some_is (mid m).shows k e in
          let same = h.shows in
          omega (arith, lt, is, same)

      apart : (s r k : ℕ) (a b : Bool) → (s == m) ≡ a → (r == m) ≡ b → cond a (Some (mid m).shows) ((mid m).period s) ≡ Some k
          → cond b (Some (mid m).shows) ((mid m).period r) ≡ Some k → s ≡ r
      apart s r k true true a b e f = eqb-true s m a ∙ sym (eqb-true r m b)
      apart s r k true false a b e f = absurd (never r k e f)
      apart s r k false true a b e f = absurd (never s k f e)
      apart s r k false false a b e f = h.apart s r k e f

      all : (k : ℕ) → k < count + 1 → is_hidden_in (after m) k ≡ false → (b : Bool) → (k == count) ≡ b → HasSlot (begun_at m (mid m)) k
      all k lt up true at =
          let one : (m == m) ≡ true = grind (arith, nat_tests) in
          record {
            slot = m;
            below = in_slots;
            watches = ap (λ (b : Bool). cond b (Some (mid m).shows) ((mid m).period m)) one ∙ ap (λ (n : ℕ). Some n) (sym h.shows ∙ sym (eqb-true k count at));
          }
      all k lt up false other =
          let below : k < count = grind (arith, nat_tests) in
          let was = h.all k below up in
          record { slot = was.slot; below = was.below; watches = elsewhere was (was.slot == m) refl }
        where
          elsewhere : (was : HasSlot (mid m) k) → (b : Bool) → (was.slot == m) ≡ b → cond b (Some (mid m).shows) ((mid m).period was.slot) ≡ Some k
          elsewhere was true equal =
              let none : (mid m).period was.slot ≡ None = ap (mid m).period (eqb-true was.slot m equal) ∙ not_yet copies w m ∙ o.free in
              absurd (both ((mid m).period was.slot) k none was.watches)
          elsewhere was false differs = was.watches

      more : Watches (show ∷ after m) (begun_at m (mid m)) copies
      more = record {
        shows = ap (λ n. n + 1) h.shows;
        each = λ s k e. each s k (s == m) refl e;
        apart = λ s r k e f. apart s r k (s == m) (r == m) refl refl e f;
        all = λ k lt up. all k lt up (k == count) refl;
        later = λ k le. h.later k (omega (arith, le));
      }

      may : IsMet t (after m) show
      may =
          let copy = fits m o.copy o.there in
          record {
            ranges = record { kind = copy.range.kind; block = copy.block; level = omega arith };
            few = (let told = up_count_told t (after m) in let few = few_up (after m) (mid m) copies h in omega (arith, told, few));
            numbers = (let told = shows_told t (after m) in
                let same = h.shows in
                let mine = shows_mid copies w m in
                let some = count_by-le-length (is_unwatched copies w) (upto m) in
                let long = length-upto m in
                omega (arith, told, same, mine, some, long, room, in_slots));
            alone = λ controls. absurd (cc);
          }

    -- ---- all of them

    pub record Begun (m : ℕ) : Type 0 where
      pub watches : Watches (after m) (mid m) copies
      pub met : MeetEach t (hows (upto m)) steps

    hows_on : (xs : List ℕ) (x : ℕ) → hows (xs ++ x ∷ []) ≡ hows xs ++ map show_step (map (λ (s : OwnShow). s.how) (cons_option (begun x) []))
    hows_on xs x =
        ap (λ (l : List OwnShow). map show_step (map (λ (s : OwnShow). s.how) l)) (filter_map-append begun xs (x ∷ []))
        ∙ ap (map show_step) (map-append (λ (s : OwnShow). s.how) (filter_map begun xs) (cons_option (begun x) []))
        ∙ map-append show_step (map (λ (s : OwnShow). s.how) (filter_map begun xs)) (map (λ (s : OwnShow). s.how) (cons_option (begun x) []))

    abbrev told : Option OwnShow → List PairStep
    told o = map show_step (map (λ (s : OwnShow). s.how) (cons_option o []))

    one_more : (m : ℕ) → m < MAX_SLOTS → Begun m → Begun (suc m)
    unfolding upto
    one_more m in_slots h = by (is_unwatched copies w m) refl
      where
        -- with these steps more
        with_steps : (o : Option OwnShow) → begun m ≡ o → hows (upto m ++ m ∷ []) ≡ hows (upto m) ++ told o
        with_steps o is = hows_on (upto m) m ∙ ap (λ (p : Option OwnShow). hows (upto m) ++ told p) is

        by : (b : Bool) → is_unwatched copies w m ≡ b → Begun (suc m)
        by true e =
            let o = is_free m e in
            let is : begun m ≡ Some (show_of t.kinds o.copy) =
            ap (λ (b : Bool). if b then option_map (show_of t.kinds) (copies m) else None) e ∙ ap (option_map (show_of t.kinds)) o.there in
            let all = with_steps (Some (show_of t.kinds o.copy)) is in
            let last : List PairStep = Show o.copy.kind o.copy.block 0 false ∷ [] in
            let stepped : onto (hows (upto m ++ m ∷ [])) steps ≡ Show o.copy.kind o.copy.block 0 false ∷ after m =
            ap (λ (l : List PairStep). onto l steps) all ∙ onto_on (hows (upto m)) last steps in
            let watch : mid (suc m) ≡ begun_at m (mid m) = ap (λ (b : Bool). if b then begun_at m (mid m) else mid m) e in
            record {
              watches = subst (λ (z : List PairStep × Watched). Watches z.0 z.1 copies) (sym (λ j. (stepped j, watch j))) (more m in_slots h.watches o);
              met = subst (λ (l : List PairStep). MeetEach t l steps) (sym all)
                  (meet_on t (hows (upto m)) last steps h.met (may m in_slots h.watches o, tt));
            }
        by false e =
            let is : begun m ≡ None = ap (λ (b : Bool). if b then option_map (show_of t.kinds) (copies m) else None) e in
            let all = with_steps None is ∙ append-nil (hows (upto m)) in
            let watch : mid (suc m) ≡ mid m = ap (λ (b : Bool). if b then begun_at m (mid m) else mid m) e in
            let stepped : onto (hows (upto m ++ m ∷ [])) steps ≡ after m = ap (λ (l : List PairStep). onto l steps) all in
            record {
              watches = subst (λ (z : List PairStep × Watched). Watches z.0 z.1 copies) (sym (λ j. (stepped j, watch j))) h.watches;
              met = subst (λ (l : List PairStep). MeetEach t l steps) (sym all) h.met;
            }

    begun_to : (m : ℕ) → m ≤ MAX_SLOTS → Watches steps w copies → Begun m
    unfolding upto
    begun_to zero le h = record { watches = h; met = tt }
    begun_to (suc m) le h = one_more m (omega (arith, le)) (begun_to m (omega (arith, le)) h)

    module _ (within : (slot : ℕ) → MAX_SLOTS ≤ slot → copies slot ≡ None) (h : Watches steps w copies) where
      pub all_met : MeetEach t (hows (upto MAX_SLOTS)) steps
      all_met = (begun_to MAX_SLOTS (omega arith) h).met

      pub all_shown : Watches (after MAX_SLOTS) (all_watched copies w) copies
      all_shown =
          same_watch (after MAX_SLOTS) (mid MAX_SLOTS) (all_watched copies w) copies (sym (shows_mid copies w MAX_SLOTS)) (λ s. sym (all_periods copies w within s))
          (begun_to MAX_SLOTS (omega arith) h).watches
