-- Which slots are watched, slot by slot of a scan and of what ends.
use Rattle.std.proofs.Common.{◌≡◌, ◌∙◌, ℕ, suc, ◌+◌, ◌<◌, ◌≤◌, ◌==◌, ◌&&◌, Bool, true, false, not, List, [], ◌∷◌, ◌++◌, length, take, set, get_or, Option, Some, None, if◌then◌else◌, is_some, refl, sym, ap, subst, arith}
use Rattle.std.specs.List.{filter_map, cons_option}
use Rattle.std.proofs.lemmas.Bool.{eqb-true}
use Rattle.std.proofs.lemmas.Bool.Decides.{nat_tests}
use Rattle.std.proofs.lemmas.List.{take_more, get_or-set_same, get_or-set_other}
use Rattle.std.proofs.lemmas.List.Elements.{filter_map-append}
use Rattle.tn_types.specs.declared.limits.TheConstants.{MAX_SLOTS}
use Rattle.ghost_model.specs.Words.{upto}
use Rattle.ghost_client.specs.declared.copy.GhostCopy.{GhostCopy}
use Rattle.relay_model.specs.Watching.{Watched, is_unwatched, all_watched}
use Rattle.relay_spectator.specs.Watches.{WatchState, period_at, IsWatch}
use Rattle.relay_model.specs.Beginning.{begun_at, begun_up_to}
use Rattle.relay_model.proofs.Begun.{shows_mid, not_yet, all_periods}

-- ---- lists

pub mapped_more : {X Y : Type 0} (f : X → Option Y) (xs : List X) (i : ℕ) (d : X) → i < length xs
    → filter_map f (take (i + 1) xs) ≡ filter_map f (take i xs) ++ cons_option (f (get_or xs i d)) []
mapped_more f xs i d lt = ap (λ l. filter_map f l) (take_more xs i d lt) ∙ filter_map-append f (take i xs) (get_or xs i d ∷ [])

pub upto_more : {Y : Type 0} (f : ℕ → Option Y) (k : ℕ) → filter_map f (upto (suc k)) ≡ filter_map f (upto k) ++ cons_option (f k) []
unfolding upto
upto_more f k = filter_map-append f (upto k) (k ∷ [])

-- ---- a scan

module _ (copies : ℕ → Option GhostCopy) (w : Watched) where
  -- all slots have begun
  pub all_begun : (x : WatchState) → ((slot : ℕ) → MAX_SLOTS ≤ slot → copies slot ≡ None) → IsWatch x (begun_up_to copies w MAX_SLOTS) → IsWatch x (all_watched copies w)
  all_begun x within h = record {
    periods = λ s. h.periods s ∙ all_periods copies w within s;
    shows = h.shows ∙ shows_mid copies w MAX_SLOTS;
  }

  -- ---- one slot

  module _ (x : WatchState) (slot : ℕ) (h : IsWatch x (begun_up_to copies w slot)) where
    period_is : period_at x.periods slot ≡ w.period slot
    period_is = h.periods slot ∙ not_yet copies w slot

    pub is_watched : is_some (period_at x.periods slot) ≡ true → is_unwatched copies w slot ≡ false
    is_watched e = by (copies slot) (w.period slot) (ap (λ (o : Option ℕ). is_some o) (sym period_is) ∙ e)
      where
        by : (o : Option GhostCopy) (p : Option ℕ) → is_some p ≡ true → (is_some o && not (is_some p)) ≡ false
        by None p e = refl
        by (Some a) None e = absurd (cc)
        by (Some a) (Some n) e = refl

    pub has_none : copies slot ≡ None → is_unwatched copies w slot ≡ false
    has_none e = ap (λ (o : Option GhostCopy). is_some o && not (is_some (w.period slot))) e

    pub is_free : (copy : GhostCopy) → is_some (period_at x.periods slot) ≡ false → copies slot ≡ Some copy → is_unwatched copies w slot ≡ true
    is_free copy free there = by (copies slot) (w.period slot) there (ap (λ (o : Option ℕ). is_some o) (sym period_is) ∙ free)
      where
        by : (o : Option GhostCopy) (p : Option ℕ) → o ≡ Some copy → is_some p ≡ false → (is_some o && not (is_some p)) ≡ true
        by None p e f = absurd (cc)
        by (Some a) None e f = refl
        by (Some a) (Some n) e f = absurd (cc)

    pub stays : is_unwatched copies w slot ≡ false → IsWatch x (begun_up_to copies w (suc slot))
    stays e = subst (λ (b : Bool). IsWatch x (if b then begun_at slot (begun_up_to copies w slot) else begun_up_to copies w slot)) (sym e) h

    pub begins : is_unwatched copies w slot ≡ true → slot < length x.periods
        → IsWatch (record { periods = set x.periods slot (Some x.shows); shows = x.shows + 1 }) (begun_up_to copies w (suc slot))
    begins e lt =
        subst (λ (b : Bool). IsWatch (record { periods = set x.periods slot (Some x.shows); shows = x.shows + 1 }) (if b then begun_at slot (begun_up_to copies w slot) else begun_up_to copies w slot)) (sym e)
        (record { periods = λ s. at s (s == slot) refl; shows = ap (λ (n : ℕ). n + 1) h.shows })
      where
        at : (s : ℕ) (b : Bool) → (s == slot) ≡ b
            → period_at (set x.periods slot (Some x.shows)) s ≡ (if b then Some (begun_up_to copies w slot).shows else (begun_up_to copies w slot).period s)
        at s true equal =
            ap (λ (n : ℕ). period_at (set x.periods slot (Some x.shows)) n) (eqb-true s slot equal)
            ∙ get_or-set_same x.periods slot (Some x.shows) None lt ∙ ap (λ (n : ℕ). Some n) h.shows
        at s false other =
            get_or-set_other x.periods slot s (Some x.shows) None (λ same. let yes : (s == slot) ≡ true = grind (arith, nat_tests) in clash (s == slot) yes other) ∙ h.periods s
          where
            clash : (b : Bool) → b ≡ true → b ≡ false → ⊥
            clash b e f = cc (e, f)
