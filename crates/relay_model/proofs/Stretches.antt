-- The periods of a spectator's connection are the stretches in which slots are watched: one to one, each of the kind of its copy.
use Rattle.std.proofs.Common.{◌≡◌, ◌∙◌, ℕ, suc, ◌<◌, ◌≤◌, ◌||◌, Bool, true, false, not, List, [], ◌∷◌, length, map, Option, Some, None, if◌then◌else◌, is_some, refl, sym, ap, arith}
use Rattle.std.specs.Prelude.{nat_eq}
use Rattle.std.specs.List.{AllByRecursion}
use Rattle.std.proofs.lemmas.Bool.{ne_eqb}
use Rattle.tn_types.specs.declared.limits.TheConstants.{MAX_SLOTS}
use Rattle.quantised_fields.specs.declared.kind.Kind.{Kind}
use Rattle.ghost_model.specs.Words.{upto}
use Rattle.ghost_model.specs.Scope.{Traits}
use Rattle.ghost_client.specs.declared.copy.GhostCopy.{GhostCopy}
use Rattle.stream_manager.specs.Limits.{Terms}
use Rattle.pair_core.specs.History.{PairStep, Hide}
use Rattle.pair_steps.specs.Steps.{shows_in, is_hidden_in, up_in, traits_in}
use Rattle.pair_steps.proofs.Journals.{up_to}
use Rattle.own_lists.specs.Course.{onto, hide_step}
use Rattle.own_lists.specs.Conditions.{MeetEach}
use Rattle.own_lists.proofs.ScanFacts.{IsNone, AreDifferent, few_different}
use Rattle.own_lists.proofs.ScanChanges.{has}
use Rattle.own_lists.proofs.Standing.{up_are_shown, shows_hides, hidden_hides, traits_hides}
use Rattle.relay_model.specs.Watching.{Watched, left_watched}
use Rattle.relay_model.specs.Items.{hidden_of}
use Rattle.relay_model.specs.Laws.{IsChange}
use Rattle.relay_model.proofs.Mapped.{some_is, all_mapped, has_from, has_to, different_mapped, different_upto, different_filter, has_upto, below_upto}

-- the period that watches a slot is up, and of the kind of the copy there
pub record IsWatched (steps : List PairStep) (copies : ℕ → Option GhostCopy) (slot n : ℕ) : Type 0 where
  pub shown : n < shows_in steps
  pub up : is_hidden_in steps n ≡ false
  pub copy : GhostCopy
  pub there : copies slot ≡ Some copy
  pub kind : (traits_in steps n).kind ≡ copy.kind
  pub below : slot < MAX_SLOTS

-- a period watches a slot
pub record HasSlot (w : Watched) (n : ℕ) : Type 0 where
  pub slot : ℕ
  pub below : slot < MAX_SLOTS
  pub watches : w.period slot ≡ Some n

pub record Watches (steps : List PairStep) (w : Watched) (copies : ℕ → Option GhostCopy) : Type 0 where
  pub shows : shows_in steps ≡ w.shows
  pub each : (slot n : ℕ) → w.period slot ≡ Some n → IsWatched steps copies slot n
  pub apart : (s r n : ℕ) → w.period s ≡ Some n → w.period r ≡ Some n → s ≡ r
  pub all : (n : ℕ) → n < shows_in steps → is_hidden_in steps n ≡ false → HasSlot w n
  pub later : (n : ℕ) → shows_in steps ≤ n → is_hidden_in steps n ≡ false

-- ---- steps and watches that say the same

pub same_steps : (old new : List PairStep) (w : Watched) (copies : ℕ → Option GhostCopy) → shows_in new ≡ shows_in old
    → ((n : ℕ) → is_hidden_in new n ≡ is_hidden_in old n) → ((n : ℕ) → (traits_in new n).kind ≡ (traits_in old n).kind)
    → Watches old w copies → Watches new w copies
same_steps old new w copies shows hidden kinds h = record {
  shows = shows ∙ h.shows;
  each = λ slot n e.
      let o = h.each slot n e in
      record {
        shown = (let lt = o.shown in omega (arith, lt, shows));
        up = hidden n ∙ o.up;
        copy = o.copy;
        there = o.there;
        kind = kinds n ∙ o.kind;
        below = o.below;
      };
  apart = h.apart;
  all = λ n lt up. h.all n (omega (arith, lt, shows)) (sym (hidden n) ∙ up);
  later = λ n le. hidden n ∙ h.later n (omega (arith, le, shows));
}

pub same_watch : (steps : List PairStep) (old new : Watched) (copies : ℕ → Option GhostCopy) → new.shows ≡ old.shows
    → ((slot : ℕ) → new.period slot ≡ old.period slot) → Watches steps old copies → Watches steps new copies
same_watch steps old new copies shows periods h = record {
  shows = h.shows ∙ sym shows;
  each = λ slot n e. h.each slot n (sym (periods slot) ∙ e);
  apart = λ s r n e f. h.apart s r n (sym (periods s) ∙ e) (sym (periods r) ∙ f);
  all = λ n lt up. let o = h.all n lt up in record { slot = o.slot; below = o.below; watches = periods o.slot ∙ o.watches };
  later = h.later;
}

-- ---- so no more are up than there are slots

module _ (w : Watched) where
  abbrev slots_of : (ns : List ℕ) → AllByRecursion (HasSlot w) ns → List ℕ
  slots_of [] h = []
  slots_of (n ∷ ns) h = (h.0).slot ∷ slots_of ns h.1

  as_many : (ns : List ℕ) (h : AllByRecursion (HasSlot w) ns) → length (slots_of ns h) ≡ length ns
  as_many [] h = refl
  as_many (n ∷ ns) h = ap (λ (k : ℕ). suc k) (as_many ns h.1)

  all_below : (ns : List ℕ) (h : AllByRecursion (HasSlot w) ns) → AllByRecursion (λ s. s < MAX_SLOTS) (slots_of ns h)
  all_below [] h = tt
  all_below (n ∷ ns) h = ((h.0).below, all_below ns h.1)

  none_same : (n : ℕ) (o : HasSlot w n) (ns : List ℕ) (h : AllByRecursion (HasSlot w) ns) → IsNone n ns → IsNone o.slot (slots_of ns h)
  none_same n o [] h a = tt
  none_same n o (m ∷ ns) h a = (
    λ e. a.0 (some_is m n (sym (h.0).watches ∙ ap w.period e ∙ o.watches)),
    none_same n o ns h.1 a.1,
  )

  all_apart : (ns : List ℕ) (h : AllByRecursion (HasSlot w) ns) → AreDifferent ns → AreDifferent (slots_of ns h)
  all_apart [] h d = tt
  all_apart (n ∷ ns) h d = (none_same n h.0 ns h.1 d.0, all_apart ns h.1 d.1)

pub few_up : (steps : List PairStep) (w : Watched) (copies : ℕ → Option GhostCopy) → Watches steps w copies → length (up_in steps) ≤ MAX_SLOTS
few_up steps w copies h =
    let have = found (up_in steps) (up_are_shown steps) in
    let few = few_different MAX_SLOTS (slots_of w (up_in steps) have)
    (all_apart w (up_in steps) have (different_filter (λ n. not (is_hidden_in steps n)) (upto (shows_in steps)) (different_upto (shows_in steps))))
    (all_below w (up_in steps) have) in
    omega (arith, few, as_many w (up_in steps) have)
  where
    found : (ns : List ℕ) → AllByRecursion (λ n. (n < shows_in steps) × (is_hidden_in steps n ≡ false)) ns → AllByRecursion (HasSlot w) ns
    found [] a = tt
    found (n ∷ ns) a = (h.all n (a.0).0 (a.0).1, found ns a.1)

-- ---- what is hidden

abbrev pub IsShown : List PairStep → ℕ → Type 0
IsShown steps n = (n < shows_in steps) × (is_hidden_in steps n ≡ false)

later_up : (h : ℕ) (steps : List PairStep) (hs : List ℕ) → IsNone h hs → AllByRecursion (IsShown steps) hs → AllByRecursion (IsShown (Hide h ∷ steps)) hs
later_up h steps [] a b = tt
later_up h steps (n ∷ hs) a b =
    let other : nat_eq h n ≡ false = ne_eqb h n (λ e. a.0 (sym e)) in
    (((b.0).0, rw other (b.0).1), later_up h steps hs a.1 b.1)

pub meet_hides : (t : Terms) (hs : List ℕ) (steps : List PairStep) → AreDifferent hs → AllByRecursion (IsShown steps) hs
    → MeetEach t (map hide_step hs) steps
meet_hides t [] steps d a = tt
meet_hides t (h ∷ hs) steps d a = (up_to t steps h (a.0).0 (a.0).1, meet_hides t hs (Hide h ∷ steps) d.1 (later_up h steps hs d.0 a.1))

clash : (b : Bool) → b ≡ true → b ≡ false → ⊥
clash b e f = cc (e, f)

false_of : (b : Bool) → (b ≡ true → ⊥) → b ≡ false
false_of true f = absurd (f refl)
false_of false f = refl

first_false : (a b : Bool) → (a || b) ≡ false → a ≡ false
first_false true b e = absurd (cc)
first_false false b e = refl

second_false : (a b : Bool) → (a || b) ≡ false → b ≡ false
second_false true b e = absurd (cc)
second_false false b e = e

none_is : (o : Option GhostCopy) → is_some o ≡ false → o ≡ None
none_is None e = refl
none_is (Some c) e = absurd (cc)

some_copy : (o : Option GhostCopy) → is_some o ≡ true → (c : GhostCopy) × (o ≡ Some c)
some_copy None e = absurd (cc)
some_copy (Some c) e = (c, refl)

module _ (kinds : List Kind) (steps : List PairStep) (w : Watched) (old new : ℕ → Option GhostCopy) (h : Watches steps w old) (c : IsChange kinds old new) where
  abbrev ends : ℕ → Option ℕ
  ends slot = if is_some (new slot) then None else w.period slot

  abbrev pub hides : List ℕ
  hides = hidden_of new w

  abbrev pub hidden : List PairStep
  hidden = onto (map hide_step hides) steps

  -- a period that ends has no copy any more
  record Ended (slot n : ℕ) : Type 0 where
    pub gone : is_some (new slot) ≡ false
    pub watched : w.period slot ≡ Some n

  ended : (slot n : ℕ) → ends slot ≡ Some n → Ended slot n
  ended slot n = by (is_some (new slot)) refl
    where
      by : (b : Bool) → is_some (new slot) ≡ b → (if b then None else w.period slot) ≡ Some n → Ended slot n
      by true e f = absurd (cc)
      by false e f = record { gone = e; watched = f }

  record Stays (slot n : ℕ) : Type 0 where
    pub still : is_some (new slot) ≡ true
    pub watched : w.period slot ≡ Some n

  stays : (slot n : ℕ) → (left_watched new w).period slot ≡ Some n → Stays slot n
  stays slot n = by (is_some (new slot)) refl
    where
      by : (b : Bool) → is_some (new slot) ≡ b → (if b then w.period slot else None) ≡ Some n → Stays slot n
      by true e f = record { still = e; watched = f }
      by false e f = absurd (cc)

  pub hides_apart : AreDifferent hides
  hides_apart =
      different_mapped ends (λ s r n e f. h.apart s r n (ended s n e).watched (ended r n f).watched) (upto MAX_SLOTS) (different_upto MAX_SLOTS)

  pub hides_shown : AllByRecursion (IsShown steps) hides
  hides_shown =
      all_mapped ends (λ s. s < MAX_SLOTS) (IsShown steps)
      (λ s n lt e. let o = h.each s n (ended s n e).watched in (o.shown, o.up)) (upto MAX_SLOTS) (below_upto MAX_SLOTS)

  -- a period whose copy is there is not hidden
  not_hidden : (slot n : ℕ) → Stays slot n → has n hides ≡ false
  not_hidden slot n o = false_of (has n hides) (λ e.
      let from = has_from ends n (upto MAX_SLOTS) e in
      let gone = ended from.0 n from.1 in
      let same : from.0 ≡ slot = h.apart from.0 slot n gone.watched o.watched in
      clash (is_some (new slot)) o.still (ap (λ (s : ℕ). is_some (new s)) (sym same) ∙ gone.gone))

  pub leaves : Watches hidden (left_watched new w) new
  leaves = record {
    shows = shows_hides hides steps ∙ h.shows;
    each = λ slot n e. kept slot n (stays slot n e);
    apart = λ s r n e f. h.apart s r n (stays s n e).watched (stays r n f).watched;
    all = λ n lt up. found n (omega (arith, lt, shows_hides hides steps)) (sym (hidden_hides hides steps n) ∙ up);
    later = λ n le. hidden_hides hides steps n ∙ none_later n (omega (arith, le, shows_hides hides steps));
  }
    where
      kept : (slot n : ℕ) → Stays slot n → IsWatched hidden new slot n
      kept slot n o =
          let was = h.each slot n o.watched in
          let is = some_copy (new slot) o.still in
          record {
            shown = (let lt = was.shown in omega (arith, lt, shows_hides hides steps));
            up = hidden_hides hides steps n ∙ ap (λ b. b || is_hidden_in steps n) (not_hidden slot n o) ∙ was.up;
            copy = is.0;
            there = is.1;
            kind = ap (λ (x : Traits). x.kind) (traits_hides hides steps n) ∙ was.kind ∙ sym (c.kept slot was.copy is.0 was.there is.1);
            below = was.below;
          }

      found : (n : ℕ) → n < shows_in steps → (has n hides || is_hidden_in steps n) ≡ false → HasSlot (left_watched new w) n
      found n lt up =
          let o = h.all n lt (second_false (has n hides) (is_hidden_in steps n) up) in
          at o (is_some (new o.slot)) refl
        where
          at : (o : HasSlot w n) → (b : Bool) → is_some (new o.slot) ≡ b → HasSlot (left_watched new w) n
          at o true e = record {
            slot = o.slot;
            below = o.below;
            watches = ap (λ (b : Bool). if b then w.period o.slot else None) e ∙ o.watches;
          }
          at o false e =
              let ends_so : ends o.slot ≡ Some n = ap (λ (b : Bool). if b then None else w.period o.slot) e ∙ o.watches in
              let among = has_to ends o.slot n (upto MAX_SLOTS) ends_so (has_upto o.slot MAX_SLOTS o.below) in
              absurd (clash (has n hides) among (first_false (has n hides) (is_hidden_in steps n) up))

      none_later : (n : ℕ) → shows_in steps ≤ n → (has n hides || is_hidden_in steps n) ≡ false
      none_later n le =
          let none : has n hides ≡ false = false_of (has n hides) (λ e.
          let from = has_from ends n (upto MAX_SLOTS) e in
          let o = h.each from.0 n (ended from.0 n from.1).watched in
          let lt = o.shown in
          omega (arith, lt, le)) in
          ap (λ b. b || is_hidden_in steps n) none ∙ h.later n le
