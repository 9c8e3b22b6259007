-- Steps that are made one after the other, of which some are made already.
use Rattle.std.proofs.Common.{◌≡◌, ◌∙◌, ℕ, ◌+◌, ◌<◌, refl, sym, subst, List, [], ◌∷◌, ◌++◌, length, map, take, drop, get_or}
use Rattle.std.proofs.lemmas.List.{map_more, drop_more}
use Rattle.stream_manager.specs.Limits.{Terms}
use Rattle.own_lists.specs.pair_core.History.{PairStep}
use Rattle.own_lists.specs.pair_core.Answers.{accepted_in}
use Rattle.own_lists.specs.pair_core.Calls.{Does, KeepsAtServer}
use Rattle.own_lists.specs.pair_core.Stands.{PairState}
use Rattle.own_lists.specs.Course.{onto, with_step, with_steps}
use Rattle.own_lists.specs.Conditions.{MeetEach}
use Rattle.client_seat.specs.Stands.{SeatState, StandsFor, Becomes, MayMake}

pub onto-append : (xs ys steps : List PairStep) → onto (xs ++ ys) steps ≡ onto ys (onto xs steps)
onto-append [] ys steps = refl
onto-append (x ∷ xs) ys steps = onto-append xs ys (x ∷ steps)

pub meet_first : (t : Terms) (xs ys steps : List PairStep) → MeetEach t (xs ++ ys) steps → MeetEach t xs steps
meet_first t [] ys steps m = tt
meet_first t (x ∷ xs) ys steps m = (m.0, meet_first t xs ys (x ∷ steps) m.1)

pub meet_rest : (t : Terms) (xs ys steps : List PairStep) → MeetEach t (xs ++ ys) steps → MeetEach t ys (onto xs steps)
meet_rest t [] ys steps m = m
meet_rest t (x ∷ xs) ys steps m = meet_rest t xs ys (x ∷ steps) m.1

-- these steps are made, and those may be
pub record Partly (old now : SeatState) (done rest : List PairStep) : Type 0 where
  pub becomes : Becomes old (λ t k. with_steps done k) now
  pub may : MayMake now rest
  pub keeping : now.pair.keeps_all ≡ old.pair.keeps_all

pub partly_none : (s : SeatState) (steps : List PairStep) → MayMake s steps → Partly s s [] steps
partly_none s steps may = record { becomes = λ t k h. h; may = may; keeping = refl }

abbrev pub with_pair : SeatState → PairState → SeatState
with_pair s pair = record { pair = pair; waiting = s.waiting; taken = s.taken }

-- a step that brings nothing to either end
pub stands_more : (now : SeatState) (pair : PairState) (step : PairStep) → ((t : Terms) (steps : List PairStep) → accepted_in t (step ∷ steps) ≡ accepted_in t steps)
    → Does now.pair step pair → KeepsAtServer now.pair pair → Becomes now (λ t k. with_step step k) (with_pair now pair)
stands_more now pair step same does keeps t k s = record {
  holds = record {
    pair = does t k.steps s.holds.pair;
    waiting = rw (same t k.steps) s.holds.waiting;
    taken = s.holds.taken;
    few = rw (same t k.steps) s.holds.few;
  };
  quiet_server = rw keeps.server.ready s.quiet_server;
  quiet_client = rw keeps.client s.quiet_client;
}

module _ (old now : SeatState) (done rest : List PairStep) (pair : PairState) (step : PairStep) (same : (t : Terms) (steps : List PairStep) → accepted_in t (step ∷ steps) ≡ accepted_in t steps)
    (does : Does now.pair step pair) (keeps : KeepsAtServer now.pair pair) (keeping : pair.keeps_all ≡ now.pair.keeps_all) (before : Partly old now done (step ∷ rest)) where
  pub partly_more : Partly old (with_pair now pair) (done ++ step ∷ []) rest
  partly_more = record {
    becomes = λ t k h.
        subst (λ (steps : List PairStep). StandsFor (with_pair now pair) t (record { steps = steps; taken = k.taken })) (sym (onto-append done (step ∷ []) k.steps))
        (stands_more now pair step same does keeps t (with_steps done k) (before.becomes t k h));
    may = record {
      terms = before.may.terms;
      course = with_step step before.may.course;
      stands = stands_more now pair step same does keeps before.may.terms before.may.course before.may.stands;
      meet = before.may.meet.1;
    };
    keeping = keeping ∙ before.keeping;
  }

-- the same where both are of a list that is gone through
module _ {X : Type 0} (f : X → PairStep) (xs : List X) (i : ℕ) (d : X) (lt : i < length xs) (old now : SeatState) (pair : PairState)
    (same : (t : Terms) (steps : List PairStep) → accepted_in t (f (get_or xs i d) ∷ steps) ≡ accepted_in t steps)
    (does : Does now.pair (f (get_or xs i d)) pair) (keeps : KeepsAtServer now.pair pair) (keeping : pair.keeps_all ≡ now.pair.keeps_all) (before : Partly old now (map f (take i xs)) (map f (drop i xs))) where
  pub partly_next : Partly old (with_pair now pair) (map f (take (i + 1) xs)) (map f (drop (i + 1) xs))
  partly_next =
      subst (λ (done : List PairStep). Partly old (with_pair now pair) done (map f (drop (i + 1) xs))) (sym (map_more f xs i d lt))
      (partly_more old now (map f (take i xs)) (map f (drop (i + 1) xs)) pair (f (get_or xs i d)) same does keeps keeping
      (subst (λ (rest : List X). Partly old now (map f (take i xs)) (map f rest)) (drop_more xs i d lt) before))

-- ---- one list after another

pub may_first : (s : SeatState) (xs ys : List PairStep) → MayMake s (xs ++ ys) → MayMake s xs
may_first s xs ys may = record { terms = may.terms; course = may.course; stands = may.stands; meet = meet_first may.terms xs ys may.course.steps may.meet }

pub may_rest : (s new : SeatState) (xs ys : List PairStep) → MayMake s (xs ++ ys) → Becomes s (λ t k. with_steps xs k) new → MayMake new ys
may_rest s new xs ys may becomes = record {
  terms = may.terms;
  course = with_steps xs may.course;
  stands = becomes may.terms may.course may.stands;
  meet = meet_rest may.terms xs ys may.course.steps may.meet;
}

pub becomes_both : (a b c : SeatState) (xs ys : List PairStep) → Becomes a (λ t k. with_steps xs k) b → Becomes b (λ t k. with_steps ys k) c → Becomes a (λ t k. with_steps (xs ++ ys) k) c
becomes_both a b c xs ys first rest t k s =
    subst (λ (steps : List PairStep). StandsFor c t (record { steps = steps; taken = k.taken })) (sym (onto-append xs ys k.steps)) (rest t (with_steps xs k) (first t k s))
