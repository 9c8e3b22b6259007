-- One more step of a pair that keeps them.
use Rattle.std.proofs.Common.{◌≡◌, ℕ, suc, ◌<◌, ◌≤◌, Bool, true, false, List, [], ◌∷◌, ◌++◌, length, take, get_or, refl, sym, ap, ◌∙◌, subst, arith, length-append}
use Rattle.std.specs.Prelude.{nat_lt}
use Rattle.std.specs.List.{AllByRecursion}
use Rattle.std.proofs.lemmas.Bool.{ltb-true, ltb-false}
use Rattle.std.proofs.lemmas.List.{reverse-append, take-append-le, get_or_append_left}
use Rattle.std.proofs.Math.Seq.{get_or-append_seam, take-append_seam}
use Rattle.tn_types.specs.declared.moves.MoveBits.{MoveBits}
use Rattle.pair_core.specs.stream_manager.Stands.{terms_of}
use Rattle.pair_core.specs.History.{PairStep}
use Rattle.pair_core.specs.Conditions.{IsMet, AreMet}
use Rattle.pair_core.specs.Answers.{accepted_in}
use Rattle.pair_core.specs.Conditions.{StepFits}
use Rattle.pair_core.specs.Stands.{PairState, StandsFor}
use Rattle.kept_pair.specs.Kept.{newest_first, IsFresh, Replays, AreKept}
use Rattle.kept_pair.proofs.Counts.{one-down, one-up, few-more}

pub newest-more : (steps : List PairStep) (step : PairStep) → newest_first (steps ++ step ∷ []) ≡ step ∷ newest_first steps
newest-more steps step = reverse-append steps (step ∷ [])

-- ---- a new pair

pub fresh-kept : (p : PairState) → IsFresh p → AreKept p [] [] []
fresh-kept p fresh =
    let stands : StandsFor p (terms_of p.conn) [] = subst (λ t. StandsFor p t []) (sym fresh.stands.terms) fresh.stands in
    record {
      replays = record { stands = stands; met = tt; fit = tt; few = omega arith };
      moves_are = refl;
      each = λ i lt. absurd (omega arith);
      long = refl;
      few_moves = omega arith;
      keeps_all = fresh.keeps_all;
      few_down = let e = stands.sent in omega arith;
      few_up = let e = ap (λ (l : List (List ℕ)). length l) stands.up in omega arith;
    }

-- ---- one more step

module _ (old new : PairState) (steps : List PairStep) (moves more : List MoveBits) (befores : List ℕ) (step : PairStep) (k : AreKept old steps moves befores)
    (few : length (steps ++ step ∷ []) ≤ 65536) (met : IsMet (terms_of old.conn) (newest_first steps) step) (fits : StepFits step)
    (stands : StandsFor new (terms_of old.conn) (step ∷ newest_first steps))
    (are : more ≡ accepted_in (terms_of old.conn) (step ∷ newest_first steps)) (keeping : new.keeps_all ≡ old.keeps_all) where
  longer : length (steps ++ step ∷ []) ≡ suc (length steps)
  longer = let e = length-append steps (step ∷ []) in omega arith

  replays-more : Replays new (steps ++ step ∷ [])
  replays-more = record {
    stands = subst (λ t. StandsFor new t (newest_first (steps ++ step ∷ []))) (sym stands.terms) (subst (StandsFor new (terms_of old.conn)) (sym (newest-more steps step)) stands);
    met = subst (λ t. AreMet t (newest_first (steps ++ step ∷ []))) (sym stands.terms) (subst (AreMet (terms_of old.conn)) (sym (newest-more steps step)) (met, k.replays.met));
    fit = subst (AllByRecursion StepFits) (sym (newest-more steps step)) (fits, k.replays.fit);
    few = few;
  }

  each-more : (i : ℕ) → i < length (steps ++ step ∷ []) → get_or (befores ++ length moves ∷ []) i 0 ≡ length (accepted_in (terms_of old.conn) (newest_first (take i (steps ++ step ∷ []))))
  each-more i lt = by (nat_lt i (length steps)) refl
    where
      by : (b : Bool) → nat_lt i (length steps) ≡ b → get_or (befores ++ length moves ∷ []) i 0 ≡ length (accepted_in (terms_of old.conn) (newest_first (take i (steps ++ step ∷ []))))
      by true e =
          let here : i < length steps = ltb-true i (length steps) e in
          let there : i < length befores = omega (arith, k.long) in
          get_or_append_left befores (length moves ∷ []) 0 i there ∙ k.each i here ∙ ap (λ l. length (accepted_in (terms_of old.conn) (newest_first l))) (sym (take-append-le i steps (step ∷ []) (omega arith)))
      by false e =
          let least : length steps ≤ i = ltb-false i (length steps) e in
          let last : length steps ≡ i = omega (arith, least, lt, longer) in
          let end : length befores ≡ i = omega (arith, k.long) in
          subst (λ n. get_or (befores ++ length moves ∷ []) n 0 ≡ length (accepted_in (terms_of old.conn) (newest_first (take i (steps ++ step ∷ []))))) end
          (get_or-append_seam befores (length moves) [] 0 ∙ ap (λ (l : List MoveBits). length l) k.moves_are
          ∙ ap (λ l. length (accepted_in (terms_of old.conn) (newest_first l))) (sym (subst (λ n. take n (steps ++ step ∷ []) ≡ steps) last (take-append_seam steps (step ∷ [])))))

  pub kept-more : AreKept new (steps ++ step ∷ []) more (befores ++ length moves ∷ [])
  kept-more = record {
    replays = replays-more;
    moves_are = subst (λ t. more ≡ accepted_in t (newest_first (steps ++ step ∷ []))) (sym stands.terms) (are ∙ ap (accepted_in (terms_of old.conn)) (sym (newest-more steps step)));
    each = λ i lt. subst (λ t. get_or (befores ++ length moves ∷ []) i 0 ≡ length (accepted_in t (newest_first (take i (steps ++ step ∷ []))))) (sym stands.terms) (each-more i lt);
    long = omega (arith, k.long, longer, length-append befores (length moves ∷ []));
    few_moves = omega (arith, k.few_moves, longer, few-more (terms_of old.conn) (newest_first steps) step, ap (λ (l : List MoveBits). length l) are, ap (λ (l : List MoveBits). length l) k.moves_are);
    keeps_all = keeping ∙ k.keeps_all;
    few_down = omega (arith, k.few_down, longer, one-down (terms_of old.conn) (newest_first steps) step, stands.sent, k.replays.stands.sent);
    few_up = omega (arith, k.few_up, longer, one-up (terms_of old.conn) (newest_first steps) step, ap (λ (l : List (List ℕ)). length l) stands.up, ap (λ (l : List (List ℕ)). length l) k.replays.stands.up);
  }
