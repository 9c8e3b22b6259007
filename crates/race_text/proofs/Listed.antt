-- Which periods are up, by the steps and by the table of periods.
use Rattle.std.proofs.Common.{◌≡◌, ℕ, suc, ◌+◌, ◌<◌, Bool, true, false, not, List, [], ◌∷◌, ◌++◌, filter, map, refl, ap, ◌∙◌, arith}
use Rattle.std.specs.List.{AllByRecursion}
use Rattle.ghost_model.specs.Words.{upto}
use Rattle.ghost_model.proofs.Free.{passing_yes, passing_no}
use Rattle.ghost_scope.specs.Shown.{IsUp}
use Rattle.stream_manager.specs.Limits.{Terms}
use Rattle.stream_manager.specs.Server.{ghost_log}
use Rattle.pair_core.specs.History.{PairStep, history}
use Rattle.pair_core.specs.Stands.{PairState, StandsFor}
use Rattle.conn_packing.proofs.Scoped.{up-from, up-to}
use Rattle.pair_periods.specs.pair_steps.Steps.{shows_in, is_hidden_in}
use Rattle.pair_periods.proofs.Below.pair_steps.Journals as steps_tell

-- what is made of each number below a count that passes, with one number more
pub made_yes : {X : Type 0} (f : ℕ → X) (p : ℕ → Bool) (n : ℕ) → p n ≡ true
    → map f (filter p (upto (n + 1))) ≡ map f (filter p (upto n)) ++ f n ∷ []
made_yes f p n is =
    ap (λ k. map f (filter p (upto k))) (let e : n + 1 ≡ suc n = omega arith in e)
    ∙ ap (map f) (passing_yes p n is) ∙ map-push f (filter p (upto n)) n
  where
    map-push : {X : Type 0} (f : ℕ → X) (ns : List ℕ) (n : ℕ) → map f (ns ++ n ∷ []) ≡ map f ns ++ f n ∷ []
    map-push f [] n = refl
    map-push f (m ∷ ns) n = ap (λ l. f m ∷ l) (map-push f ns n)

pub made_no : {X : Type 0} (f : ℕ → X) (p : ℕ → Bool) (n : ℕ) → p n ≡ false → map f (filter p (upto (n + 1))) ≡ map f (filter p (upto n))
made_no f p n isnt =
    ap (λ k. map f (filter p (upto k))) (let e : n + 1 ≡ suc n = omega arith in e) ∙ ap (map f) (passing_no p n isnt)

pub made_none : {X : Type 0} (f : ℕ → X) (p : ℕ → Bool) → map f (filter p (upto 0)) ≡ []
unfolding upto
made_none f p = refl

-- it holds of one more
pub all_push : {X : Type 0} (P : X → Type 0) (xs : List X) (x : X) → AllByRecursion P xs → P x → AllByRecursion P (xs ++ x ∷ [])
all_push P [] x all is = (is, tt)
all_push P (y ∷ ys) x all is = (all.0, all_push P ys x all.1 is)

module _ (p : PairState) (t : Terms) (steps : List PairStep) (s : StandsFor p t steps) (n : ℕ) where
  pub up-passes : IsUp p.conn.masks.periods n → not (is_hidden_in steps n) ≡ true
  up-passes up = ap not (steps_tell.up_from t steps n (up-to p.conn.masks (ghost_log (history t steps).server) s.conn.masks n up)).1

  pub down-fails : n < shows_in steps → (IsUp p.conn.masks.periods n → ⊥) → not (is_hidden_in steps n) ≡ false
  down-fails shown down = by (is_hidden_in steps n) refl
    where
      by : (b : Bool) → is_hidden_in steps n ≡ b → not b ≡ false
      by true e = refl
      by false e = absurd (down (up-from p.conn.masks (ghost_log (history t steps).server) s.conn.masks n (steps_tell.up_to t steps n shown e)))
