-- Telling some fields and then others is telling both.
use Rattle.std.proofs.Common.{◌≡◌, ℕ, Bool, true, false, not, ◌&&◌, ◌||◌, List, ◌∙◌, refl, sym, ap, nat_lt}
use Rattle.dirty_lanes.specs.declared.view.SimStep.{SimStep}
use Rattle.dirty_lanes.specs.Views.{pending}
use Rattle.world_lanes.specs.Told.{Tells}

chain : (p s x y : Bool) → ((p && not (s && x)) && not (s && y)) ≡ (p && not (s && (x || y)))
chain true true true true = refl
chain true true true false = refl
chain true true false true = refl
chain true true false false = refl
chain true false true true = refl
chain true false true false = refl
chain true false false true = refl
chain true false false false = refl
chain false s x y = refl

module _ (first second both : ℕ → ℕ → Bool) (n : ℕ) (a b c : List SimStep) where
  pub tells_more : Tells first n a b → Tells second n b c → ((o f : ℕ) → both o f ≡ (first o f || second o f)) → Tells both n a c
  tells_more x y all = record {
    versions = λ o f. y.versions o f ∙ x.versions o f;
    values = λ o f. y.values o f ∙ x.values o f;
    waiting = λ d o f. y.waiting d o f ∙ ap (λ (p : Bool). p && not (nat_lt d n && second o f)) (x.waiting d o f)
        ∙ chain (pending a d o f) (nat_lt d n) (first o f) (second o f) ∙ ap (λ (q : Bool). pending a d o f && not (nat_lt d n && q)) (sym (all o f));
  }
