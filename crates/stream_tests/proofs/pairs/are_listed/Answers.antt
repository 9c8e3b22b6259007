use Rattle.std.proofs.Common.{◌≡◌, ℕ, ◌+◌, ◌<◌, inl, inr, refl, subst, arith}
use Rattle.std.proofs.lemmas.Bool.{cases_lt}
use Rattle.std.specs.Prelude.{Some, slice_get}
use Rattle.ghost_masks.specs.Plan.{kind_of}
use Rattle.ghost_model.specs.Legal.{IsUp}
use Rattle.stream_manager.specs.Server.{ghost_log}
use Rattle.stream_tests.proofs.pairs.are_listed.Goals as goal

-- what holds below k and of k holds below k + 1
one-more : (P : ℕ → Type 0) (k : ℕ) → ((m : ℕ) → m < k → P m) → P k → (m : ℕ) → m < k + 1 → P m
one-more P k below here m small = elim (cases_lt m k) [
  | inl less ↦ below m less
  | inr more ↦ let e : k ≡ m = omega (arith, more, small) in subst P e here
]

pub periods-preserved : goal.periods-preserved
periods-preserved c = record {
  listed = λ log s n small up.
      one-more (λ m. IsUp (ghost_log log) m → slice_get c.args.shown.now m ≡ Some (kind_of (ghost_log log) m)) c.periods.n
      (λ m less. c.periods.invariant.listed log s m less) (c.if-not-is_listed.ensures refl log s) n small up;
}
