-- A list that grows by one entry at its end, of which each entry meets what its place asks.
use Rattle.std.proofs.Common.{◌≡◌, ℕ, ◌<◌, ◌+◌, List, [], ◌∷◌, ◌++◌, length, get_or, sym, subst, arith, inl, inr}
use Rattle.std.specs.Prelude.{slice_index_or}
use Rattle.std.proofs.Math.ListN.{get_or-append}
use Rattle.std.proofs.Math.Seq.{get_or-append_seam}
use Rattle.std.proofs.lemmas.Bool.{cases_eq}

pub one_more : {X : Type 0} (P : X → ℕ → Type 0) (xs : List X) (y : X) (n : ℕ) → length xs ≡ n
    → ((k : ℕ) (d : X) → k < n → P (slice_index_or xs k d) k) → P y n
    → (k : ℕ) (d : X) → k < n + 1 → P (slice_index_or (xs ++ y ∷ []) k d) k
one_more {X} P xs y n is each last k d l = elim (cases_eq k (length xs)) [
  | inl same ↦ subst (λ (m : ℕ). P (get_or (xs ++ y ∷ []) m d) m) (sym same)
      (subst (λ (p : X). P p (length xs)) (sym (get_or-append_seam xs y [] d)) (subst (λ (m : ℕ). P y m) (sym is) last))
  | inr other ↦ subst (λ (p : X). P p k) (sym (get_or-append xs (y ∷ []) d k (omega (arith, l, other, is)))) (each k d (omega (arith, l, other, is)))
]
