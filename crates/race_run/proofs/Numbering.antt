-- Connections that stand at the places of their numbers, and one more.
use Rattle.std.proofs.Common.{◌≡◌, ℕ, ◌<◌, ◌≤◌, ◌⊎◌, inl, inr, List, [], ◌∷◌, ◌++◌, length, slice_index, sym, arith, length-append, ◌∙◌, ap}
use Rattle.std.proofs.lemmas.Bool.{cases_lt}
use Rattle.std.proofs.lemmas.List.{get_or_append_left}
use Rattle.std.proofs.Math.Seq.{get_or-append_seam}
use Rattle.race_run.specs.Asking.{AreNumbered}

pub numbered_more : (xs : List ℕ) (n : ℕ) → n ≡ length xs → AreNumbered xs → AreNumbered (xs ++ n ∷ [])
numbered_more xs n e all k lt = by_place (cases_lt k (length xs))
  where
    at_end : k ≡ length xs → slice_index (xs ++ n ∷ []) k ≡ k
    at_end here = ap (slice_index (xs ++ n ∷ [])) here ∙ get_or-append_seam xs n [] 0 ∙ e ∙ sym here

    by_place : (k < length xs) ⊎ (length xs ≤ k) → slice_index (xs ++ n ∷ []) k ≡ k
    by_place (inl before) = get_or_append_left xs (n ∷ []) 0 k before ∙ all k before
    by_place (inr behind) = at_end (omega (arith, lt, behind, length-append xs (n ∷ [])))
