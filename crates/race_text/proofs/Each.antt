-- What is told of each number below a count, with one number more.
use Rattle.std.proofs.Common.{◌≡◌, ℕ, ◌+◌, ◌++◌, ◌∷◌, ◌∙◌, List, [], ap, sym, refl, arith}
use Rattle.std.specs.List.{flat_map, range_with_len}
use Rattle.std.proofs.lemmas.List.{flat_map_more}
use Rattle.std.proofs.lemmas.List.FromFn.{map-range_with_len_more}
use Rattle.std.specs.Prelude.{map}
use Rattle.race_text.specs.Text.{of_each}

same : (xs : List ℕ) → map (λ x. x) xs ≡ xs
same [] = refl
same (x ∷ xs) = ap (λ l. x ∷ l) (same xs)

one-more : (n : ℕ) → range_with_len 0 (n + 1) ≡ range_with_len 0 n ++ n ∷ []
one-more n =
    sym (same (range_with_len 0 (n + 1))) ∙ map-range_with_len_more (λ x. x) 0 n n (omega arith) ∙ ap (λ l. l ++ n ∷ []) (same (range_with_len 0 n))

pub each_more : (text : ℕ → List ℕ) (n : ℕ) (before : List ℕ) → (before ++ of_each n text) ++ text n ≡ before ++ of_each (n + 1) text
each_more text n before =
    flat_map_more text before (range_with_len 0 n) n ∙ ap (λ l. before ++ flat_map text l) (sym (one-more n))
