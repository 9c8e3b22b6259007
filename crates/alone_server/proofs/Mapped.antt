-- A vector whose slice was written in place.
use Rattle.std.proofs.Common.{◌≡◌, ◌∙◌, ℕ, List, ◌++◌, length, take, drop, ap, arith, append-nil}
use Rattle.std.proofs.lemmas.List.{take_all, drop_all}

-- it has what was written
pub refilled : {X : Type 0} (n : ℕ) (ws xs : List X) → length ws ≡ n → length xs ≡ n → take n (ws ++ drop (length ws) xs) ≡ ws
refilled {X} n ws xs long same =
    ap (λ (l : List X). take n (ws ++ l)) (drop_all (length ws) xs (omega (arith, long, same))) ∙ ap (take n) (append-nil ws) ∙ take_all n ws (omega (arith, long))
