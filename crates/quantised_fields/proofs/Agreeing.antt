-- Two lists that agree at each place are the same.
use Rattle.std.proofs.Common.{◌≡◌, ℕ, zero, suc, ◌<◌, ◌≤◌, List, [], ◌∷◌, length, refl, arith}
use Rattle.std.specs.Prelude.{Some, None, slice_get}

-- at each place below n, where both end there
pub same_below : {X : Type 0} (xs ys : List X) (n : ℕ) → length xs ≤ n → length ys ≤ n → ((j : ℕ) → j < n → slice_get xs j ≡ slice_get ys j) → xs ≡ ys
same_below {X} [] [] n l m h = refl
same_below {X} [] (y ∷ ys) n l m h = absurd (let p : 0 < n = omega (arith, m) in let e : None ≡ Some y = h 0 p in cc)
same_below {X} (x ∷ xs) [] n l m h = absurd (let p : 0 < n = omega (arith, l) in let e : Some x ≡ None = h 0 p in cc)
same_below {X} (x ∷ xs) (y ∷ ys) zero l m h = absurd (omega (arith, l))
same_below {X} (x ∷ xs) (y ∷ ys) (suc n) l m h =
    let p : 0 < suc n = omega arith in
    let e : Some x ≡ Some y = h 0 p in
    let rest : xs ≡ ys = same_below xs ys n (omega (arith, l)) (omega (arith, m)) (λ j k. h (suc j) (omega (arith, k))) in
    cc
