-- Whether two lists that agree at each place of one are the same.
use Rattle.std.proofs.Common.{◌≡◌, ℕ, zero, suc, ◌<◌, ◌≤◌, List, [], ◌∷◌, length, get_or, refl, sym, ap, ◌∙◌, arith, ◌⊎◌, inl, inr}
use Rattle.std.specs.Prelude.{Bool, true, false, not, Some, None, slice_get, is_some}
use Rattle.std.proofs.lemmas.Option.{slice_get_cases}
use Rattle.quantised_fields.proofs.Agreeing.{same_below}
use Rattle.race_history.specs.Deciding.{Decides}

decided : {P : Type 0} (b : Bool) → (b ≡ true → P) → (b ≡ false → P → ⊥) → Decides b P
decided true y n = y refl
decided false y n = n refl

-- where they agree at each place of the second one, whether the first one ends there too
pub same_where_ends : {X : Type 0} (xs ys : List X) (n : ℕ) (b : Bool) → length ys ≡ n → ((j : ℕ) → j < n → slice_get xs j ≡ slice_get ys j) → is_some (slice_get xs n) ≡ not b → Decides b (xs ≡ ys)
same_where_ends {X} xs ys n b m h e = by (slice_get_cases xs n).1
  where
    by : ((x : X) × (n < length xs) × (slice_get xs n ≡ Some x) × (get_or xs n x ≡ x)) ⊎ ((length xs ≤ n) × (slice_get xs n ≡ None)) → Decides b (xs ≡ ys)
    by (inl (x, l, s, g)) = decided b (λ t. absurd (let u : true ≡ not b = ap is_some (sym s) ∙ e in let v : true ≡ not true = u ∙ ap not t in cc)) (λ t same. let f : length xs ≡ length ys = ap (λ (zs : List X). length zs) same in omega (arith, m, l, f))
    by (inr (l, s)) = decided b (λ t. same_below xs ys n l (omega (arith, m)) h) (λ t. absurd (let u : false ≡ not b = ap is_some (sym s) ∙ e in let v : false ≡ not false = u ∙ ap not t in cc))
