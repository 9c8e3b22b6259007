-- What is left of a list where some of its items are left out: each at most once, in their order.
use Rattle.std.specs.Prelude.{◌≡◌, ◌⊎◌, List, [], ◌∷◌}

abbrev pub IsSubsequenceOf : {A : Type 0} → List A → List A → Type 0
IsSubsequenceOf xs [] = xs ≡ []
IsSubsequenceOf {A} xs (y ∷ ys) = IsSubsequenceOf xs ys ⊎ ((rest : List A) × (xs ≡ y ∷ rest) × IsSubsequenceOf rest ys)
