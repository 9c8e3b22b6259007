-- A share of a packet: the longest front of a list whose items fit a room together. An item that doesn't fit ends it,
-- whatever stands behind it. A limit on the count is a share of the front of that length.
use Rattle.std.specs.Prelude.{◌≡◌, ℕ, ◌+◌, ◌-◌, ◌*◌, ◌<◌, ◌≤◌, nat_le, List, [], ◌∷◌, ◌++◌, sum_by, if◌then◌else◌, refl}
use Rattle.tn_types.specs.Prefix.{IsPrefixOf}

abbrev pub fitting : {A : Type 0} → (A → ℕ) → ℕ → List A → List A
fitting size room [] = []
fitting size room (x ∷ xs) = if nat_le (size x) room then x ∷ fitting size (room - size x) xs else []

-- a front that fits, and none longer does
pub record IsLongestFitting {A : Type 0} (size : A → ℕ) (room : ℕ) (xs front : List A) : Type 0 where
  pub prefix : IsPrefixOf front xs
  pub fits : sum_by size front ≤ room
  pub longest : (x : A) (rest : List A) → front ++ x ∷ rest ≡ xs → room < sum_by size front + size x

ends_at_first : fitting (λ n. 10 * n) 50 (2 ∷ 3 ∷ 1 ∷ 0 ∷ []) ≡ 2 ∷ 3 ∷ []
ends_at_first = refl
