-- The least number that passes a test, as the least one not yet acknowledged, and all that pass it.
use Rattle.std.specs.Prelude.{◌≡◌, ◌↔◌, ℕ, zero, suc, ◌<◌, ◌≤◌, Bool, true, false, nat_lt, ◌==◌, List, [], ◌∷◌, ◌++◌, if◌then◌else◌, Contains, AllPairs, refl}

-- the least number below n that passes, else n
abbrev pub least : (ℕ → Bool) → ℕ → ℕ
least f zero = 0
least f (suc n) = if nat_lt (least f n) n then least f n else (if f n then n else suc n)

-- the least number that passes, or the bound where none below it does
pub record IsLeast (f : ℕ → Bool) (n m : ℕ) : Type 0 where
  pub bound : m ≤ n
  pub passes : m < n → f m ≡ true
  pub first : (k : ℕ) → k < m → f k ≡ false

-- the numbers below n that pass, in order
abbrev pub those_below : (ℕ → Bool) → ℕ → List ℕ
those_below f zero = []
those_below f (suc n) = if f n then those_below f n ++ n ∷ [] else those_below f n

-- they are these numbers and no others, rising
pub record AreThoseBelow (f : ℕ → Bool) (n : ℕ) (xs : List ℕ) : Type 0 where
  pub members : (k : ℕ) → Contains xs k ↔ ((k < n) × (f k ≡ true))
  pub rising : AllPairs (λ a b. a < b) xs

first_three : least (λ n. n == 3) 5 ≡ 3
first_three = refl

none_passes : least (λ n. n == 7) 5 ≡ 5
none_passes = refl
