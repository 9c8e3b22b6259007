-- The lowest bit of a word, taken out.
use Rattle.std.proofs.Common.{◌≡◌, ◌≢◌, ℕ, zero, suc, ◌-◌, ◌/◌, ◌^◌, ◌≤◌, ◌<◌, bit_and, sym, ap, ◌∙◌, arith, inl, inr}
use Rattle.std.specs.Int.{bit_at, trailing_zeros, w64}
use Rattle.std.proofs.lemmas.Bool.{cases_lt}
use Rattle.std.proofs.lemmas.Nat.{and_shr}
use Rattle.std.proofs.lemmas.Nat.Bits.{bit_at_lowest, bit_at-suc, bit_at_and, bit_at-trailing_zeros}

-- bit k is the lowest that is set
pub record IsLowestOf (k x : ℕ) : Type 0 where
  pub set : bit_at x k ≡ 1
  pub below : (j : ℕ) → j < k → bit_at x j ≡ 0

pub lowest_of : (x : ℕ) → 0 < x → x < 2 ^ 64 → IsLowestOf (trailing_zeros w64 x) x
lowest_of x some range = let t = bit_at-trailing_zeros w64 x some range in record { set = t.1; below = t.2 }

half_of : (k x : ℕ) → IsLowestOf (suc k) x → IsLowestOf k (x / 2)
half_of k x h = record { set = sym (bit_at-suc x k) ∙ h.set; below = λ j l. sym (bit_at-suc x j) ∙ h.below (suc j) (omega (arith, l)) }

-- a bit behind the first, of the word without its lowest
behind_first : (x i : ℕ) → bit_at (bit_and x (x - 1)) (suc i) ≡ bit_at (bit_and (x / 2) ((x - 1) / 2)) i
behind_first x i = bit_at-suc (bit_and x (x - 1)) i ∙ ap (λ n. bit_at n i) (and_shr x (x - 1) 1)

even_half : (x : ℕ) → bit_at x 0 ≡ 0 → (x - 1) / 2 ≡ x / 2 - 1
even_half x even = omega (arith, even, bit_at_lowest x)

odd_half : (x : ℕ) → bit_at x 0 ≡ 1 → (x - 1) / 2 ≡ x / 2
odd_half x odd = omega (arith, odd, bit_at_lowest x)

-- the bits up to it are gone
pub bit_up_to : (k x i : ℕ) → IsLowestOf k x → i ≤ k → bit_at (bit_and x (x - 1)) i ≡ 0
bit_up_to zero x zero h le = omega (arith, h.set, bit_at_and x (x - 1) 0, bit_at_lowest x, bit_at_lowest (x - 1))
bit_up_to zero x (suc i) h le = absurd (omega (arith, le))
bit_up_to (suc k) x zero h le = omega (arith, h.below 0 (omega arith), bit_at_and x (x - 1) 0)
bit_up_to (suc k) x (suc i) h le =
    behind_first x i ∙ ap (λ n. bit_at (bit_and (x / 2) n) i) (even_half x (h.below 0 (omega arith)))
    ∙ bit_up_to k (x / 2) i (half_of k x h) (omega (arith, le))

-- those behind it stay
pub bit_behind : (k x i : ℕ) → IsLowestOf k x → k < i → bit_at (bit_and x (x - 1)) i ≡ bit_at x i
bit_behind k x zero h lt = absurd (omega (arith, lt))
bit_behind zero x (suc i) h lt =
    behind_first x i ∙ ap (λ n. bit_at (bit_and (x / 2) n) i) (odd_half x h.set)
    ∙ omega (arith, bit_at_and (x / 2) (x / 2) i, bit_at-suc x i)
bit_behind (suc k) x (suc i) h lt =
    behind_first x i ∙ ap (λ n. bit_at (bit_and (x / 2) n) i) (even_half x (h.below 0 (omega arith)))
    ∙ bit_behind k (x / 2) i (half_of k x h) (omega (arith, lt))
    ∙ sym (bit_at-suc x i)

-- the others are as they were
pub other_bits : (k x i : ℕ) → IsLowestOf k x → i ≢ k → bit_at (bit_and x (x - 1)) i ≡ bit_at x i
other_bits k x i h ne =
    elim (cases_lt k i) [
      | inl behind ↦ bit_behind k x i h behind
      | inr before ↦ bit_up_to k x i h before ∙ sym (h.below i (omega (arith, before, ne)))
    ]
