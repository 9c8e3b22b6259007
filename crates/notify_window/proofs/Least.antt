-- The least number that passes, and those below a limit that pass.
use Rattle.std.proofs.Common.{◌≡◌, ℕ, zero, suc, ◌+◌, ◌<◌, ◌≤◌, Bool, true, false, [], refl, sym, arith, inl, inr}
use Rattle.std.proofs.lemmas.Bool.{cases_lt}
use Rattle.tn_types.specs.Least.{least, those_below}
use Rattle.tn_types.proofs.ListWords.{least_one}

pub least_le : (f : ℕ → Bool) (n : ℕ) → least f n ≤ n
least_le f n = (least_one f n).bound

pub least_below : (f : ℕ → Bool) (n i : ℕ) → i < least f n → f i ≡ false
least_below f n i h = (least_one f n).first i h

pub least_passes : (f : ℕ → Bool) (n : ℕ) → least f n < n → f (least f n) ≡ true
least_passes f n h = (least_one f n).passes h

-- a number that passes, and below which none does, is the least
pub is_least : (f : ℕ → Bool) (n k : ℕ) → k ≤ n → ((j : ℕ) → j < k → f j ≡ false) → (k < n → f k ≡ true) → least f n ≡ k
is_least f n k within below here = elim (cases_lt (least f n) k) [
  | inl under ↦ absurd (let passes = least_passes f n (omega arith) in let fails = below (least f n) under in cc)
  | inr over ↦ elim (cases_lt k (least f n)) [
    | inl above ↦ absurd (let passes = here (omega (arith, least_le f n)) in let fails = least_below f n k above in cc)
    | inr under ↦ omega arith
  ]
]

pub least_is : (f : ℕ → Bool) (n k : ℕ) → k ≤ n → ((j : ℕ) → j < k → f j ≡ false) → (k < n → f k ≡ true) → k ≡ least f n
least_is f n k within below here = sym (is_least f n k within below here)

pub least_rises : (f : ℕ → Bool) (n k : ℕ) → k ≤ n → ((j : ℕ) → j < k → f j ≡ false) → k ≤ least f n
least_rises f n k within below = elim (cases_lt (least f n) k) [
  | inl under ↦ absurd (let passes = least_passes f n (omega arith) in let fails = below (least f n) under in cc)
  | inr at ↦ at
]

pub least_same : (f g : ℕ → Bool) (n : ℕ) → ((b : ℕ) → f b ≡ g b) → least f n ≡ least g n
least_same f g zero h = refl
least_same f g (suc n) h = rw (least_same f g n h, h n) refl

pub none_below : (f : ℕ → Bool) (n : ℕ) → ((b : ℕ) → b < n → f b ≡ false) → those_below f n ≡ []
none_below f zero h = refl
none_below f (suc n) h = let last : f n ≡ false = h n (omega arith) in rw (last, none_below f n (λ b l. h b (omega arith))) refl

-- two tests that agree below the limit
pub same_below : (f g : ℕ → Bool) (n : ℕ) → ((b : ℕ) → b < n → f b ≡ g b) → those_below f n ≡ those_below g n
same_below f g zero h = refl
same_below f g (suc n) h = rw (h n (omega arith), same_below f g n (λ b l. h b (omega arith))) refl

-- nothing passes from n on
pub none_behind : (f : ℕ → Bool) (n k : ℕ) → ((b : ℕ) → n ≤ b → f b ≡ false) → those_below f (n + k) ≡ those_below f n
none_behind f n zero h = let e : n + 0 ≡ n = omega arith in rw e refl
none_behind f n (suc k) h =
    let e : n + suc k ≡ suc (n + k) = omega arith in
    let last : f (n + k) ≡ false = h (n + k) (omega arith) in
    rw (e, last) (none_behind f n k h)
