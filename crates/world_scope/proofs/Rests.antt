-- What is left of a word whose bits are taken from it, the lowest first.
use Rattle.std.proofs.Common.{◌≡◌, ℕ, zero, suc, ◌+◌, ◌-◌, ◌/◌, ◌%◌, ◌^◌, ◌<◌, ◌≤◌, inl, inr, true, false, cond, nat_le, nat_lt, refl, sym, ap, ◌∙◌, arith, bit_and}
use Rattle.std.specs.Int.{bit_at, trailing_zeros, w64}
use Rattle.std.proofs.lemmas.Nat.Bits.{bit_at_lowest, bit_at-suc, bit_at-zero, bit_at_and, bit_at-trailing_zeros}
use Rattle.std.proofs.lemmas.Bool.{cases_lt}
use Rattle.std.proofs.lemmas.Bool.Decides.{nat_tests, eqb_tells}

-- ---- a word without its lowest bit

lower_none : (s n : ℕ) → ((i : ℕ) → i < s → bit_at n i ≡ 0) → bit_at n s ≡ 1 → bit_at (n - 1) s ≡ 0
lower_none zero n none one =
    let odd : n % 2 ≡ 1 = sym (bit_at_lowest n) ∙ one in
    let even : (n - 1) % 2 ≡ 0 = omega (arith, odd) in
    bit_at_lowest (n - 1) ∙ even
lower_none (suc s) n none one =
    let even : n % 2 ≡ 0 = sym (bit_at_lowest n) ∙ none 0 (omega arith) in
    let half : (n - 1) / 2 ≡ n / 2 - 1 = omega (arith, even) in
    bit_at-suc (n - 1) s ∙ ap (λ m. bit_at m s) half ∙ lower_none s (n / 2) (λ i l. sym (bit_at-suc n i) ∙ none (suc i) (omega (arith, l))) (sym (bit_at-suc n s) ∙ one)

higher_same : (s n k : ℕ) → ((i : ℕ) → i < s → bit_at n i ≡ 0) → bit_at n s ≡ 1 → s < k → bit_at (n - 1) k ≡ bit_at n k
higher_same s n zero none one l = absurd (omega (arith, l))
higher_same zero n (suc k) none one l =
    let odd : n % 2 ≡ 1 = sym (bit_at_lowest n) ∙ one in
    let half : (n - 1) / 2 ≡ n / 2 = omega (arith, odd) in
    bit_at-suc (n - 1) k ∙ ap (λ m. bit_at m k) half ∙ sym (bit_at-suc n k)
higher_same (suc s) n (suc k) none one l =
    let even : n % 2 ≡ 0 = sym (bit_at_lowest n) ∙ none 0 (omega arith) in
    let half : (n - 1) / 2 ≡ n / 2 - 1 = omega (arith, even) in
    bit_at-suc (n - 1) k ∙ ap (λ m. bit_at m k) half
    ∙ higher_same s (n / 2) k (λ i m. sym (bit_at-suc n i) ∙ none (suc i) (omega (arith, m))) (sym (bit_at-suc n s) ∙ one) (omega (arith, l))
    ∙ sym (bit_at-suc n k)

pub cut : (n k : ℕ) → 0 < n → n < 2 ^ 64 → bit_at (bit_and n (n - 1)) k ≡ cond (nat_le k (trailing_zeros w64 n)) 0 (bit_at n k)
cut n k some range =
    let t = bit_at-trailing_zeros w64 n some range in
    let s = trailing_zeros w64 n in
    let both = bit_at_and n (n - 1) k in
    elim (cases_lt s k) [
      | inl less ↦
          let test : nat_le k s ≡ false = grind (arith, nat_tests) in
          let same = higher_same s n k t.2 t.1 less in
          let here : bit_at (bit_and n (n - 1)) k ≡ bit_at n k = omega (arith, both, same) in
          rw test here
      | inr more ↦
          let test : nat_le k s ≡ true = grind (arith, nat_tests) in
          let here : bit_at (bit_and n (n - 1)) k ≡ 0 = elim (eqb_tells k s) [
            | inl w ↦
                let none : bit_at (n - 1) k ≡ 0 = ap (bit_at (n - 1)) w.1 ∙ lower_none s n t.2 t.1 in
                omega (arith, both, none)
            | inr w ↦
                let other = w.1 in
                let less : k < s = elim (cases_lt k s) [
                  | inl l ↦ l
                  | inr l ↦ absurd (other (omega (arith, l, more)))
                ] in
                let none = t.2 k less in
                omega (arith, both, none)
          ] in
          rw test here
    ]

-- ---- what is left

-- the bits of the numbers from one on are left
pub record IsRest (word from rest next : ℕ) : Type 0 where
  pub start : from ≤ next
  pub order : next ≤ from + 64
  pub bits : (k : ℕ) → k < 64 → bit_at rest k ≡ cond (nat_lt (from + k) next) 0 (bit_at word k)

pub whole : (word from : ℕ) → IsRest word from word from
whole word from = record {
  start = omega arith;
  order = omega arith;
  bits = λ k m. let t : nat_lt (from + k) from ≡ false = grind (arith, nat_tests) in rw t refl;
}

pub record IsLowest (word from rest next : ℕ) : Type 0 where
  pub within : trailing_zeros w64 rest < 64
  pub reached : next ≤ from + trailing_zeros w64 rest
  pub here : bit_at word (trailing_zeros w64 rest) ≡ 1
  pub none : (k : ℕ) → next ≤ from + k → k < trailing_zeros w64 rest → bit_at word k ≡ 0

left_at : (word from rest next k : ℕ) → IsRest word from rest next → k < 64 → next ≤ from + k → bit_at rest k ≡ bit_at word k
left_at word from rest next k r l m =
    let t : nat_lt (from + k) next ≡ false = grind (arith, nat_tests) in
    r.bits k l ∙ ap (λ b. cond b 0 (bit_at word k)) t

taken_at : (word from rest next k : ℕ) → IsRest word from rest next → k < 64 → from + k < next → bit_at rest k ≡ 0
taken_at word from rest next k r l m =
    let t : nat_lt (from + k) next ≡ true = grind (arith, nat_tests) in
    r.bits k l ∙ ap (λ b. cond b 0 (bit_at word k)) t

pub lowest : (word from rest next : ℕ) → 0 < rest → rest < 2 ^ 64 → IsRest word from rest next → IsLowest word from rest next
lowest word from rest next some range r =
    let t = bit_at-trailing_zeros w64 rest some range in
    let s = trailing_zeros w64 rest in
    let reached : next ≤ from + s = elim (cases_lt (from + s) next) [
      | inl less ↦ let none = taken_at word from rest next s r t.0 less in absurd (omega (arith, none, t.1))
      | inr more ↦ more
    ] in
    record {
      within = t.0;
      reached = reached;
      here = sym (left_at word from rest next s r t.0 reached) ∙ t.1;
      none = λ k m l. sym (left_at word from rest next k r (omega (arith, l, t.0)) m) ∙ t.2 k l;
    }

pub rest_next : (word from rest next left : ℕ) → 0 < rest → rest < 2 ^ 64 → IsRest word from rest next → ((k : ℕ) → bit_at left k ≡ cond (nat_le k (trailing_zeros w64 rest)) 0 (bit_at rest k)) → IsRest word from left (from + trailing_zeros w64 rest + 1)
rest_next word from rest next left some range r bits =
    let s = trailing_zeros w64 rest in
    let low = lowest word from rest next some range r in
    record {
      start = omega arith;
      order = omega (arith, low.within);
      bits = λ k l. elim (cases_lt s k) [
        | inl above ↦
            let t : nat_le k s ≡ false = grind (arith, nat_tests) in
            let u : nat_lt (from + k) (from + s + 1) ≡ false = grind (arith, nat_tests) in
            bits k ∙ ap (λ b. cond b 0 (bit_at rest k)) t
            ∙ left_at word from rest next k r l (omega (arith, above, low.reached))
            ∙ sym (ap (λ b. cond b 0 (bit_at word k)) u)
        | inr below ↦
            let t : nat_le k s ≡ true = grind (arith, nat_tests) in
            let u : nat_lt (from + k) (from + s + 1) ≡ true = grind (arith, nat_tests) in
            bits k ∙ ap (λ b. cond b 0 (bit_at rest k)) t ∙ sym (ap (λ b. cond b 0 (bit_at word k)) u)
      ];
    }

pub none_left : (word from rest next k : ℕ) → rest ≡ 0 → IsRest word from rest next → k < 64 → next ≤ from + k → bit_at word k ≡ 0
none_left word from rest next k z r l m = sym (left_at word from rest next k r l m) ∙ ap (λ w. bit_at w k) z ∙ bit_at-zero k
