-- Words and their bits.
use Rattle.std.proofs.Common.{◌≡◌, ℕ, zero, suc, ◌+◌, ◌-◌, ◌*◌, ◌/◌, ◌%◌, ◌^◌, ◌<◌, ◌≤◌, max, Bool, true, false, ◌&&◌, ◌==◌, nat_lt, if◌then◌else◌, refl, sym, ◌∙◌, ap, arith, inl, inr, w32}
use Rattle.std.specs.Int.{bit_at, reverse_bits, reverse_bits_onto}
use Rattle.std.specs.Int.RustNames.{bit_or}
use Rattle.std.proofs.lemmas.Nat.Bits.{bit_at_cat_low, bit_at_cat_high, bit_at_lowest, bit_at-suc, bit_at-lt, bit_at-zero, bit_at_or, bit_at-pow_other, same_from_bits_below}
use Rattle.std.proofs.lemmas.Nat.{div-add-mod'}
use Rattle.std.proofs.Math.Nat.{mod-lt}
use Rattle.std.proofs.Math.Pow.{pow_pos}
use Rattle.std.proofs.lemmas.Bool.Decides.{nat_tests}
use Rattle.std.proofs.lemmas.Bool.{cases_lt, cases_eq}
use Rattle.tn_types.specs.BitWords.{bit_of, from_bits}
use Rattle.notify_window.specs.Bits.{moved_bit}

double : (n : ℕ) → 2 ^ suc n ≡ 2 * 2 ^ n
double n = grind arith

pub from_bits-lt : (f : ℕ → Bool) (n : ℕ) → from_bits f n < 2 ^ n
unfolding from_bits
from_bits-lt f zero = omega arith
from_bits-lt f (suc n) = one_more (f n) (from_bits f n) (2 ^ n) (2 ^ suc n) (double n) (from_bits-lt f n)
  where
    one_more : (b : Bool) (low p q : ℕ) → q ≡ 2 * p → low < p → bit_of b * p + low < q
    one_more true low p q e h = omega arith
    one_more false low p q e h = omega arith

bit_of-lowest : (b : Bool) → bit_at (bit_of b) 0 ≡ bit_of b
bit_of-lowest true = refl
bit_of-lowest false = refl

pub bit_at-from_bits : (f : ℕ → Bool) (n i : ℕ) → i < n → bit_at (from_bits f n) i ≡ bit_of (f i)
unfolding from_bits
bit_at-from_bits f zero i h = absurd (omega arith)
bit_at-from_bits f (suc n) i h = elim (cases_lt i n) [
  | inl l ↦ bit_at_cat_low (bit_of (f n)) n (from_bits f n) i l ∙ bit_at-from_bits f n i l
  | inr l ↦ (let e : i ≡ n = omega arith in let z : i - n ≡ 0 = omega arith in
      bit_at_cat_high (bit_of (f n)) n (from_bits f n) i (from_bits-lt f n) l ∙ ap (bit_at (bit_of (f n))) z ∙ bit_of-lowest (f n) ∙ ap (λ k. bit_of (f k)) (sym e))
]

-- a word is known by its bits
pub is_from_bits : (f : ℕ → Bool) (m : ℕ) → m < 2 ^ 32 → ((i : ℕ) → i < 32 → bit_at m i ≡ bit_of (f i)) → m ≡ from_bits f 32
is_from_bits f m small h = same_from_bits_below 32 m (from_bits f 32) small (from_bits-lt f 32) (λ i l. h i l ∙ sym (bit_at-from_bits f 32 i l))

-- a shift up
pub bit_at-shl : (m s i : ℕ) → i < 32 → bit_at (m * 2 ^ s % 2 ^ 32) i ≡ (if nat_lt i s then 0 else bit_at m (i - s))
bit_at-shl m s i h =
    let whole : m * 2 ^ s / 2 ^ 32 * 2 ^ 32 + m * 2 ^ s % 2 ^ 32 ≡ m * 2 ^ s + 0 = div-add-mod' (m * 2 ^ s) (2 ^ 32) ∙ omega arith in
    let low : bit_at (m * 2 ^ s % 2 ^ 32) i ≡ bit_at (m * 2 ^ s + 0) i = sym (bit_at_cat_low (m * 2 ^ s / 2 ^ 32) 32 (m * 2 ^ s % 2 ^ 32) i h) ∙ ap (λ n. bit_at n i) whole in
    low ∙ elim (cases_lt i s) [
      | inl l ↦ (let t : nat_lt i s ≡ true = grind (arith, nat_tests) in rw t (bit_at_cat_low m s 0 i l ∙ bit_at-zero i))
      | inr l ↦ (let t : nat_lt i s ≡ false = grind (arith, nat_tests) in rw t (bit_at_cat_high m s 0 i (pow_pos s) l))
    ]

with_lowest : (n i : ℕ) → bit_at (bit_or n 1) i ≡ (if i == 0 then 1 else bit_at n i)
with_lowest n i = elim (cases_eq i 0) [
  | inl e ↦ (let t : (i == 0) ≡ true = grind (arith, nat_tests) in rw (t, bit_at_or, e) (at_most_one (bit_at n 0) (bit_at-lt n 0)))
  | inr e ↦ (let t : (i == 0) ≡ false = grind (arith, nat_tests) in rw (t, bit_at_or, bit_at-pow_other 0 i e) (omega arith))
]
  where
    at_most_one : (b : ℕ) → b < 2 → max b 1 ≡ 1
    at_most_one b h = omega arith

-- a mask that moved, with its lowest bit set, and without
pub moved_bit-set : (mask by higher i : ℕ) → bit_at higher i ≡ (if nat_lt i by then 0 else bit_at mask (i - by)) → bit_at (bit_or higher 1) i ≡ moved_bit mask by true i
moved_bit-set mask by higher i h = with_lowest higher i ∙ low (i == 0) (bit_at higher i) _ h
  where
    low : (b : Bool) (x y : ℕ) → x ≡ y → (if b then 1 else x) ≡ (if b && true then 1 else y)
    low true x y e = refl
    low false x y e = e

pub moved_bit-clear : (mask by higher i : ℕ) → bit_at higher i ≡ (if nat_lt i by then 0 else bit_at mask (i - by)) → bit_at higher i ≡ moved_bit mask by false i
moved_bit-clear mask by higher i h = h ∙ high (i == 0) _
  where
    high : (b : Bool) (y : ℕ) → y ≡ (if b && false then 1 else y)
    high true y = refl
    high false y = refl

-- a word the other way round
bit_at-reverse_bits_onto : (k n a i : ℕ) → bit_at (reverse_bits_onto k n a) i ≡ (if nat_lt i k then bit_at n (k - 1 - i) else bit_at a (i - k))
unfolding reverse_bits_onto
bit_at-reverse_bits_onto zero n a i = let t : nat_lt i 0 ≡ false = grind (arith, nat_tests) in let z : i - 0 ≡ i = omega arith in rw (t, z)
bit_at-reverse_bits_onto (suc k) n a i = bit_at-reverse_bits_onto k (n / 2) (a * 2 + n % 2) i ∙ elim (cases_lt i k) [
  | inl l ↦ (let t : nat_lt i k ≡ true = grind (arith, nat_tests) in let u : nat_lt i (suc k) ≡ true = grind (arith, nat_tests) in
      let at : suc k - 1 - i ≡ suc (k - 1 - i) = omega arith in
      rw (t, u, at) (sym (bit_at-suc n (k - 1 - i))))
  | inr l ↦ (let t : nat_lt i k ≡ false = grind (arith, nat_tests) in rw t (elim (cases_eq i k) [
    | inl e ↦ (let u : nat_lt i (suc k) ≡ true = grind (arith, nat_tests) in
        let z : i - k ≡ 0 = omega arith in let y : suc k - 1 - i ≡ 0 = omega arith in
        rw (u, z, y) (bit_at_lowest (a * 2 + n % 2) ∙ lowest a n ∙ sym (bit_at_lowest n)))
    | inr e ↦ (let u : nat_lt i (suc k) ≡ false = grind (arith, nat_tests) in
        let at : i - k ≡ suc (i - suc k) = omega arith in
        rw (u, at) (bit_at-suc (a * 2 + n % 2) (i - suc k) ∙ ap (λ m. bit_at m (i - suc k)) (halved a n)))
  ]))
]
  where
    lowest : (a n : ℕ) → (a * 2 + n % 2) % 2 ≡ n % 2
    lowest a n = omega arith

    halved : (a n : ℕ) → (a * 2 + n % 2) / 2 ≡ a
    halved a n = omega arith

bit_at-shr : (n s i : ℕ) → bit_at (n / 2 ^ s) i ≡ bit_at n (i + s)
bit_at-shr n s i =
    let whole : n / 2 ^ s * 2 ^ s + n % 2 ^ s ≡ n = div-add-mod' n (2 ^ s) in
    let place : i + s - s ≡ i = omega arith in
    sym (ap (λ m. bit_at m (i + s)) (sym whole) ∙ bit_at_cat_high (n / 2 ^ s) s (n % 2 ^ s) (i + s) (mod-lt n (pow_pos s)) (omega arith) ∙ ap (bit_at (n / 2 ^ s)) place)

pub bit_at-turned : (mask count i : ℕ) → 0 < count → count ≤ 32 → i < 32 → bit_at (reverse_bits w32 mask / 2 ^ (32 - count)) i ≡ (if nat_lt i count then bit_at mask (count - 1 - i) else 0)
bit_at-turned mask count i some few within = bit_at-shr (reverse_bits w32 mask) (32 - count) i ∙ bit_at-reverse_bits_onto 32 mask 0 (i + (32 - count)) ∙ elim (cases_lt i count) [
  | inl l ↦ (let t : nat_lt i count ≡ true = grind (arith, nat_tests) in let u : nat_lt (i + (32 - count)) 32 ≡ true = grind (arith, nat_tests) in
      let at : 32 - 1 - (i + (32 - count)) ≡ count - 1 - i = omega arith in rw (t, u, at))
  | inr l ↦ (let t : nat_lt i count ≡ false = grind (arith, nat_tests) in let u : nat_lt (i + (32 - count)) 32 ≡ false = grind (arith, nat_tests) in
      rw (t, u) (bit_at-zero (i + (32 - count) - 32)))
]
