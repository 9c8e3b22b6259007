-- Laws of the bits of numbers.
use Rattle.std.proofs.Common.{◌≡◌, ℕ, zero, suc, ◌+◌, ◌*◌, ◌/◌, ◌%◌, ◌^◌, ◌<◌, Bool, true, false, nat_eq, List, [], ◌∷◌, ◌++◌, length, replicate, refl, ap, ◌∙◌, arith}
use Rattle.std.specs.Prelude.{if◌then◌else◌, not, ◌&&◌}
use Rattle.std.specs.List.{list_all}
use Rattle.std.proofs.lemmas.Nat.{pow_pos, mod_below, div-add-mod'}
use Rattle.std.proofs.lemmas.List.{append-nil}
use Rattle.std.proofs.Math.Nat.{pow-suc}
use Rattle.bit_stream.specs.Bits.{number, number_from}

pub length-number : (w n : ℕ) → length (number w n) ≡ w
unfolding number
length-number zero n = refl
length-number (suc w) n = ap suc (length-number w (n / 2))

twice : (a y : ℕ) → 2 ^ suc a * y ≡ 2 * (2 ^ a * y)
twice a y = rw (pow-suc) (grind arith)

-- x below 2 ^ a, and then y
pub number-join : (a b c x y n : ℕ) → c ≡ a + b → n ≡ x + 2 ^ a * y → x < 2 ^ a → number c n ≡ number a x ++ number b y
unfolding number
number-join zero b c x y n ec en h =
    let same : n ≡ y = omega arith in
    let w : c ≡ b = omega arith in
    rw (same, w) refl
number-join (suc a) b c x y n ec en h =
    let w : c ≡ suc (a + b) = omega arith in
    let p : 2 ^ suc a ≡ 2 * 2 ^ a = grind (arith, pow-suc) in
    let t = twice a y in
    let odd : n % 2 ≡ x % 2 = omega arith in
    let half : n / 2 ≡ x / 2 + 2 ^ a * y = omega arith in
    let below : x / 2 < 2 ^ a = omega arith in
    rw (w, odd, number-join a b (a + b) (x / 2) y (n / 2) refl half below) refl

pub number_from-number : (w n : ℕ) → n < 2 ^ w → number_from (number w n) ≡ n
unfolding number number_from
number_from-number zero n h = omega arith
number_from-number (suc w) n h =
    let p : 2 ^ suc w ≡ 2 * 2 ^ w = grind (arith, pow-suc) in
    let half = number_from-number w (n / 2) (omega arith) in
    rw half (bit n)
  where
    bit : (n : ℕ) → (if nat_eq (n % 2) 1 then 1 else 0) + 2 * (n / 2) ≡ n
    bit n = grind arith

pub number_from_below : (bits : List Bool) → number_from bits < 2 ^ length bits
unfolding number_from
number_from_below [] = omega arith
number_from_below (b ∷ bits) =
    let p : 2 ^ suc (length bits) ≡ 2 * 2 ^ length bits = grind (arith, pow-suc) in
    let rest = number_from_below bits in
    elim b as (λ c. (if c then 1 else 0) + 2 * number_from bits < 2 ^ suc (length bits)) [ true ↦ omega arith | false ↦ omega arith ]

number-zero : (k : ℕ) → number k 0 ≡ replicate k false
unfolding number
number-zero zero = refl
number-zero (suc k) = ap (λ (bits : List Bool). false ∷ bits) (number-zero k)

-- the bits of their number, at a width that is no less
pub number-number_from_wide : (bits : List Bool) (k w : ℕ) → w ≡ length bits + k → number w (number_from bits) ≡ bits ++ replicate k false
unfolding number number_from
number-number_from_wide [] k w e =
    let same : w ≡ k = omega arith in
    rw same (number-zero k)
number-number_from_wide (b ∷ bits) k w e =
    let more : w ≡ suc (length bits + k) = omega (arith, e) in
    let rest = number-number_from_wide bits k (length bits + k) refl in
    rw more (first b (number_from bits) (length bits + k) (bits ++ replicate k false) rest)
  where
    first : (b : Bool) (v w : ℕ) (bits : List Bool) → number w v ≡ bits → number (suc w) ((if b then 1 else 0) + 2 * v) ≡ b ∷ bits
    first true v w bits e =
        let odd : (1 + 2 * v) % 2 ≡ 1 = omega arith in
        let half : (1 + 2 * v) / 2 ≡ v = omega arith in
        rw (odd, half, e) refl
    first false v w bits e =
        let odd : (0 + 2 * v) % 2 ≡ 0 = omega arith in
        let half : (0 + 2 * v) / 2 ≡ v = omega arith in
        rw (odd, half, e) refl

pub number-number_from : (bits : List Bool) (w : ℕ) → length bits ≡ w → number w (number_from bits) ≡ bits
number-number_from bits w e = number-number_from_wide bits 0 w (omega arith) ∙ append-nil bits

-- the low a bits, and then the rest
pub number-split : (a b c n : ℕ) → c ≡ a + b → number c n ≡ number a (n % 2 ^ a) ++ number b (n / 2 ^ a)
number-split a b c n e =
    let pos = pow_pos a in
    let shape : n ≡ n % 2 ^ a + 2 ^ a * (n / 2 ^ a) = grind (arith, div-add-mod') in
    number-join a b c (n % 2 ^ a) (n / 2 ^ a) n e shape (mod_below n (2 ^ a) pos)

pub all_clear-number : (w n : ℕ) → n < 2 ^ w → list_all not (number w n) ≡ nat_eq n 0
unfolding number
all_clear-number zero n h =
    let none : n ≡ 0 = omega arith in
    rw none refl
all_clear-number (suc w) n h =
    let p : 2 ^ suc w ≡ 2 * 2 ^ w = grind (arith, pow-suc) in
    let rest = all_clear-number w (n / 2) (omega arith) in
    rw rest (either n)
  where
    either : (n : ℕ) → (not (nat_eq (n % 2) 1) && nat_eq (n / 2) 0) ≡ nat_eq n 0
    either n = grind arith

pub all_clear : (bits : List Bool) → list_all not bits ≡ true → bits ≡ replicate (length bits) false
all_clear [] e = refl
all_clear (true ∷ bits) e = absurd cc
all_clear (false ∷ bits) e = ap (λ (bits : List Bool). false ∷ bits) (all_clear bits e)

pub number_from-clear : (bits : List Bool) (k : ℕ) → number_from (bits ++ replicate k false) ≡ number_from bits
unfolding number_from
number_from-clear [] zero = refl
number_from-clear [] (suc k) = ap (λ n. 0 + 2 * n) (number_from-clear [] k)
number_from-clear (b ∷ bits) k = ap (λ n. (if b then 1 else 0) + 2 * n) (number_from-clear bits k)

pub number_from-append : (bits more : List Bool) → number_from (bits ++ more) ≡ number_from bits + 2 ^ length bits * number_from more
unfolding number_from
number_from-append [] more = omega arith
number_from-append (b ∷ bits) more =
    let rest = number_from-append bits more in
    let t = twice (length bits) (number_from more) in
    elim b as (λ c. (if c then 1 else 0) + 2 * number_from (bits ++ more) ≡ ((if c then 1 else 0) + 2 * number_from bits) + 2 ^ suc (length bits) * number_from more) [ true ↦ omega arith | false ↦ omega arith ]
