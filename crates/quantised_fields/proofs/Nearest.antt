-- Rounding to the nearest level and back, over plain numbers.
use Rattle.std.proofs.Common.{◌≡◌, ℕ, ◌+◌, ◌-◌, ◌*◌, ◌/◌, ◌<◌, ◌≤◌, arith, inl, inr}
use Rattle.std.proofs.Math.Nat.{mul-le-mul_left, mul-le-mul_right}
use Rattle.std.proofs.lemmas.Bool.{cases_lt}
use Rattle.quantised_fields.specs.Levels.{level_in, shown_in}

-- a quotient, by its two bounds
pub record Quotient (x n q : ℕ) : Type 0 where
  pub low : n * q ≤ x
  pub high : x < n * q + n

pub quotient : (x n : ℕ) → 0 < n → Quotient x n (x / n)
quotient x n h = record { low = omega arith; high = omega arith }

-- q is at most m where the dividend is below n * (m + 1)
pub quotient_at_most : (x n q m : ℕ) → Quotient x n q → x < n * m + n → q ≤ m
quotient_at_most x n q m k h =
    elim (cases_lt m q) [ inl lt ↦ (let p : n * (m + 1) ≤ n * q = mul-le-mul_left n (omega arith) in absurd (omega (arith, k.low))) | inr le ↦ le ]

pub level_fits : (d r m : ℕ) → d ≤ r → 0 < r → level_in d r m ≤ m
level_fits d r m le above =
    let k = quotient (2 * d * m + r) (2 * r) (omega arith) in
    let p : d * m ≤ r * m = mul-le-mul_right m le in
    quotient_at_most (2 * d * m + r) (2 * r) (level_in d r m) m k (omega arith)

pub shown_fits : (q r m : ℕ) → q ≤ m → 0 < m → shown_in q r m ≤ r
shown_fits q r m le above =
    let k = quotient (2 * q * r + m) (2 * m) (omega arith) in
    let p : q * r ≤ m * r = mul-le-mul_right r le in
    quotient_at_most (2 * q * r + m) (2 * m) (shown_in q r m) r k (omega arith)

product : (m a b e : ℕ) → e + b ≡ a → m * e + m * b ≡ m * a
product m a b e h = rw (← h) (omega arith)

-- two numbers times m are at most r + m apart, and s is what the level l of d shows
pub near : (d r m l s : ℕ) → Quotient (2 * d * m + r) (2 * r) l → Quotient (2 * l * r + m) (2 * m) s → 2 * m * ((s - d) + (d - s)) ≤ r + m
near d r m l s p q =
    elim (cases_lt s d) [
      | inl lt ↦ (let e : (s - d) + (d - s) ≡ d - s = omega arith in let k = product m d s (d - s) (omega arith) in rw e (omega (arith, p.low, p.high, q.low, q.high, k)))
      | inr le ↦ (let e : (s - d) + (d - s) ≡ s - d = omega arith in let k = product m s d (s - d) (omega arith) in rw e (omega (arith, p.low, p.high, q.low, q.high, k)))
    ]

-- where each value has its own level
own_level : (d m l : ℕ) → Quotient (2 * d * m + m) (2 * m) l → l ≡ d
own_level d m l p =
    elim (cases_lt l d) [
      | inl lt ↦ (let k : m * (l + 1) ≤ m * d = mul-le-mul_left m (omega arith) in absurd (omega (arith, p.low, p.high, k)))
      | inr le ↦ elim (cases_lt d l) [
        | inl gt ↦ (let k : m * (d + 1) ≤ m * l = mul-le-mul_left m (omega arith) in absurd (omega (arith, p.low, p.high, k)))
        | inr ge ↦ omega arith
      ]
    ]

more_levels : (d r m l s : ℕ) → r < m → Quotient (2 * d * m + r) (2 * r) l → Quotient (2 * l * r + m) (2 * m) s → s ≡ d
more_levels d r m l s more p q =
    elim (cases_lt s d) [
      | inl lt ↦ (let k : m * (s + 1) ≤ m * d = mul-le-mul_left m (omega arith) in absurd (omega (arith, p.low, p.high, q.low, q.high, k)))
      | inr le ↦ elim (cases_lt d s) [
        | inl gt ↦ (let k : m * (d + 1) ≤ m * s = mul-le-mul_left m (omega arith) in absurd (omega (arith, p.low, p.high, q.low, q.high, k)))
        | inr ge ↦ omega arith
      ]
    ]

as_many : (d r m l s : ℕ) → r ≡ m → Quotient (2 * d * m + r) (2 * r) l → Quotient (2 * l * r + m) (2 * m) s → s ≡ d
as_many d r m l s e =
    rw e (λ p q. let same = own_level d m l p in own_level d m s (rw same at q))

pub exact : (d r m l s : ℕ) → r ≤ m → Quotient (2 * d * m + r) (2 * r) l → Quotient (2 * l * r + m) (2 * m) s → s ≡ d
exact d r m l s few p q =
    elim (cases_lt r m) [ inl lt ↦ more_levels d r m l s lt p q | inr ge ↦ as_many d r m l s (omega arith) p q ]

-- a quotient is the only number within its bounds
pub only_quotient : (x n p q : ℕ) → Quotient x n p → Quotient x n q → p ≡ q
only_quotient x n p q k l =
    let le = quotient_at_most x n p q k l.high in
    let ge = quotient_at_most x n q p l k.high in
    omega arith

-- s is what level l shows, and each level has a value of its own: then s has level l
pub level_again_few : (r m l s : ℕ) → m < r → Quotient (2 * l * r + m) (2 * m) s → level_in s r m ≡ l
level_again_few r m l s few q =
    only_quotient (2 * s * m + r) (2 * r) (level_in s r m) l (quotient (2 * s * m + r) (2 * r) (omega arith))
    (record { low = omega (arith, q.low, q.high); high = omega (arith, q.low, q.high) })
