-- Bits of a word.
use Rattle.std.proofs.Common.{◌≡◌, ℕ, ◌*◌, ◌^◌, ◌%◌, ◌<◌, bit_or, ap, ◌∙◌, arith}
use Rattle.std.specs.Int.{bit_at}
use Rattle.std.proofs.lemmas.Nat.{one_shl}
use Rattle.std.proofs.lemmas.Nat.Bits.{bit_at_or, bit_at-pow_same, bit_at-pow_other}

pub bit_set : (word n : ℕ) → n < 64 → bit_at (bit_or word (1 * 2 ^ n % 18446744073709551616)) n ≡ 1
bit_set word n l =
    let e : 1 * 2 ^ n % 18446744073709551616 ≡ 2 ^ n = one_shl n 64 l in
    ap (λ w. bit_at (bit_or word w) n) e ∙ bit_at_or word (2 ^ n) n ∙ omega (arith, bit_at-pow_same n)

pub bit_kept : (word n b : ℕ) → n < 64 → (b ≡ n → ⊥) → bit_at (bit_or word (1 * 2 ^ n % 18446744073709551616)) b ≡ bit_at word b
bit_kept word n b l other =
    let e : 1 * 2 ^ n % 18446744073709551616 ≡ 2 ^ n = one_shl n 64 l in
    ap (λ w. bit_at (bit_or word w) b) e ∙ bit_at_or word (2 ^ n) b ∙ omega (arith, bit_at-pow_other n b other)
