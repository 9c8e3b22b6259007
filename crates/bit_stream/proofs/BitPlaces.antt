-- Where a bit of a number, and of bytes, stands.
use Rattle.std.proofs.Common.{◌≡◌, ℕ, zero, suc, ◌+◌, ◌-◌, ◌*◌, ◌/◌, ◌%◌, ◌<◌, ◌≤◌, Bool, true, false, List, [], ◌∷◌, ◌++◌, length, get_or, refl, sym, ap, ◌∙◌, arith}
use Rattle.std.specs.Prelude.{◌==◌, nat_lt}
use Rattle.std.specs.Int.{bit_at}
use Rattle.std.proofs.lemmas.Bool.{ltb-true, ltb-false}
use Rattle.std.proofs.lemmas.Nat.Bits.{bit_at_lowest, bit_at-suc}
use Rattle.bit_stream.specs.Bits.{number, bits_of}
use Rattle.bit_stream.proofs.Numbers.{length-number}
use Rattle.bit_stream.proofs.Datagrams.{bits_of-cons}

pub bit_of-number : (width n k : ℕ) → k < width → get_or (number width n) k false ≡ (bit_at n k == 1)
unfolding number
bit_of-number zero n k h = absurd (omega arith)
bit_of-number (suc width) n zero h = ap (λ m. m == 1) (sym (bit_at_lowest n))
bit_of-number (suc width) n (suc k) h = bit_of-number width (n / 2) k (omega arith) ∙ ap (λ m. m == 1) (sym (bit_at-suc n k))

within_front : (front rest : List Bool) (k : ℕ) → k < length front → get_or (front ++ rest) k false ≡ get_or front k false
within_front [] rest k h = absurd (omega arith)
within_front (x ∷ front) rest zero h = refl
within_front (x ∷ front) rest (suc k) h = within_front front rest k (omega arith)

behind_front : (front rest : List Bool) (k j : ℕ) → k ≡ length front + j → get_or (front ++ rest) k false ≡ get_or rest j false
behind_front [] rest k j e =
    let same : k ≡ j = omega arith in
    rw same refl
behind_front (x ∷ front) rest zero j e = absurd (omega arith)
behind_front (x ∷ front) rest (suc k) j e = behind_front front rest k j (omega arith)

pub bit_of-bytes : (bytes : List ℕ) (k : ℕ) → k < 8 * length bytes → get_or (bits_of bytes) k false ≡ (bit_at (get_or bytes (k / 8) 0) (k % 8) == 1)
bit_of-bytes [] k h = absurd (omega arith)
bit_of-bytes (b ∷ bytes) k h = ap (λ (bits : List Bool). get_or bits k false) (bits_of-cons b bytes) ∙ at_byte (nat_lt k 8) refl (λ (below : k - 8 < 8 * length bytes). bit_of-bytes bytes (k - 8) below)
  where
    at_byte : (low : Bool) → nat_lt k 8 ≡ low → (k - 8 < 8 * length bytes → get_or (bits_of bytes) (k - 8) false ≡ (bit_at (get_or bytes ((k - 8) / 8) 0) ((k - 8) % 8) == 1))
        → get_or (number 8 b ++ bits_of bytes) k false ≡ (bit_at (get_or (b ∷ bytes) (k / 8) 0) (k % 8) == 1)
    at_byte true e others =
        let low : k < 8 = ltb-true _ _ e in
        let first : k / 8 ≡ 0 = omega arith in
        let bit : k % 8 ≡ k = omega arith in
        within_front (number 8 b) (bits_of bytes) k (omega (arith, length-number 8 b)) ∙ bit_of-number 8 b k low ∙ rw (first, bit) refl
    at_byte false e others =
        let high : 8 ≤ k = ltb-false _ _ e in
        let later : k / 8 ≡ suc ((k - 8) / 8) = omega arith in
        let bit : k % 8 ≡ (k - 8) % 8 = omega arith in
        behind_front (number 8 b) (bits_of bytes) k (k - 8) (omega (arith, length-number 8 b)) ∙ others (omega arith) ∙ rw (later, bit) refl
