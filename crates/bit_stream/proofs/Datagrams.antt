-- Laws of bytes and their bits.
use Rattle.std.proofs.Common.{◌≡◌, ℕ, zero, suc, ◌+◌, ◌*◌, ◌/◌, ◌%◌, ◌<◌, Bool, false, List, [], ◌∷◌, ◌++◌, length, replicate, refl, sym, ap, ◌∙◌, arith, append_assoc, length-append}
use Rattle.std.proofs.lemmas.List.{append-nil, length-replicate}
use Rattle.bit_stream.specs.Bits.{number, number_from, bits_of, low_bytes, datagram, bytes_for}
use Rattle.bit_stream.specs.Laws.{padding}
use Rattle.tn_types.specs.Bytes.{AreBytes}
use Rattle.bit_stream.proofs.Numbers.{length-number, number_from-number, number-split, number-number_from_wide, number_from-clear, number_from-append}

pub AreBytes-push : (bytes : List ℕ) (b : ℕ) → b < 256 → AreBytes bytes → AreBytes (bytes ++ b ∷ [])
AreBytes-push [] b below fits = (below, tt)
AreBytes-push (x ∷ bytes) b below fits = (fits.0, AreBytes-push bytes b below fits.1)

pub bits_of-cons : (b : ℕ) (bytes : List ℕ) → bits_of (b ∷ bytes) ≡ number 8 b ++ bits_of bytes
unfolding bits_of
bits_of-cons b bytes = refl

pub bits_of-push : (bytes : List ℕ) (b : ℕ) → bits_of (bytes ++ b ∷ []) ≡ bits_of bytes ++ number 8 b
unfolding bits_of
bits_of-push [] b = append-nil (number 8 b)
bits_of-push (x ∷ bytes) b = ap (λ (t : List Bool). number 8 x ++ t) (bits_of-push bytes b) ∙ sym (append_assoc (number 8 x) (bits_of bytes) (number 8 b))

pub length-bits_of : (bytes : List ℕ) → length (bits_of bytes) ≡ 8 * length bytes
unfolding bits_of
length-bits_of [] = refl
length-bits_of (b ∷ bytes) = omega (arith, length-append (number 8 b) (bits_of bytes), length-number 8 b, length-bits_of bytes)

number_from-first : (b : ℕ) (bits : List Bool) → b < 256 → number_from (number 8 b ++ bits) ≡ b + 256 * number_from bits
number_from-first b bits h =
    number_from-append (number 8 b) bits ∙ rw (length-number 8 b, number_from-number 8 b h) refl

-- bytes, and what comes after them
pub low_bytes-whole : (bytes : List ℕ) (bits : List Bool) (m n : ℕ) → AreBytes bytes → m ≡ length bytes + n → low_bytes m (number_from (bits_of bytes ++ bits)) ≡ bytes ++ low_bytes n (number_from bits)
unfolding low_bytes bits_of
low_bytes-whole [] bits m n fits e =
    let same : m ≡ n = omega arith in
    rw same refl
low_bytes-whole (b ∷ bytes) bits m n fits e =
    let more : m ≡ suc (length bytes + n) = omega (arith, e) in
    let below : b < 256 = fits.0 in
    let v = number_from (bits_of bytes ++ bits) in
    let first : number_from ((number 8 b ++ bits_of bytes) ++ bits) ≡ b + 256 * v = ap number_from (append_assoc (number 8 b) (bits_of bytes) bits) ∙ number_from-first b (bits_of bytes ++ bits) below in
    let low : (b + 256 * v) % 256 ≡ b = omega arith in
    let high : (b + 256 * v) / 256 ≡ v = omega arith in
    rw (more, first, low, high, low_bytes-whole bytes bits (length bytes + n) n fits.1 refl) refl

-- bytes whose bits are these and fewer than eight zero bits
pub datagram_is : (bytes : List ℕ) (bits : List Bool) (k : ℕ) → AreBytes bytes → bits_of bytes ≡ bits ++ replicate k false → k < 8 → bytes ≡ datagram bits
unfolding datagram low_bytes
datagram_is bytes bits k fits e h =
    let whole = low_bytes-whole bytes [] (length bytes) 0 fits (omega arith) in
    let value : number_from (bits_of bytes ++ []) ≡ number_from bits = ap number_from (append-nil (bits_of bytes) ∙ e) ∙ number_from-clear bits k in
    let count : length bytes ≡ bytes_for bits = omega (arith, length-bits_of bytes, ap length e, length-append bits (replicate k false), length-replicate k false) in
    sym (append-nil bytes) ∙ sym whole ∙ ap (low_bytes (length bytes)) value ∙ ap (λ n. low_bytes n (number_from bits)) count

pub bits_of-low_bytes : (n m v : ℕ) → m ≡ 8 * n → bits_of (low_bytes n v) ≡ number m v
unfolding low_bytes bits_of number
bits_of-low_bytes zero m v e =
    let none : m ≡ 0 = omega arith in
    rw none refl
bits_of-low_bytes (suc n) m v e =
    let more : m ≡ 8 + 8 * n = omega (arith, e) in
    ap (λ (t : List Bool). number 8 (v % 256) ++ t) (bits_of-low_bytes n (8 * n) (v / 256) refl) ∙ sym (number-split 8 (8 * n) m v more)

pub bits_of-datagram : (bits : List Bool) → bits_of (datagram bits) ≡ bits ++ replicate (padding bits) false
unfolding datagram
bits_of-datagram bits =
    bits_of-low_bytes (bytes_for bits) (8 * bytes_for bits) (number_from bits) refl
    ∙ number-number_from_wide bits (padding bits) (8 * bytes_for bits) (omega arith)
