-- What a writer keeps.
use Rattle.std.proofs.Common.{◌≡◌, ℕ, zero, suc, ◌+◌, ◌-◌, ◌*◌, ◌/◌, ◌%◌, ◌^◌, ◌<◌, ◌≤◌, Bool, List, [], ◌∷◌, ◌++◌, length, take, drop, get_or, refl, sym, ap, ◌∙◌, subst, arith, append_assoc, length-append}
use Rattle.std.proofs.lemmas.Nat.{shl_whole, pow-add, shr_below, pow_below, pow_pos, mod_below, mod-pow-add, shl-shr, le_bytes_8}
use Rattle.std.proofs.lemmas.List.{append-nil, take-append-drop}
use Rattle.std.proofs.Math.Nat.{mul-le-mul_left, mul-mod_left, div-div-eq-div-mul, pow-suc}
use Rattle.bit_stream.specs.Bits.{number, number_from, bits_of, low_bytes, datagram, bytes_for}
use Rattle.bit_stream.specs.Writer.{written}
use Rattle.tn_types.specs.Bytes.{AreBytes}
use Rattle.tn_types.specs.declared.limits.TheConstants.{MAX_WORD_BITS}
use Rattle.bit_stream.specs.declared.writer.BitWriter.TheInside.{Inside}
use Rattle.bit_stream.proofs.Numbers.{number-join, number-split, length-number, number_from-number}
use Rattle.bit_stream.proofs.Datagrams.{bits_of-push, bits_of-low_bytes, low_bytes-whole, length-bits_of}
use Rattle.std.proofs.lemmas.Grind.{flat_map-append}
use Rattle.std.specs.Int.{w32, w64, to_le_bytes, from_le_bytes}

pub shifted : (value width count : ℕ) → value < 2 ^ width → count + width < 2 * MAX_WORD_BITS → (value * 2 ^ count) % 2 ^ 64 ≡ 2 ^ count * value
shifted value width count fits few =
    shl_whole value width count 64 fits (omega arith) ∙ grind arith

pub join_below : (a b x y : ℕ) → x < 2 ^ a → y < 2 ^ b → x + 2 ^ a * y < 2 ^ (a + b)
join_below a b x y hx hy =
    let m : 2 ^ a * (y + 1) ≤ 2 ^ a * 2 ^ b = mul-le-mul_left (2 ^ a) (omega arith) in
    rw pow-add (omega arith)

-- the four bytes of a word are its 32 bits
word_bytes : (n : ℕ) → to_le_bytes w32 n ≡ low_bytes 4 n
unfolding low_bytes
word_bytes n =
    let second : n / 256 / 256 ≡ n / 65536 = omega arith in
    let third : n / 65536 / 256 ≡ n / 16777216 = omega arith in
    rw (second, third) refl

bits_of-append : (bytes more : List ℕ) → bits_of (bytes ++ more) ≡ bits_of bytes ++ bits_of more
unfolding bits_of
bits_of-append bytes more = flat_map-append (number 8) bytes more

AreBytes-append : (bytes more : List ℕ) → AreBytes bytes → AreBytes more → AreBytes (bytes ++ more)
AreBytes-append [] more fits others = others
AreBytes-append (b ∷ bytes) more fits others = (fits.0, AreBytes-append bytes more fits.1 others)

AreBytes-low_bytes : (count n : ℕ) → AreBytes (low_bytes count n)
unfolding low_bytes
AreBytes-low_bytes zero n = tt
AreBytes-low_bytes (suc count) n = (omega arith, AreBytes-low_bytes count (n / 256))

-- four bytes leave the pending bits
pub flushed_word : (whole : List ℕ) (pending count : ℕ) → MAX_WORD_BITS ≤ count → bits_of (whole ++ to_le_bytes w32 (pending % 2 ^ 32)) ++ number (count - MAX_WORD_BITS) (pending / 2 ^ 32) ≡ bits_of whole ++ number count pending
flushed_word whole pending count h =
    let word = pending % 2 ^ 32 in
    let high = number (count - MAX_WORD_BITS) (pending / 2 ^ 32) in
    ap (λ (t : List Bool). t ++ high) (bits_of-append whole (to_le_bytes w32 word))
    ∙ append_assoc (bits_of whole) (bits_of (to_le_bytes w32 word)) high
    ∙ ap (λ (t : List Bool). bits_of whole ++ (t ++ high)) (ap bits_of (word_bytes word) ∙ bits_of-low_bytes 4 32 word refl)
    ∙ ap (λ (t : List Bool). bits_of whole ++ t) (sym (number-split 32 (count - MAX_WORD_BITS) count pending (omega arith)))

-- what a word holds of a value behind pending bits
low_part : (c d w v : ℕ) → w ≡ d + c → (v * 2 ^ c) % 2 ^ w ≡ 2 ^ c * (v % 2 ^ d)
low_part c d w v e = rw (e, mod-pow-add (v * 2 ^ c) d c, shl-shr v c, mul-mod_left v (2 ^ c)) (grind arith)

number-mod : (d v : ℕ) → number d (v % 2 ^ d) ≡ number d v
unfolding number
number-mod d v = sym (number-split d 0 d v (omega arith) ∙ append-nil (number d (v % 2 ^ d)))

-- the word that leaves: the pending bits, and the lowest bits of the value
pub word_of_both : (c d w p v : ℕ) → w ≡ c + d → p < 2 ^ c → number w (p + (v * 2 ^ c) % 2 ^ w) ≡ number c p ++ number d v
word_of_both c d w p v e h =
    let low : p + (v * 2 ^ c) % 2 ^ w ≡ p + 2 ^ c * (v % 2 ^ d) = ap (λ n. p + n) (low_part c d w v (omega (arith, e))) in
    number-join c d w p (v % 2 ^ d) (p + (v * 2 ^ c) % 2 ^ w) e low h ∙ ap (λ (t : List Bool). number c p ++ t) (number-mod d v)

pub word_of_both_below : (c d w p v : ℕ) → w ≡ c + d → p < 2 ^ c → p + (v * 2 ^ c) % 2 ^ w < 2 ^ w
word_of_both_below c d w p v e h =
    let low = low_part c d w v (omega (arith, e)) in
    rw (low, e) (join_below c d p (v % 2 ^ d) h (mod_below v (2 ^ d) (pow_pos d)))

-- what is left of the value then
pub high_part : (c d v : ℕ) → 64 ≡ c + d → 0 < d → v / 2 / 2 ^ (63 - c) ≡ v / 2 ^ d
high_part c d v e h =
    let k : d ≡ suc (63 - c) = omega arith in
    rw (k, div-div-eq-div-mul v 2 (2 ^ (63 - c)), pow-suc) (ap (λ n. v / n) (grind arith))

-- eight bytes of a word are its 64 bits
word_bytes_8 : (n : ℕ) → to_le_bytes w64 n ≡ low_bytes 8 n
unfolding low_bytes
word_bytes_8 n =
    let a : n / 256 / 256 ≡ n / 65536 = omega arith in
    let b : n / 65536 / 256 ≡ n / 16777216 = omega arith in
    let d : n / 16777216 / 256 ≡ n / 4294967296 = omega arith in
    let e : n / 4294967296 / 256 ≡ n / 1099511627776 = omega arith in
    let f : n / 1099511627776 / 256 ≡ n / 281474976710656 = omega arith in
    let g : n / 281474976710656 / 256 ≡ n / 72057594037927936 = omega arith in
    rw (a, b, d, e, f, g) refl

-- a value behind the pending bits, where both fit a word
whole_value : (c width v : ℕ) → v < 2 ^ width → c + width ≤ 64 → (v * 2 ^ c) % 2 ^ 64 ≡ 2 ^ c * v
whole_value c width v fits few = shl_whole v width c 64 fits (omega arith) ∙ grind arith

pub word_in_one : (c width p v : ℕ) → p < 2 ^ c → v < 2 ^ width → c + width ≤ 64 → number (c + width) (p + (v * 2 ^ c) % 2 ^ 64) ≡ number c p ++ number width v
word_in_one c width p v below fits few =
    number-join c width (c + width) p v (p + (v * 2 ^ c) % 2 ^ 64) refl (ap (λ n. p + n) (whole_value c width v fits few)) below

pub word_in_one_below : (c width p v : ℕ) → p < 2 ^ c → v < 2 ^ width → c + width ≤ 64 → p + (v * 2 ^ c) % 2 ^ 64 < 2 ^ (c + width)
word_in_one_below c width p v below fits few = let e = whole_value c width v fits few in rw e (join_below c width p v below fits)

-- eight bytes leave, where both don't fit
pub left_word : (whole : List ℕ) (p c v width : ℕ) → p < 2 ^ c → c < 64 → 64 ≤ c + width
    → bits_of (whole ++ to_le_bytes w64 (p + (v * 2 ^ c) % 2 ^ 64)) ++ number (c + width - 64) (v / 2 / 2 ^ (63 - c)) ≡ bits_of whole ++ (number c p ++ number width v)
left_word whole p c v width below few many =
    let d = 64 - c in
    let e : 64 ≡ c + d = omega arith in
    let word = p + (v * 2 ^ c) % 2 ^ 64 in
    let high = number (c + width - 64) (v / 2 ^ d) in
    let parted : number width v ≡ number d v ++ high = number-split d (c + width - 64) width v (omega arith) ∙ ap (λ (t : List Bool). t ++ high) (number-mod d v) in
    ap (λ n. bits_of (whole ++ to_le_bytes w64 word) ++ number (c + width - 64) n) (high_part c d v e (omega arith))
    ∙ ap (λ (t : List Bool). t ++ high) (bits_of-append whole (to_le_bytes w64 word))
    ∙ append_assoc (bits_of whole) (bits_of (to_le_bytes w64 word)) high
    ∙ ap (λ (t : List Bool). bits_of whole ++ (t ++ high)) (ap bits_of (word_bytes_8 word) ∙ bits_of-low_bytes 8 64 word refl ∙ word_of_both c d 64 p v e below)
    ∙ ap (λ (t : List Bool). bits_of whole ++ t) (append_assoc (number c p) (number d v) high ∙ ap (λ (t : List Bool). number c p ++ t) (sym parted))

pub left_below : (c width v : ℕ) → c < 64 → 64 ≤ c + width → v < 2 ^ width → v / 2 / 2 ^ (63 - c) < 2 ^ (c + width - 64)
left_below c width v few many fits =
    let d = 64 - c in
    let e = high_part c d v (omega arith) (omega arith) in
    let w : width ≡ (c + width - 64) + d = omega arith in
    rw e (shr_below v (c + width - 64) d (subst (λ (k : ℕ). v < 2 ^ k) w fits))

-- eight bytes are the 64 bits of the number that they are
pub long_bits : (bytes : List ℕ) (n : ℕ) → length bytes ≡ 8 → ((i : ℕ) → get_or bytes i 0 < 256) → n ≡ from_le_bytes w64 bytes → number 64 n ≡ bits_of bytes
long_bits bytes n eight fits e = sym (bits_of-low_bytes 8 64 n refl) ∙ ap bits_of (sym (word_bytes_8 n) ∙ le_bytes_8 bytes n eight fits e)

-- the first bytes are written, and the others are left
pub first_put : (old new front : List Bool) (bytes others : List ℕ) (k : ℕ) → new ≡ old ++ front → front ≡ bits_of (take k bytes) → others ≡ drop k bytes
    → new ++ bits_of others ≡ old ++ bits_of bytes
first_put old new front bytes others k is of rest =
    rw (is, of, rest) (append_assoc old (bits_of (take k bytes)) (bits_of (drop k bytes)))
    ∙ ap (λ (t : List Bool). old ++ t) (sym (bits_of-append (take k bytes) (drop k bytes)) ∙ ap bits_of (take-append-drop k bytes))

pub first_byte : (bytes front : List ℕ) (b : ℕ) → 0 < length bytes → front ≡ take 1 bytes → b ≡ get_or front 0 0 → number 8 b ≡ bits_of (take 1 bytes)
unfolding bits_of
first_byte [] front b some is e = absurd (omega arith)
first_byte (x ∷ bytes) front b some is e = rw (e, is) (sym (append-nil (number 8 x)))

pub all_put : (new whole : List Bool) (others : List ℕ) → length others ≡ 0 → new ++ bits_of others ≡ whole → new ≡ whole
unfolding bits_of
all_put new whole [] none is = sym (append-nil new) ∙ is
all_put new whole (x ∷ others) none is = absurd (omega arith)

pub word_below : (pending count : ℕ) → MAX_WORD_BITS ≤ count → pending < 2 ^ count → pending / 2 ^ 32 < 2 ^ (count - MAX_WORD_BITS)
word_below pending count h lt =
    let e : count ≡ (count - MAX_WORD_BITS) + 32 = omega arith in
    shr_below pending (count - MAX_WORD_BITS) 32 (rw (← e) lt)

pub word_fits : (whole : List ℕ) (n : ℕ) → AreBytes whole → AreBytes (whole ++ to_le_bytes w32 n)
word_fits whole n fits = AreBytes-append whole (to_le_bytes w32 n) fits (subst AreBytes (sym (word_bytes n)) (AreBytes-low_bytes 4 n))

-- one byte leaves the pending bits
pub flushed : (whole : List ℕ) (pending count : ℕ) → 8 ≤ count → bits_of (whole ++ pending % 256 ∷ []) ++ number (count - 8) (pending / 256) ≡ bits_of whole ++ number count pending
flushed whole pending count h =
    ap (λ (t : List Bool). t ++ number (count - 8) (pending / 256)) (bits_of-push whole (pending % 256))
    ∙ append_assoc (bits_of whole) (number 8 (pending % 256)) (number (count - 8) (pending / 256))
    ∙ ap (λ (t : List Bool). bits_of whole ++ t) (sym (number-split 8 (count - 8) count pending (omega arith)))

pub flushed_below : (pending count : ℕ) → 8 ≤ count → pending < 2 ^ count → pending / 256 < 2 ^ (count - 8)
flushed_below pending count h lt =
    let e : count ≡ (count - 8) + 8 = omega arith in
    shr_below pending (count - 8) 8 (rw (← e) lt)

pub byte_below : (pending count : ℕ) → count < 8 → pending < 2 ^ count → pending < 256
byte_below pending count few lt =
    let p : 2 ^ count < 2 ^ 8 = pow_below count 8 few in
    omega arith

pub finished : (whole : List ℕ) (pending count : ℕ) → AreBytes whole → 0 < count → count < 8 → pending < 2 ^ count → datagram (bits_of whole ++ number count pending) ≡ whole ++ pending ∷ []
unfolding datagram low_bytes
finished whole pending count fits some few lt =
    let bits = bits_of whole ++ number count pending in
    let m : bytes_for bits ≡ length whole + 1 = omega (arith, length-append (bits_of whole) (number count pending), length-bits_of whole, length-number count pending) in
    let p : 2 ^ count < 2 ^ 8 = pow_below count 8 few in
    let low : pending % 256 ≡ pending = omega arith in
    low_bytes-whole whole (number count pending) (bytes_for bits) 1 fits m
    ∙ ap (λ n. whole ++ low_bytes 1 n) (number_from-number count pending lt)
    ∙ ap (λ n. whole ++ n ∷ []) low

pub finished_even : (whole : List ℕ) (pending count : ℕ) → AreBytes whole → count ≡ 0 → datagram (bits_of whole ++ number count pending) ≡ whole
unfolding datagram low_bytes
finished_even whole pending count fits none =
    let bits = bits_of whole ++ number count pending in
    let m : bytes_for bits ≡ length whole + 0 = omega (arith, length-append (bits_of whole) (number count pending), length-bits_of whole, length-number count pending) in
    low_bytes-whole whole (number count pending) (bytes_for bits) 0 fits m ∙ append-nil whole

pub length-written : (w : Inside) → length (written w).bits ≡ 8 * length w.whole.items + w.count
length-written w = omega (arith, length-append (bits_of w.whole.items) (number w.count w.pending), length-bits_of w.whole.items, length-number w.count w.pending)

length-low_bytes : (count n : ℕ) → length (low_bytes count n) ≡ count
unfolding low_bytes
length-low_bytes zero n = refl
length-low_bytes (suc count) n = ap suc (length-low_bytes count (n / 256))

pub length-datagram : (bits : List Bool) → length (datagram bits) ≡ bytes_for bits
unfolding datagram
length-datagram bits = length-low_bytes (bytes_for bits) (number_from bits)
