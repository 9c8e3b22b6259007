-- Bits are lists of truth values, the first bit first. A number has a width and is spelled with its
-- least bit first; bytes are spelled one after the other. A datagram is the bytes that its bits take,
-- the last byte filled with zero bits.
use Rattle.std.proofs.Common.{refl}
use Rattle.std.specs.Prelude.{ℕ, zero, suc, ◌+◌, ◌*◌, ◌/◌, ◌%◌, ◌==◌, ◌≡◌, Bool, true, false, if◌then◌else◌, List, [], ◌∷◌, ◌++◌, length}
use Rattle.std.specs.List.{flat_map}

-- the lowest `width` bits of a number, the least first
unfoldable pub number : ℕ → ℕ → List Bool
number zero n = []
number (suc width) n = (n % 2 == 1) ∷ number width (n / 2)

-- the number whose bits these are, the least first
unfoldable pub number_from : List Bool → ℕ
number_from [] = 0
number_from (bit ∷ bits) = (if bit then 1 else 0) + 2 * number_from bits

-- the bits of bytes, one byte after the other
unfoldable pub bits_of : List ℕ → List Bool
bits_of bytes = flat_map (number 8) bytes

-- the lowest `count` bytes of a number, the least first
unfoldable pub low_bytes : ℕ → ℕ → List ℕ
low_bytes zero n = []
low_bytes (suc count) n = n % 256 ∷ low_bytes count (n / 256)

-- how many bytes these bits take
abbrev pub bytes_for : List Bool → ℕ
bytes_for bits = (length bits + 7) / 8

-- these bits in as few bytes as they take, the last one filled with zero bits
unfoldable pub datagram : List Bool → List ℕ
datagram bits = low_bytes (bytes_for bits) (number_from bits)

-- a writer: the bits so far, the bytes that there is room for in all, and those that stand in its buffer already
pub record Written : Type 0 where
  pub bits : List Bool
  pub size : ℕ
  pub whole : List ℕ

-- ---- examples

five_in_four_bits : number 4 5 ≡ true ∷ false ∷ true ∷ false ∷ []
unfolding number
five_in_four_bits = refl

five_again : number_from (true ∷ false ∷ true ∷ false ∷ []) ≡ 5
unfolding number_from
five_again = refl

-- the header of a first datagram, up to its sequence number: bit 6 is the least bit of seq
sequence_number_one : datagram (number 2 0 ++ number 4 0 ++ number 24 1) ≡ 64 ∷ 0 ∷ 0 ∷ 0 ∷ []
unfolding datagram number number_from low_bytes
sequence_number_one = refl
