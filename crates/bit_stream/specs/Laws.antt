-- Three laws of the definitions: where a bit of bytes stands, that what was written is read again,
-- and that bytes have the bits they were made of.
use Rattle.std.specs.Prelude.{ℕ, ◌+◌, ◌*◌, ◌/◌, ◌%◌, ◌-◌, ◌^◌, ◌<◌, ◌==◌, ◌≡◌, Bool, false, List, ◌++◌, length, replicate, slice_index, slice_index_or, Ok}
use Rattle.std.specs.Int.{bit_at}
use Rattle.bit_stream.specs.Bits.{number, bits_of, bytes_for, datagram}
use Rattle.bit_stream.specs.Reading.{number_at}

-- bit k of bytes is bit `k mod 8` of byte `k div 8`
abbrev pub BitOfBytes : Type 0
BitOfBytes = (bytes : List ℕ) (k : ℕ) → k < 8 * length bytes
    → slice_index_or (bits_of bytes) k false ≡ (bit_at (slice_index bytes (k / 8)) (k % 8) == 1)

-- a number that was written is read again, whatever follows it
abbrev pub NumberComesBack : Type 0
NumberComesBack = (width n place : ℕ) (rest : List Bool) → n < 2 ^ width
    → number_at width (record { place = place; rest = number width n ++ rest }) ≡ Ok (n, record { place = place + width; rest = rest })

-- the zero bits that fill the last byte, fewer than eight
abbrev pub padding : List Bool → ℕ
padding bits = 8 * bytes_for bits - length bits

-- the bytes of these bits have these bits and then the padding
abbrev pub BitsComeBack : Type 0
BitsComeBack = (bits : List Bool) → (bits_of (datagram bits) ≡ bits ++ replicate (padding bits) false) × (padding bits < 8)
