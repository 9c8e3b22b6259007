-- A word of bits as a function from places to truth values, place 0 being the lowest bit. Masks are said in this way, so
-- that a clause tells what each bit means and not how the word was made.
use Rattle.std.specs.Prelude.{◌≡◌, ℕ, zero, suc, ◌+◌, ◌^◌, ◌*◌, Bool, true, false, ◌||◌, ◌==◌, refl}
use Rattle.std.specs.Int.{bit_at}

-- the word has the bit of this place
abbrev pub has_bit : ℕ → ℕ → Bool
has_bit word place = bit_at word place == 1

abbrev pub bit_of : Bool → ℕ
bit_of true = 1
bit_of false = 0

-- the number whose bits below n are these
unfoldable pub from_bits : (ℕ → Bool) → ℕ → ℕ
from_bits f zero = 0
from_bits f (suc n) = bit_of (f n) * 2 ^ n + from_bits f n

-- places 0 and 2 of three
five : from_bits (λ i. i == 0 || i == 2) 3 ≡ 5
unfolding from_bits
five = refl
