-- Reading goes from the first bit on. A reader knows how many bits it read and which are left; a
-- number is read where its whole width is left, and a datagram may end where fewer than eight bits
-- are left and none of them is set.
use Rattle.std.proofs.Common.{refl}
use Rattle.std.specs.Prelude.{ℕ, ◌+◌, ◌≡◌, Bool, true, false, not, ◌&&◌, nat_lt, if◌then◌else◌, List, [], ◌∷◌, length, take, drop, Result, Ok, Err}
use Rattle.std.specs.List.{list_all}
use Rattle.bit_stream.specs.Bits.{number_from}
use Rattle.bit_stream.specs.declared.reader.Short.{Short}
use Rattle.bit_stream.specs.declared.reader.PaddingFault.{PaddingFault}

-- a reader: how many bits were read, and those that are left
pub record Unread : Type 0 where
  pub place : ℕ
  pub rest : List Bool

-- the next `width` bits as a number, and what is left after them
unfoldable pub number_at : ℕ → Unread → Result (ℕ × Unread) Short
number_at width s =
    if nat_lt (length s.rest) width then Err (record { place = s.place })
    else Ok (number_from (take width s.rest), record { place = s.place + width; rest = drop width s.rest })

-- less than a byte is left, and no bit of it is set
unfoldable pub is_padding : List Bool → Bool
is_padding bits = nat_lt (length bits) 8 && list_all not bits

-- a datagram may end here, or the place where it may not
unfoldable pub end_at : Unread → Result (Unit {0}) PaddingFault
end_at s = if is_padding s.rest then Ok tt else Err (record { place = s.place })

-- what a call answered and left is what reading gives
abbrev pub Gives : {X E : Type 0} → Result X E → Unread → Result (X × Unread) E → Type 0
Gives (Ok x) left read = read ≡ Ok (x, left)
Gives (Err e) left read = read ≡ Err e

-- ---- examples

two_of_three_bits : number_at 2 (record { place = 6; rest = false ∷ true ∷ true ∷ [] }) ≡ Ok (2, record { place = 8; rest = true ∷ [] })
unfolding number_at number_from
two_of_three_bits = refl

four_of_three_bits : number_at 4 (record { place = 6; rest = false ∷ true ∷ true ∷ [] }) ≡ Err (record { place = 6 })
unfolding number_at
four_of_three_bits = refl

a_set_bit_is_no_padding : end_at (record { place = 121; rest = false ∷ true ∷ [] }) ≡ Err (record { place = 121 })
unfolding end_at is_padding
a_set_bit_is_no_padding = refl
