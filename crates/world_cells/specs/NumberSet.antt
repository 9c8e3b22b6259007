-- A set of numbers, as a bit for each in words of 64.
use Rattle.std.specs.Prelude.{ℕ, ◌/◌, ◌%◌, List, slice_index_or}
use Rattle.std.specs.Int.{bit_at}

-- 1 where the number is in the set, and 0 where it isn't
abbrev pub bit_of : List ℕ → ℕ → ℕ
bit_of words n = bit_at (slice_index_or words (n / 64) 0) (n % 64)
