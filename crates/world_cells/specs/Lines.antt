-- Which objects lie before each line of a coordinate, as bits: 16 words for each of the lines from 0 to 16, and in them a bit
-- for each object that lies before it. A line of an object is its column or its row of cells; what lies nowhere has line 16.
use Rattle.std.specs.Prelude.{◌≡◌, ℕ, ◌+◌, ◌*◌, ◌/◌, ◌%◌, ◌<◌, ◌≤◌, Bool, false, List, nat_lt, ◌==◌, slice_get, slice_index_or, if◌then◌else◌}
use Rattle.std.specs.Int.{bit_at}
use Rattle.std.specs.Option.{option_map_or}
use Rattle.world_rules.specs.declared.object.Object.{Object}

-- the bit of an object at a line
abbrev pub has : List ℕ → ℕ → ℕ → ℕ
has words line n = bit_at (slice_index_or words (line * 16 + n / 64) 0) (n % 64)

-- the bit that an object at this line has at another one
abbrev pub is_before : ℕ → ℕ → ℕ
is_before line at = if nat_lt at line then 1 else 0

-- the object of this number lies at this line
abbrev pub IsAt : ℕ → ℕ → List ℕ → Type 0
IsAt number at words = (line : ℕ) → line ≤ 16 → has words line number ≡ is_before line at

-- the object of this number lies at this line now, and the others where they lay
abbrev pub IsPut : ℕ → ℕ → List ℕ → List ℕ → Type 0
IsPut number at old new =
    (line n : ℕ) → line ≤ 16 → n < 1024 → has new line n ≡ (if n == number then is_before line at else has old line n)

-- the cells as the code keeps them: a list for each, and the bits of their columns and rows
pub record GridParts : Type 0 where
  pub cells : List (List ℕ)
  pub columns : List ℕ
  pub rows : List ℕ

-- a word has the bits of those of so many objects from a number on that pass a test
abbrev pub AreBits : ℕ → ℕ → ℕ → (Object → Bool) → List Object → Type 0
AreBits word from many p os =
    (k : ℕ) → k < many → bit_at word k ≡ (if option_map_or p (slice_get os (from + k)) false then 1 else 0)
