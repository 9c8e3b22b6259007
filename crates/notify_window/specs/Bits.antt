-- A mask that moves: each bit tells of a number, and a later horizon moves all of them up.
use Rattle.std.specs.Prelude.{◌≡◌, ℕ, ◌-◌, Bool, true, false, ◌&&◌, ◌==◌, nat_lt, if◌then◌else◌, refl}
use Rattle.std.specs.Int.{bit_at}

-- bit i of a mask that moved that many places up, and whose lowest bit was then set or not
abbrev pub moved_bit : ℕ → ℕ → Bool → ℕ → ℕ
moved_bit mask by lowest i =
    if i == 0 && lowest then 1 else (if nat_lt i by then 0 else bit_at mask (i - by))

-- the second bit of 01, one place up, and the lowest one, which is set anew
moved_once : moved_bit 1 1 true 1 ≡ 1
moved_once = refl

lowest_clear : moved_bit 1 1 false 0 ≡ 0
lowest_clear = refl
