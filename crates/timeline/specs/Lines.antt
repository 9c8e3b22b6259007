-- The way from one value to another, of which a part is gone: `part` of `whole`. What is gone of a distance is cut to a whole number.
-- On a line a value goes up or down. On a circle, which has all values from `least` to `most`, it goes the short way round, upwards where
-- both ways are as long.
use Rattle.std.specs.Prelude.{ℕ, ℤ, Bool, ◌&&◌, pos, negsuc, ◌+◌, ◌-◌, ◌*◌, ◌/◌, ◌%◌, nat_le, ◌+ℤ◌, ◌-ℤ◌, ◌≤ℤ◌, if◌then◌else◌, ◌≡◌, refl}
use Rattle.std.specs.Int.{int_gap}
use Rattle.std.specs.Int.RustNames.{int_le}
use Rattle.timeline.specs.declared.between.TheConstants.{MOMENTS}

abbrev pub moment_of : ℕ → ℕ
moment_of packet = packet * MOMENTS

abbrev pub share : ℕ → ℕ → ℕ → ℕ
share distance part whole = distance * part / whole

abbrev pub on_line : ℤ → ℤ → ℕ → ℕ → ℤ
on_line from to part whole =
    if int_le from to then from +ℤ pos (share (int_gap from to) part whole)
    else from -ℤ pos (share (int_gap to from) part whole)

pub record IsInside (least most value : ℤ) : Type 0 where
  pub at_least : least ≤ℤ value
  pub at_most : value ≤ℤ most

-- how many values a circle has
abbrev pub size_of : ℤ → ℤ → ℕ
size_of least most = int_gap least most + 1

-- how far it is from one value up to the other
abbrev pub way_up : ℤ → ℤ → ℤ → ℤ → ℕ
way_up least most from to = (int_gap least to + size_of least most - int_gap least from) % size_of least most

-- the value so many steps above another one, or below it
abbrev pub above : ℤ → ℤ → ℤ → ℕ → ℤ
above least most from steps = least +ℤ pos ((int_gap least from + steps) % size_of least most)

abbrev pub below : ℤ → ℤ → ℤ → ℕ → ℤ
below least most from steps = least +ℤ pos ((int_gap least from + size_of least most - steps) % size_of least most)

abbrev pub on_circle : ℤ → ℤ → ℤ → ℤ → ℕ → ℕ → ℤ
on_circle least most from to part whole =
    if nat_le (2 * way_up least most from to) (size_of least most) then above least most from (share (way_up least most from to) part whole)
    else below least most from (share (size_of least most - way_up least most from to) part whole)

-- the same where both values are on the circle; else the first one stays
abbrev pub is_inside : ℤ → ℤ → ℤ → Bool
is_inside least most value = int_le least value && int_le value most

abbrev pub turned : ℤ → ℤ → ℤ → ℤ → ℕ → ℕ → ℤ
turned least most from to part whole =
    if is_inside least most from && is_inside least most to then on_circle least most from to part whole else from

-- ---- examples: a quarter of the way, and the way down; of a heading of 360 degrees over the north, both ways

a_quarter : on_line (pos 100) (pos 110) 64 256 ≡ pos 102
a_quarter = refl

down : on_line (pos 3) (negsuc 4) 128 256 ≡ negsuc 0
down = refl

over_the_north : on_circle (pos 0) (pos 359) (pos 350) (pos 10) 128 256 ≡ pos 0
over_the_north = refl

and_back : on_circle (pos 0) (pos 359) (pos 10) (pos 350) 64 256 ≡ pos 5
and_back = refl

half_round : on_circle (pos 0) (pos 359) (pos 0) (pos 180) 64 256 ≡ pos 45
half_round = refl
