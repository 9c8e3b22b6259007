-- An offset and its bound: what a step leaves of it, and that none passes the bound.
use Rattle.std.specs.Prelude.{ℕ, suc, ℤ, pos, negsuc, ◌*◌, ◌/◌, ◌-ℤ◌, nat_lt, if◌then◌else◌, ◌≡◌, refl}
use Rattle.std.specs.Int.RustNames.{unsigned_abs}

-- three quarters, with its sign
abbrev pub decayed : ℤ → ℤ
decayed (pos n) = pos (3 * n / 4)
decayed (negsuc n) = pos 0 -ℤ pos (3 * suc n / 4)

-- an offset, or none where it would pass the bound either way
abbrev pub kept : ℕ → ℤ → ℤ
kept most offset = if nat_lt most (unsigned_abs offset) then pos 0 else offset

-- ---- examples

to_the_left : decayed (negsuc 99) ≡ negsuc 74
to_the_left = refl

as_far_as_may_be : kept 1000 (pos 1000) ≡ pos 1000
as_far_as_may_be = refl

too_far : kept 1000 (negsuc 1000) ≡ pos 0
too_far = refl
