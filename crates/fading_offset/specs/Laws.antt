-- What holds of every log.
use Rattle.std.specs.Prelude.{◌≡◌, ℕ, ℤ, pos, ◌≤◌, List, ◌∷◌, ◌++◌, replicate}
use Rattle.fading_offset.specs.declared.fading.TheConstants.{GREATEST_MOST}
use Rattle.fading_offset.specs.Fading.{FadingEvent, Corrected, Faded, offset_by}

-- a correction from a value to itself leaves the offset
abbrev pub NoCorrection : Type 0
NoCorrection = (most : ℕ) (log : List FadingEvent) (value : ℤ) → offset_by most (Corrected value value ∷ log) ≡ offset_by most log

-- 56 steps leave nothing of the greatest offset
abbrev pub OffsetSettles : Type 0
OffsetSettles =
    (most : ℕ) (log : List FadingEvent) (steps : ℕ) → most ≤ GREATEST_MOST → 56 ≤ steps → offset_by most (replicate steps Faded ++ log) ≡ pos 0
