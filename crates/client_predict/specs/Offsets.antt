-- The offset: how far from the predicted place the player is still shown, each way. A correction goes into it, so that what is
-- shown does not jump, and each sampled move leaves three quarters of it.
use Rattle.std.specs.Prelude.{◌≡◌, suc, ℤ, pos, negsuc, ◌*◌, ◌/◌, ◌≤◌, ◌+ℤ◌, ◌-ℤ◌, nat_lt, ◌||◌, Bool, if◌then◌else◌, Option, Some, None, [], ◌∷◌, refl}
use Rattle.std.specs.Int.RustNames.{unsigned_abs}
use Rattle.client_predict.specs.declared.predict.TheConstants.{MAX_OFFSET}

-- each part is at most 1,000 either way
abbrev pub IsOffset : (ℤ × ℤ) → Type 0
IsOffset offset = (unsigned_abs offset.0 ≤ MAX_OFFSET) × (unsigned_abs offset.1 ≤ MAX_OFFSET)

-- three quarters of a part, with its sign
abbrev pub decayed : ℤ → ℤ
decayed (pos n) = pos (3 * n / 4)
decayed (negsuc n) = pos 0 -ℤ pos (3 * suc n / 4)

abbrev pub decayed_both : (ℤ × ℤ) → ℤ × ℤ
decayed_both offset = (decayed offset.0, decayed offset.1)

-- what is shown stays where it is: the old value and the old offset, seen from the new value
abbrev pub seen_from : ℤ → ℤ → ℤ → ℤ
seen_from old offset new = old +ℤ offset -ℤ new

abbrev pub passes : ℤ → Bool
passes part = nat_lt MAX_OFFSET (unsigned_abs part)

-- an offset, or none where a part of it would pass 1,000 either way
abbrev pub kept : (ℤ × ℤ) → ℤ × ℤ
kept offset = if passes offset.0 || passes offset.1 then (pos 0, pos 0) else offset

-- after the value became another one; none where there is no old value or no new one
abbrev pub corrected : Option (ℤ × ℤ × ℤ) → Option (ℤ × ℤ × ℤ) → (ℤ × ℤ) → ℤ × ℤ
corrected (Some old) (Some new) offset = kept (seen_from old.0 offset.0 new.0, seen_from old.1 offset.1 new.1)
corrected (Some old) None offset = (pos 0, pos 0)
corrected None new offset = (pos 0, pos 0)

-- ---- examples

-- a correction of 100 in x, and seven samples after it
seven_samples : (decayed (pos 100) ∷ decayed (pos 75) ∷ decayed (pos 56) ∷ decayed (pos 42) ∷ decayed (pos 31) ∷ decayed (pos 23) ∷ decayed (pos 17) ∷ [])
    ≡ pos 75 ∷ pos 56 ∷ pos 42 ∷ pos 31 ∷ pos 23 ∷ pos 17 ∷ pos 12 ∷ []
seven_samples = refl

to_the_left : decayed (negsuc 99) ≡ negsuc 74
to_the_left = refl

as_far_as_may_be : corrected (Some (pos 2000, pos 5, pos 20)) (Some (pos 1000, pos 7, pos 20)) (pos 0, pos 0) ≡ (pos 1000, negsuc 1)
as_far_as_may_be = refl

too_far : corrected (Some (pos 2001, pos 5, pos 20)) (Some (pos 1000, pos 7, pos 20)) (pos 0, pos 0) ≡ (pos 0, pos 0)
too_far = refl
