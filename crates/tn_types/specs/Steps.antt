-- A step of a move, -8 to 7 each way, as a test. A move keeps it of both its steps.
use Rattle.std.specs.Prelude.{◌≡◌, ℤ, pos, negsuc, Bool, true, false, nat_le, refl}

abbrev pub is_step : ℤ → Bool
is_step (pos n) = nat_le n 7
is_step (negsuc n) = nat_le n 7

eight_back : is_step (negsuc 7) ≡ true
eight_back = refl

no_eight_ahead : is_step (pos 8) ≡ false
no_eight_ahead = refl
