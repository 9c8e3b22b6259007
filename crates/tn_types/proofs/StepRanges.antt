-- The test of a step says that it lies from -8 to 7.
use Rattle.std.proofs.Common.{◌≡◌, ℕ, ℤ, pos, negsuc, ◌≤ℤ◌, ◌%◌, true, arith}
use Rattle.std.specs.Prelude.{◌-ℤ◌}
use Rattle.std.proofs.lemmas.Int.{ints}
use Rattle.std.proofs.lemmas.Bool.Decides.{nat_tests}
use Rattle.tn_types.specs.Steps.{is_step}

pub step_in_range : (z : ℤ) → is_step z ≡ true → (negsuc 7 ≤ℤ z) × (z ≤ℤ pos 7)
step_in_range (pos n) e = (grind (arith, ints), grind (arith, ints))
step_in_range (negsuc n) e = (grind (arith, ints), grind (arith, ints))

pub range_is_step : (z : ℤ) → negsuc 7 ≤ℤ z → z ≤ℤ pos 7 → is_step z ≡ true
range_is_step (pos n) low high = grind (arith, ints, nat_tests)
range_is_step (negsuc n) low high = grind (arith, ints, nat_tests)

-- every number of four bits, less 8, is a step
pub step_of_four_bits : (n : ℕ) → is_step (pos (n % 16) -ℤ pos 8) ≡ true
step_of_four_bits n = range_is_step (pos (n % 16) -ℤ pos 8) (omega (arith, ints)) (omega (arith, ints))
