-- Signed numbers by how far they are above a least one.
use Rattle.std.proofs.Common.{◌≡◌, ℕ, ◌+◌, ◌-◌, ◌<◌, ◌≤◌, arith}
use Rattle.std.specs.Prelude.{ℤ, pos, negsuc, ◌+ℤ◌, ◌-ℤ◌, ◌≤ℤ◌}
use Rattle.std.specs.Int.{int_gap}
use Rattle.std.specs.Int.RustNames.{unsigned_abs}
use Rattle.std.proofs.lemmas.Int.{ints}

pub abs_is_gap : (lo x : ℤ) → lo ≤ℤ x → unsigned_abs (x -ℤ lo) ≡ int_gap lo x
abs_is_gap (pos a) (pos b) h = grind (arith, ints)
abs_is_gap (pos a) (negsuc b) h = grind (arith, ints)
abs_is_gap (negsuc a) (pos b) h = grind (arith, ints)
abs_is_gap (negsuc a) (negsuc b) h = grind (arith, ints)

pub low_plus_gap : (lo x : ℤ) → lo ≤ℤ x → x ≡ lo +ℤ pos (int_gap lo x)
low_plus_gap (pos a) (pos b) h = omega (arith, ints)
low_plus_gap (pos a) (negsuc b) h = omega (arith, ints)
low_plus_gap (negsuc a) (pos b) h = omega (arith, ints)
low_plus_gap (negsuc a) (negsuc b) h = omega (arith, ints)

pub below_of_gap : (lo x : ℤ) → 0 < int_gap lo x → lo ≤ℤ x
below_of_gap (pos a) (pos b) h = omega (arith, ints)
below_of_gap (pos a) (negsuc b) h = omega (arith, ints)
below_of_gap (negsuc a) (pos b) h = omega (arith, ints)
below_of_gap (negsuc a) (negsuc b) h = omega (arith, ints)

pub gap_grows : (lo x hi : ℤ) → lo ≤ℤ x → x ≤ℤ hi → int_gap lo x ≤ int_gap lo hi
gap_grows lo x hi p q =
    let a = low_plus_gap lo x p in
    let b = low_plus_gap lo hi (omega (arith, ints)) in
    omega (arith, ints)

pub apart : (lo x : ℤ) (s d : ℕ) → x ≡ lo +ℤ pos d → unsigned_abs (lo +ℤ pos s -ℤ x) ≡ (s - d) + (d - s)
apart lo x s d e =
    rw (is_difference lo x s d e) (abs_difference s d)
  where
    abs_difference : (s d : ℕ) → unsigned_abs (pos s -ℤ pos d) ≡ (s - d) + (d - s)
    abs_difference s d = grind (arith, ints)

    is_difference : (lo x : ℤ) (s d : ℕ) → x ≡ lo +ℤ pos d → lo +ℤ pos s -ℤ x ≡ pos s -ℤ pos d
    is_difference lo x s d e = omega (arith, ints)

pub gap_of_sum : (lo : ℤ) (k : ℕ) → int_gap lo (lo +ℤ pos k) ≡ k
gap_of_sum (pos a) k = grind (arith, ints)
gap_of_sum (negsuc a) k = grind (arith, ints)
