use Rattle.std.proofs.Common.{refl, ◌≡◌, ℕ, ◌^◌, ◌<◌, ℤ, pos, FitsSigned, w64, arith}
use Rattle.std.specs.Prelude.{◌-ℤ◌, ◌≤ℤ◌}
use Rattle.std.specs.Int.{int_gap}
use Rattle.std.proofs.lemmas.Int.{ints, to_z-of_z}
use Rattle.quantised_fields.proofs.Gaps.{low_plus_gap}
use Rattle.quantised_fields.proofs.levels.gap.Goals as goal

small_fits : (g : ℕ) → g < 2 ^ 32 → FitsSigned w64 (pos g)
small_fits g h = omega (arith, ints)

gap_is : (lo x : ℤ) → lo ≤ℤ x → x -ℤ lo ≡ pos (int_gap lo x)
gap_is lo x le = let e = low_plus_gap lo x le in omega (arith, ints)

pub overflow_sub-result : goal.overflow_sub-result
overflow_sub-result c =
    rw (to_z-of_z w64 c.args.x c.ranges.x, to_z-of_z w64 c.args.lo c.ranges.lo, gap_is c.args.lo c.args.x c.requires.order) (small_fits (int_gap c.args.lo c.args.x) c.requires.small)

pub overflow_cast-result : goal.overflow_cast-result
overflow_cast-result c =
    rw (to_z-of_z w64 c.args.x c.ranges.x, to_z-of_z w64 c.args.lo c.ranges.lo, gap_is c.args.lo c.args.x c.requires.order, to_z-of_z w64 (pos (int_gap c.args.lo c.args.x)) (small_fits (int_gap c.args.lo c.args.x) c.requires.small)) (tt, omega arith)

pub returns : goal.returns
returns c =
    rw (to_z-of_z w64 c.args.x c.ranges.x, to_z-of_z w64 c.args.lo c.ranges.lo, gap_is c.args.lo c.args.x c.requires.order, to_z-of_z w64 (pos (int_gap c.args.lo c.args.x)) (small_fits (int_gap c.args.lo c.args.x) c.requires.small)) refl
