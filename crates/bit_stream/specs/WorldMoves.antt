-- The move of this project's own world as a number of ten bits: the step along x in the lowest four, then the step along y, then
-- whether the player fires, then whether he uses. A step is raised by 8, so that it is a number from 0 on.
use Rattle.std.specs.Prelude.{ℕ, ◌≡◌, ◌+◌, ◌*◌, ◌/◌, ◌%◌, ◌<◌, ◌^◌, ◌==◌, if◌then◌else◌, Bool, true, false, ℤ, pos, negsuc, ◌-◌, ◌-ℤ◌, refl}
use Rattle.tn_types.specs.declared.limits.TheConstants.{WORLD_MOVE_BITS}
use Rattle.tn_types.specs.declared.moves.Move.{Move}
use Rattle.tn_types.specs.declared.moves.MoveBits.{MoveBits}
use Rattle.tn_types.proofs.StepRanges.{step_of_four_bits}

-- a step as it is written
abbrev pub raised : ℤ → ℕ
raised (pos n) = n + 8
raised (negsuc n) = 7 - n

-- the step that is written as this number
abbrev pub step_of : ℕ → ℤ
step_of n = pos (n % 16) -ℤ pos 8

abbrev pub flag_of : Bool → ℕ
flag_of b = if b then 1 else 0

-- the number that a move is
abbrev pub number_of : Move → ℕ
number_of m = raised m.dx + 16 * (raised m.dy + 16 * (flag_of m.fire + 2 * flag_of m.act))

abbrev pub bits_of : Move → MoveBits
bits_of m = record { bits = number_of m }

-- the move of these four numbers
abbrev pub move_from : ℕ → ℕ → ℕ → ℕ → Move
move_from dx dy fire act = record {
  dx = step_of dx;
  dy = step_of dy;
  fire = fire == 1;
  act = act == 1;
  dx_range = step_of_four_bits dx;
  dy_range = step_of_four_bits dy;
}

-- the move that a number is read as: its lowest ten bits
abbrev pub move_of : MoveBits → Move
move_of m = move_from (m.bits % 16) (m.bits / 16 % 16) (m.bits / 16 / 16 % 2) (m.bits / 16 / 16 / 2 % 2)

-- no move is lost on the way to its number and back, and no number of ten bits on the way to its move and back
pub record MovesAreNumbers : Type 0 where
  pub few : (m : Move) → number_of m < 2 ^ WORLD_MOVE_BITS
  pub back : (m : Move) → move_of (bits_of m) ≡ m
  pub there : (m : MoveBits) → m.bits < 2 ^ WORLD_MOVE_BITS → bits_of (move_of m) ≡ m

-- ---- examples

-- a step of one along y, with a shot
abbrev north_firing : Move
north_firing = record { dx = pos 0; dy = pos 1; fire = true; act = false; dx_range = refl; dy_range = refl }

north_firing_bits : number_of north_firing ≡ 8 + 16 * 9 + 256
north_firing_bits = refl

-- no step and no flag
standing_bits : number_of (move_of (record { bits = 136 })) ≡ 136
standing_bits = refl
