-- x, y and ammo of a standing player, and what moves make of them: one step of the world's rules a move, the oldest first. Nothing
-- else changes them at the client, which does not know of wounds.
use Rattle.std.specs.Prelude.{◌≡◌, ℤ, pos, negsuc, ◌≤ℤ◌, fold, true, false, List, [], ◌∷◌, refl}
use Rattle.world_rules.specs.declared.limits.TheConstants.{MAX_COORDINATE}
use Rattle.tn_types.specs.declared.moves.Move.{Move}
use Rattle.tn_types.specs.declared.moves.MoveBits.{MoveBits}
use Rattle.bit_stream.specs.WorldMoves.{bits_of, move_of}
use Rattle.world_rules.specs.declared.object.TheConstants.{MAX_AMMO}
use Rattle.world_rules.specs.Players.{signed_step}

-- a place in the field, and no more ammo than a player has at the start
pub record IsStanding (at : ℤ × ℤ × ℤ) : Type 0 where
  pub x_least : pos 0 ≤ℤ at.0
  pub x_most : at.0 ≤ℤ pos MAX_COORDINATE
  pub y_least : pos 0 ≤ℤ at.1
  pub y_most : at.1 ≤ℤ pos MAX_COORDINATE
  pub ammo_least : pos 0 ≤ℤ at.2
  pub ammo_most : at.2 ≤ℤ pos MAX_AMMO

abbrev pub stepped_by : (ℤ × ℤ × ℤ) → Move → ℤ × ℤ × ℤ
stepped_by at m = signed_step at.0 at.1 at.2 m

-- the same by a move's number
abbrev pub moved_by : (ℤ × ℤ × ℤ) → MoveBits → ℤ × ℤ × ℤ
moved_by at m = stepped_by at (move_of m)

-- after all these moves, the oldest first
abbrev pub played : (ℤ × ℤ × ℤ) → List MoveBits → ℤ × ℤ × ℤ
played at moves = fold moved_by at moves

-- ---- an example: two steps to the right, and one back with a shot

right : Move
right = record { dx = pos 2; dy = pos 0; fire = false; act = false; dx_range = refl; dy_range = refl }

back : Move
back = record { dx = negsuc 0; dy = pos 0; fire = true; act = false; dx_range = refl; dy_range = refl }

three_moves : played (pos 1000, pos 1000, pos 20) (bits_of right ∷ bits_of right ∷ bits_of back ∷ []) ≡ (pos 1075, pos 1000, pos 19)
unfolding right back
three_moves = refl
