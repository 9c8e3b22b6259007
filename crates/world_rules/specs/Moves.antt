-- The move of each client in a tick, read out of the number that came. One that has none counts as having no step, no shot and no use.
use Rattle.std.specs.Prelude.{ℕ, pos, List, false, Option, Some, None, slice_get, refl}
use Rattle.tn_types.specs.declared.moves.Move.{Move}
use Rattle.tn_types.specs.declared.moves.MoveBits.{MoveBits}
use Rattle.bit_stream.specs.WorldMoves.{move_of as world_move}

abbrev pub still : Move
still = record { dx = pos 0; dy = pos 0; fire = false; act = false; dx_range = refl; dy_range = refl }

abbrev pub or_still : Option (Option MoveBits) → Move
or_still None = still
or_still (Some None) = still
or_still (Some (Some m)) = world_move m

-- the move of this client in this tick
abbrev pub move_of : List (Option MoveBits) → ℕ → Move
move_of moves client = or_still (slice_get moves client)
