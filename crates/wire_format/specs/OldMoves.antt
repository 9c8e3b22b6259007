-- Versions 1 and 2 spell and read a move as they always did: as the four parts of a move of this project's own world, a step each
-- way and two flags.
use Rattle.std.specs.Prelude.{ℕ, ◌≡◌, ◌<◌, List, [], ◌∷◌, Bool, Result, Ok, Err}
use Rattle.tn_types.specs.declared.moves.Move.{Move}
use Rattle.tn_types.specs.declared.moves.MoveBits.{MoveBits}
use Rattle.bit_stream.specs.Bits.{number}
use Rattle.bit_stream.specs.Reading.{Unread}
use Rattle.bit_stream.specs.WorldMoves.{raised, flag_of, move_from, bits_of}
use Rattle.wire_format.specs.declared.widths.TheConstants.{STEP_WIDTH, FLAG_WIDTH, OWN_VERSION}
use Rattle.wire_format.specs.declared.fault.BitsFault.{BitsFault}
use Rattle.wire_format.specs.Reading.{◌>>=◌, parts_in_order, part_at}
use Rattle.wire_format.specs.Moves.{old_wire, spell_move, move_at}

abbrev pub spell_world_move : Move → List Bool
spell_world_move m = parts_in_order (
    number STEP_WIDTH (raised m.dx)
    ∷ number STEP_WIDTH (raised m.dy)
    ∷ number FLAG_WIDTH (flag_of m.fire)
    ∷ number FLAG_WIDTH (flag_of m.act)
    ∷ [])

unfoldable pub world_move_at : Unread → Result (Move × Unread) BitsFault
world_move_at s = do
  dx ← part_at STEP_WIDTH s
  dy ← part_at STEP_WIDTH dx.1
  fire ← part_at FLAG_WIDTH dy.1
  act ← part_at FLAG_WIDTH fire.1
  Ok (move_from dx.0 dy.0 fire.0 act.0, act.1)

-- what was read, by its number
abbrev pub as_number : Result (Move × Unread) BitsFault → Result (MoveBits × Unread) BitsFault
as_number (Ok x) = Ok (bits_of x.0, x.1)
as_number (Err e) = Err e

pub record OldMovesStand : Type 0 where
  pub spelled : (version : ℕ) (m : Move) → version < OWN_VERSION → spell_move (old_wire version) (bits_of m) ≡ spell_world_move m
  pub read : (version : ℕ) (s : Unread) → version < OWN_VERSION → move_at (old_wire version) s ≡ as_number (world_move_at s)
