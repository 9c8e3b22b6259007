-- The moves that ticks took: for each tick a move or none of each client.
use Rattle.std.specs.Prelude.{ℕ, ◌≡◌, List, length, Option, None, slice_get}
use Rattle.std.specs.List.{AllByRecursion, filter_map}
use Rattle.std.specs.Option.{unwrap_or}
use Rattle.tn_types.specs.declared.moves.MoveBits.{MoveBits}

-- a move or none of each client, for one tick
abbrev pub HasClients : ℕ → List (Option MoveBits) → Type 0
HasClients clients row = length row ≡ clients

-- for so many ticks, of so many clients
pub record MovesFit (ticks clients : ℕ) (moves : List (List (Option MoveBits))) : Type 0 where
  pub each_tick : length moves ≡ ticks
  pub each_client : AllByRecursion (HasClients clients) moves

-- the move that a tick took from a client
abbrev pub move_taken : ℕ → List (Option MoveBits) → Option MoveBits
move_taken c row = unwrap_or (slice_get row c) None

-- all moves that ticks took from a client, in order
abbrev pub moves_taken : ℕ → List (List (Option MoveBits)) → List MoveBits
moves_taken c ticks = filter_map (move_taken c) ticks
