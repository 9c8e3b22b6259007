-- Flags: who takes one, who captures one, and a flag after one tick.
use Rattle.std.specs.Prelude.{ℕ, find, List, [], ◌∷◌, count_by, Bool, false, not, ◌&&◌, ◌==◌, if◌then◌else◌, Option, Some, None}
use Rattle.std.specs.Option.{option_or}
use Rattle.tn_types.specs.declared.moves.MoveBits.{MoveBits}
use Rattle.world_rules.specs.declared.object.State.{State}
use Rattle.world_rules.specs.declared.measures.TheConstants.{FLAG_REACH}
use Rattle.world_rules.specs.declared.object.Object.{Object}
use Rattle.world_rules.specs.declared.object.State.TheVariants.{Player, Flag}
use Rattle.world_rules.specs.Places.{is_within, stepped}
use Rattle.world_rules.specs.Moves.{move_of}
use Rattle.world_rules.specs.Near.{is_standing, is_enemy_near}

abbrev pub is_player_part : ℕ → State → Bool
is_player_part client (Player p) = p.client == client
is_player_part client _ = false

abbrev pub is_player : ℕ → Object → Bool
is_player client o = is_player_part client o.state

-- the client of a player, whose move uses
abbrev pub using_part : List (Option MoveBits) → State → Option ℕ
using_part moves (Player p) = if (move_of moves p.client).act then Some p.client else None
using_part moves _ = None

-- the client that takes the flag, if this is its player
abbrev pub taking : List (Option MoveBits) → Object → Object → Option ℕ
taking moves o p = if is_enemy_near FLAG_REACH o p then using_part moves p.state else None

-- the least client that takes the flag: players stand by rising client
abbrev pub taker : List Object → List (Option MoveBits) → Object → Option ℕ
taker [] moves o = None
taker (p ∷ os) moves o = option_or (taking moves o p) (taker os moves o)

-- the player is within reach of its own home
abbrev pub is_home : Object → Bool
is_home p = is_within FLAG_REACH p.place p.home

abbrev pub went_home : Object → Object
went_home o = record o { place = o.home; state = Flag (record { holder = None }) }

abbrev pub carried : List (Option MoveBits) → Object → ℕ → Option Object → Object
carried moves o client None = went_home o
carried moves o client (Some p) =
    if not (is_standing p) then went_home o
    else if is_home p then went_home o
    else record o { place = stepped p.place (move_of moves client) }

unfoldable pub flag_next : List Object → List (Option MoveBits) → Object → Option ℕ → Object
flag_next os moves o None = record o { state = Flag (record { holder = taker os moves o }) }
flag_next os moves o (Some client) = carried moves o client (find (is_player client) os)

abbrev pub is_capturing : ℕ → Option Object → Bool
is_capturing team None = false
is_capturing team (Some p) = is_standing p && (is_home p && p.team == team)

abbrev pub captured_held : List Object → ℕ → Option ℕ → Bool
captured_held os team None = false
captured_held os team (Some client) = is_capturing team (find (is_player client) os)

abbrev pub captured_part : List Object → ℕ → State → Bool
captured_part os team (Flag f) = captured_held os team f.holder
captured_part os team _ = false

-- a flag that the team captures
abbrev pub is_captured : List Object → ℕ → Object → Bool
is_captured os team f = captured_part os team f.state

unfoldable pub captures : List Object → ℕ → ℕ
captures os team = count_by (is_captured os team) os
