-- The part of the field that a client looks over: the cells that the square with its player in the middle touches, whose
-- sides are twice the radius.
use Rattle.std.specs.Prelude.{ℕ, ◌+◌, ◌-◌, ◌/◌, Bool, ◌&&◌, nat_le, List, count_by, Option, Some, None, find}
use Rattle.world_rules.specs.declared.object.Place.{Place}
use Rattle.world_rules.specs.declared.object.Object.{Object}
use Rattle.world_rules.specs.Flags.{is_player}
use Rattle.world_cells.specs.declared.cells.TheConstants.{CELL_SIDE}
use Rattle.world_cells.specs.Grid.{has_place, lasts}
use Rattle.world_sim.specs.Worlds.{Worlds}

-- the cells of two coordinates are at most so far apart that the square touches the second
abbrev pub is_touched : ℕ → ℕ → ℕ → Bool
is_touched radius at x = nat_le ((at - radius) / CELL_SIDE) (x / CELL_SIDE) && nat_le (x / CELL_SIDE) ((at + radius) / CELL_SIDE)

-- a living object in a cell that the square round this place touches
abbrev pub is_round : ℕ → Place → Object → Bool
is_round radius p o = o.alive && (has_place o.state && (is_touched radius p.y o.place.y && is_touched radius p.x o.place.x))

-- how many there are round a player
abbrev pub many_round : ℕ → Option Object → List Object → ℕ
many_round radius None os = 0
many_round radius (Some player) os = count_by (is_round radius player.place) os

-- the most looks that a scan takes
abbrev pub most_looks : Worlds → ℕ → ℕ
most_looks w client = many_round w.radius (find (is_player client) w.objects) w.objects + count_by lasts w.objects + 1
