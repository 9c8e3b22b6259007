-- What decides whether an object is seen: how far it is, and whether it is hidden.
use Rattle.std.specs.Prelude.{ℕ, max, Bool, not, ◌&&◌, ◌==◌}
use Rattle.std.specs.Int.{abs_diff}
use Rattle.world_rules.specs.declared.object.Object.{Object}
use Rattle.world_rules.specs.declared.object.Place.{Place}
use Rattle.world_rules.specs.Mines.{is_armed_part}

-- the greater of the ways along x and along y
abbrev pub distance : Place → Place → ℕ
distance a b = max (abs_diff a.x b.x) (abs_diff a.y b.y)

-- an armed mine of the other team, and nothing else
abbrev pub is_hidden : ℕ → Object → Bool
is_hidden team o = is_armed_part o.state && not (o.team == team)
