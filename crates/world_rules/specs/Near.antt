-- Who is what to whom: who stands, whom discs hit, and what of another team is near.
use Rattle.std.specs.Prelude.{ℕ, Bool, true, false, not, ◌&&◌, ◌||◌, nat_lt, ◌==◌}
use Rattle.world_rules.specs.declared.object.State.{State}
use Rattle.world_rules.specs.declared.object.Object.{Object}
use Rattle.world_rules.specs.declared.object.State.TheVariants.{Player, Drone}
use Rattle.world_rules.specs.Places.{is_within}

abbrev pub is_standing_part : State → Bool
is_standing_part (Player p) = nat_lt 0 p.hp
is_standing_part _ = false

-- a player whose hp is above 0
abbrev pub is_standing : Object → Bool
is_standing o = is_standing_part o.state

-- another team's, and within reach
abbrev pub is_other_near : ℕ → Object → Object → Bool
is_other_near reach o t = not (t.team == o.team) && is_within reach t.place o.place

-- a standing player of another team is within this reach
abbrev pub is_enemy_near : ℕ → Object → Object → Bool
is_enemy_near reach o t = is_standing t && is_other_near reach o t

abbrev pub is_drone_part : State → Bool
is_drone_part (Drone d) = true
is_drone_part _ = false

-- what discs hit: a standing player or a living drone
abbrev pub is_target : Object → Bool
is_target o = is_standing o || (o.alive && is_drone_part o.state)

abbrev pub is_target_near : ℕ → Object → Object → Bool
is_target_near reach o t = is_target t && is_other_near reach o t
