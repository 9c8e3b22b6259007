-- Mines: what triggers them and whom they harm, and a mine after one tick.
use Rattle.std.specs.Prelude.{List, Bool, false, not, ◌&&◌, ◌||◌, nat_le, if◌then◌else◌}
use Rattle.std.specs.List.{list_any}
use Rattle.world_rules.specs.declared.object.Mine.{Mine as MinePart}
use Rattle.world_rules.specs.declared.object.State.{State}
use Rattle.world_rules.specs.declared.measures.TheConstants.{MINE_REACH, ARMING_AGE}
use Rattle.world_rules.specs.declared.object.Object.{Object}
use Rattle.world_rules.specs.declared.object.State.TheVariants.{Mine}
use Rattle.world_rules.specs.Near.{is_other_near, is_enemy_near}
use Rattle.world_rules.specs.Discs.{aged}

abbrev pub is_armed_part : State → Bool
is_armed_part (Mine m) = m.armed
is_armed_part _ = false

abbrev pub is_armed : Object → Bool
is_armed o = o.alive && is_armed_part o.state

-- a living mine that is triggered
unfoldable pub is_triggered : List Object → Object → Bool
is_triggered os o = is_armed o && list_any (is_enemy_near MINE_REACH o) os

abbrev pub is_blasting : List Object → Object → Object → Bool
is_blasting os o m = is_triggered os m && is_other_near MINE_REACH o m

unfoldable pub mine_next : Bool → Object → MinePart → Object
mine_next triggered o m =
    if not o.alive then o
    else if triggered then record o { alive = false }
    else record o { state = Mine (record { armed = m.armed || nat_le ARMING_AGE (aged m.age); age = aged m.age }) }
