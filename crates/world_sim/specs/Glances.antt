-- What a glance at an object tells: of which team it is, whether it is alive, and its role.
use Rattle.std.specs.Prelude.{Bool, true, false, List, ◌==◌, not, slice_index_or, if◌then◌else◌}
use Rattle.world_rules.specs.declared.object.TheConstants.{MAX_AGE}
use Rattle.world_rules.specs.declared.object.State.{State}
use Rattle.world_rules.specs.declared.object.State.TheVariants.{Player, Disc, Mine, Drone, Flag, Clock}
use Rattle.world_rules.specs.declared.object.Mine.{Mine as MinePart}
use Rattle.world_rules.specs.declared.object.Object.{Object}
use Rattle.world_rules.specs.declared.object.Place.{Place}
use Rattle.world_sim.specs.Searches.{plot_of}
use Rattle.world_sim.specs.declared.glance.Glance.{Glance}
use Rattle.world_sim.specs.declared.glance.Role.{Role}
use Rattle.world_sim.specs.declared.glance.Role.TheVariants.{Player as player_role, Disc as disc_role, YoungMine, ArmedMine, OldMine, Drone as drone_role, Flag as flag_role, Clock as clock_role}

abbrev pub mine_role : MinePart → Role
mine_role m = if not m.armed then YoungMine else if m.age == MAX_AGE then OldMine else ArmedMine

abbrev pub role_of : State → Role
role_of (Player p) = player_role p.client
role_of (Disc d) = disc_role
role_of (Mine m) = mine_role m
role_of (Drone d) = drone_role
role_of (Flag f) = flag_role
role_of (Clock c) = clock_role

abbrev pub glance_of : Object → Glance
glance_of o = record { team = o.team; alive = o.alive; role = role_of o.state }

abbrev pub is_armed_role : Role → Bool
is_armed_role ArmedMine = true
is_armed_role OldMine = true
is_armed_role _ = false

-- a living disc, or a flag
abbrev pub is_found_role : Bool → Role → Bool
is_found_role alive disc_role = alive
is_found_role alive flag_role = true
is_found_role alive _ = false

-- what lies at this place may be a disc that hits, a mine that is triggered, or a flag
abbrev pub may_matter : List Bool → Place → Glance → Bool
may_matter watched place g =
    if is_armed_role g.role then slice_index_or watched (plot_of place) false else is_found_role g.alive g.role
