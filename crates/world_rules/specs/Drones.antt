-- Drones: the chance of each in a tick, and a drone after one tick.
use Rattle.std.specs.Prelude.{ℕ, pos, ◌+◌, ◌-◌, ◌*◌, ◌+ℤ◌, ◌-ℤ◌, ◌/◌, ◌%◌, ◌^◌, not, nat_lt, if◌then◌else◌}
use Rattle.world_rules.specs.declared.object.Drone.{Drone as DronePart}
use Rattle.world_rules.specs.declared.measures.TheConstants.{DRONE_DRIFT, DRONE_WAYS, CHANCE_BY_NUMBER, CHANCE_BY_TICK, CHANCE_SPREAD}
use Rattle.world_rules.specs.declared.object.Object.{Object}
use Rattle.world_rules.specs.declared.object.State.TheVariants.{Drone}
use Rattle.world_rules.specs.Places.{clamp}
use Rattle.world_rules.specs.Discs.{harm}

-- the random number of a drone in this tick
unfoldable pub drawn : ℕ → ℕ → ℕ → ℕ
drawn seed number tick = (seed + 1 + CHANCE_BY_NUMBER * number + CHANCE_BY_TICK * tick) * CHANCE_SPREAD % 2 ^ 32 / 65536

unfoldable pub drone_next : ℕ → ℕ → Object → DronePart → Object
drone_next r harm o d =
    if not o.alive then o
    else record o {
      alive = nat_lt harm d.hp;
      place = record {
        x = clamp (pos o.place.x +ℤ (pos (r % DRONE_WAYS) -ℤ pos DRONE_DRIFT));
        y = clamp (pos o.place.y +ℤ (pos (r / DRONE_WAYS % DRONE_WAYS) -ℤ pos DRONE_DRIFT));
      };
      state = Drone (record d { hp = d.hp - harm });
    }
