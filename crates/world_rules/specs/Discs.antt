-- Discs: what they hit and harm, and a disc after one tick.
use Rattle.std.specs.Prelude.{ℕ, pos, ◌+◌, ◌*◌, ◌+ℤ◌, min, List, count_by, Bool, true, false, not, ◌&&◌, ◌||◌, nat_le, ◌==◌, if◌then◌else◌}
use Rattle.std.specs.List.{list_any}
use Rattle.world_rules.specs.declared.object.TheConstants.{MAX_AGE}
use Rattle.world_rules.specs.declared.object.Place.{Place}
use Rattle.world_rules.specs.declared.object.Disc.{Disc as DiscPart}
use Rattle.world_rules.specs.declared.object.State.{State}
use Rattle.world_rules.specs.declared.measures.TheConstants.{DISC_REACH, DISC_HARM}
use Rattle.world_rules.specs.declared.object.Object.{Object}
use Rattle.world_rules.specs.declared.object.State.TheVariants.{Disc}
use Rattle.world_rules.specs.Places.{clamp, is_in_field}
use Rattle.world_rules.specs.Near.{is_other_near, is_target_near}

abbrev pub is_disc_part : State → Bool
is_disc_part (Disc d) = true
is_disc_part _ = false

abbrev pub is_flying : Object → Bool
is_flying o = o.alive && is_disc_part o.state

-- a living disc that hits
unfoldable pub is_hitting : List Object → Object → Bool
is_hitting os o = is_flying o && list_any (is_target_near DISC_REACH o) os

abbrev pub is_harming : Object → Object → Bool
is_harming o d = is_flying d && is_other_near DISC_REACH o d

abbrev pub is_of : ℕ → State → Bool
is_of client (Disc d) = d.owner == client
is_of client _ = false

abbrev pub is_scoring : List Object → ℕ → Object → Bool
is_scoring os client d = is_hitting os d && is_of client d.state

-- what discs take from an object
unfoldable pub harm : List Object → Object → ℕ
harm os o = DISC_HARM * count_by (is_harming o) os

unfoldable pub hits : List Object → ℕ → ℕ
hits os client = count_by (is_scoring os client) os

-- an age grows by 1; from 20 on nothing depends on it
abbrev pub aged : ℕ → ℕ
aged age = min MAX_AGE (age + 1)

-- the velocity leads out of the field
abbrev pub is_leaving : Place → DiscPart → Bool
is_leaving p d = not (is_in_field (pos p.x +ℤ d.vx) && is_in_field (pos p.y +ℤ d.vy))

abbrev pub flown : Object → DiscPart → Object
flown o d =
    if nat_le MAX_AGE (aged d.age) || is_leaving o.place d
    then record o { alive = false; state = Disc (record d { age = aged d.age }) }
    else record o {
      place = record { x = clamp (pos o.place.x +ℤ d.vx); y = clamp (pos o.place.y +ℤ d.vy) };
      state = Disc (record d { age = aged d.age });
    }

unfoldable pub disc_next : Bool → Object → DiscPart → Object
disc_next hitting o d =
    if not o.alive then o
    else if hitting then record o { alive = false }
    else flown o d
