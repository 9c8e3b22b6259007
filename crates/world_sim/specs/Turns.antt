-- What the rules read of the world before a tick, and which objects a tick leaves as they are.
use Rattle.std.specs.Prelude.{◌≡◌, ◌≤◌, ◌<◌, ℕ, ◌&&◌, ◌||◌, ◌==◌, not, Bool, true, false, List, [], ◌∷◌, length, map, slice_get, slice_index_or, Some, zero, suc}
use Rattle.std.specs.Option.{option_map_or}
use Rattle.tn_types.specs.declared.limits.TheConstants.{MAX_OBJECTS}
use Rattle.world_rules.specs.declared.object.TheConstants.{MAX_AGE}
use Rattle.world_rules.specs.declared.object.Object.{Object}
use Rattle.world_rules.specs.declared.object.State.{State}
use Rattle.world_rules.specs.declared.object.State.TheVariants.{Disc, Mine, Drone}
use Rattle.world_rules.specs.Flags.{captures}
use Rattle.world_rules.specs.Next.{Moment}
use Rattle.world_cells.specs.NumberSet.{bit_of}
use Rattle.world_sim.specs.declared.step.Old.{Old}
use Rattle.world_sim.specs.declared.glance.Glance.{Glance}
use Rattle.world_sim.specs.Found.{AreFound}
use Rattle.world_sim.specs.Glances.{glance_of}

-- the moment of the tick
abbrev pub moment : Old → Moment
moment old = record { seed = old.seed; tick = old.tick }

-- these are the objects before the tick
pub record IsOld (os : List Object) (old : Old) : Type 0 where
  pub found_is : AreFound os old.found.now
  pub few : length os ≤ MAX_OBJECTS
  pub red_is : old.red ≡ captures os 0
  pub blue_is : old.blue ≡ captures os 1

-- dead, or a mine that is armed and as old as it gets, and that nothing triggers
abbrev pub is_quiet_part : Bool → Bool → State → Bool
is_quiet_part ending alive (Disc d) = not alive
is_quiet_part ending alive (Drone d) = not alive
is_quiet_part ending alive (Mine m) = not alive || (not ending && (m.armed && m.age == MAX_AGE))
is_quiet_part ending alive _ = false

abbrev pub is_quiet : Bool → Object → Bool
is_quiet ending o = is_quiet_part ending o.alive o.state

-- dead, and of a kind that no tick brings back
abbrev pub is_over_part : Bool → State → Bool
is_over_part alive (Disc d) = not alive
is_over_part alive (Drone d) = not alive
is_over_part alive (Mine m) = not alive
is_over_part alive _ = false

abbrev pub is_over : Object → Bool
is_over o = is_over_part o.alive o.state

-- a set has each number but those of objects that are over
abbrev pub HasGoing : List ℕ → List Object → Type 0
HasGoing set os = (n : ℕ) → n < MAX_OBJECTS → bit_of set n ≡ 0 → option_map_or is_over (slice_get os n) false ≡ true

-- a tick leaves those between two numbers as they are, by a set, their glances and the marks of what ends
abbrev pub ArePassed : List ℕ → List Glance → List Bool → ℕ → ℕ → Type 0
ArePassed set glances marks from to = (os : List Object) → glances ≡ map glance_of os → HasGoing set os → (n : ℕ) (o : Object)
    → from ≤ n → n < to → slice_get os n ≡ Some o → is_quiet (slice_index_or marks n false) o ≡ true

-- the first objects after a step each, the others as they were
abbrev pub stepped_to : ℕ → (Object → Object) → List Object → List Object
stepped_to zero f os = os
stepped_to (suc n) f [] = []
stepped_to (suc n) f (o ∷ os) = f o ∷ stepped_to n f os
