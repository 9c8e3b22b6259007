-- What a line does to the lanes: a tick stores each field of its world in which the lanes were behind, and then tells every client of
-- these fields and of no other, so that they are behind in none. No other line does anything to them or to the world.
use Rattle.std.specs.Prelude.{◌≡◌, ℕ, ◌&&◌, Bool, List, length}
use Rattle.dirty_lanes.specs.declared.view.SimStep.{SimStep}
use Rattle.match_script.specs.declared.types.BodyLine.{BodyLine}
use Rattle.match_script.specs.declared.types.BodyLine.TheVariants as script
use Rattle.world_sim.specs.Worlds.{Worlds}
use Rattle.world_lanes.specs.Behind.{is_behind, objects_below, Brings, IsBrought}
use Rattle.world_lanes.specs.Told.{Tells}
use Rattle.race_sim.specs.Simulating.{SimulationState}

-- the fields of the world's objects in which the lanes are behind
abbrev pub is_wanting : Worlds → List SimStep → ℕ → ℕ → Bool
is_wanting w steps object field = objects_below (length w.objects) object field && is_behind w steps object field

-- they were stored, and then told to the clients below `clients`
pub record IsTold (w : Worlds) (clients : ℕ) (old new : List SimStep) : Type 0 where
  pub stored : List SimStep
  pub brings : Brings w (objects_below (length w.objects)) old stored
  pub tells : Tells (is_wanting w old) clients stored new
  pub whole : IsBrought w new

abbrev pub LanesAfter : BodyLine → ℕ → SimulationState → SimulationState → Type 0
LanesAfter script.Tick clients old new = IsTold new.world clients old.seat.steps new.seat.steps
LanesAfter line clients old new = (new.seat ≡ old.seat) × (new.world ≡ old.world)
