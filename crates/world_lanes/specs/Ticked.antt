-- A world that a tick made of another, of which the lanes had each field. So what they lack are fields that the tick wrote, and those of
-- the objects that it made.
use Rattle.std.specs.Prelude.{◌≡◌, ℕ, ◌==◌, ◌&&◌, Bool, List, length, Option}
use Rattle.std.specs.List.{list_any}
use Rattle.tn_types.specs.declared.moves.MoveBits.{MoveBits}
use Rattle.dirty_lanes.specs.declared.view.SimStep.{SimStep}
use Rattle.world_sim.specs.declared.rows.Write.{Write}
use Rattle.world_sim.specs.Worlds.{Worlds, AreOfFields, next}
use Rattle.world_lanes.specs.Behind.{IsBrought}

abbrev pub is_write_of : ℕ → ℕ → Write → Bool
is_write_of object field w = (object == w.object) && (field == w.field)

-- the field is written by one of these
abbrev pub is_written : List Write → ℕ → ℕ → Bool
is_written writes object field = list_any (is_write_of object field) writes

-- this tick made the world of one that had so many objects, each field with its version, and the lanes were behind in none of them
pub record IsTick (w : Worlds) (moves : List (Option MoveBits)) (had : ℕ) (steps : List SimStep) (before : Worlds) : Type 0 where
  pub next : w ≡ next before moves
  pub objects : length before.objects ≡ had
  pub versions : AreOfFields before.objects before.versions
  pub brought : IsBrought before steps

abbrev pub IsTicked : Worlds → ℕ → List SimStep → Type 0
IsTicked w had steps = (moves : List (Option MoveBits)) × ((before : Worlds) × IsTick w moves had steps before)
