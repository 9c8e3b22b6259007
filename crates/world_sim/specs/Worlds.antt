-- The world tick by tick: the objects after it by the world's rules, the versions of their fields, and what the tick wrote.
use Rattle.std.specs.Prelude.{ℕ, ℤ, Bool, option_map, option_and_then, slice_get, position, ◌+◌, ◌≤◌, ◌≡◌, List, ◌++◌, ◌∷◌, [], length, map, Option, Some, None, nat_lt, if◌then◌else◌}
use Rattle.std.specs.List.{AllByRecursion}
use Rattle.tn_types.specs.declared.limits.TheConstants.{MAX_OBJECTS}
use Rattle.tn_types.specs.declared.moves.MoveBits.{MoveBits}
use Rattle.world_rules.specs.declared.object.Object.{Object}
use Rattle.world_rules.specs.Next.{Moment}
use Rattle.world_rules.specs.Kinds.{kind_of}
use Rattle.world_rules.specs.Ranges.{ObjectFits}
use Rattle.world_rules.specs.Flags.{is_player}
use Rattle.world_rules.specs.Identity.{Identity, identity_of, IsPeopled}
use Rattle.world_rules.specs.Spawning.{first_objects}
use Rattle.world_rules.specs.declared.setup.Setup.{Setup}
use Rattle.world_rules.specs.Next.{objects_next}
use Rattle.world_sim.specs.declared.rows.Write.{Write}
use Rattle.world_sim.specs.declared.rows.Row.{Row}
use Rattle.world_sim.specs.Rows.{values_of, fresh_versions, versions_next, world_writes}
use Rattle.world_sim.specs.RowsNext.{row_values}
use Rattle.world_cells.specs.Grid.{numbers, lasts, place_told}
use Rattle.world_cells.specs.Cells.{IsGrid}
use Rattle.world_cells.specs.Lines.{GridParts}
use Rattle.world_places.specs.Places.{PlaceLists, ArePlaced}
use Rattle.world_sim.specs.declared.glance.Glance.{Glance}
use Rattle.world_sim.specs.Glances.{glance_of}
use Rattle.world_sim.specs.Turns.{HasGoing}

pub record Worlds : Type 0 where
  pub seed : ℕ
  pub clients : ℕ
  pub radius : ℕ
  pub ticks : ℕ
  pub objects : List Object
  pub versions : List (List ℕ)
  pub writes : List Write

-- the discs with one more, if it was made and there is a place
abbrev pub added : ℕ → List Object → Option Object → List Object
added room discs None = discs
added room discs (Some disc) = if nat_lt (length discs) room then discs ++ disc ∷ [] else discs

-- the moment of the next tick
abbrev pub coming : Worlds → Moment
coming w = record { seed = w.seed; tick = w.ticks + 1 }

abbrev pub after : Worlds → List (Option MoveBits) → List Object
after w moves = objects_next w.objects moves (coming w)

unfoldable pub next : Worlds → List (Option MoveBits) → Worlds
next w moves = record {
  seed = w.seed;
  clients = w.clients;
  radius = w.radius;
  ticks = w.ticks + 1;
  objects = after w moves;
  versions = versions_next w.objects (after w moves) w.versions;
  writes = world_writes 0 w.objects (after w moves) w.versions;
}

abbrev pub WasCounted : ℕ → List ℕ → Type 0
WasCounted ticks versions = AllByRecursion (λ v. v ≤ ticks) versions

-- one version for each field of each object
abbrev pub AreOfFields : List Object → List (List ℕ) → Type 0
AreOfFields [] [] = Unit {0}
AreOfFields (o ∷ os) (v ∷ versions) = (length (values_of o) ≡ length v) × AreOfFields os versions
AreOfFields [] (v ∷ versions) = ⊥
AreOfFields (o ∷ os) [] = ⊥

-- what holds of every world
pub record IsWorld (w : Worlds) : Type 0 where
  pub few : length w.objects ≤ MAX_OBJECTS
  pub versions : AreOfFields w.objects w.versions
  pub counted : AllByRecursion (WasCounted w.ticks) w.versions
  pub fits : AllByRecursion ObjectFits w.objects
  pub peopled : IsPeopled w.clients w.objects

-- a world as the code keeps it: each row has its object's values, each cell the numbers of those that lie in it, there are a
-- glance and a place for each object, and a set has the numbers of all that may still change
pub record IsKept (w : Worlds) (rows : List Row) (glances : List Glance) (cells : GridParts) (places : PlaceLists)
    (always going : List ℕ) : Type 0 where
  pub world : IsWorld w
  pub values : map row_values rows ≡ map values_of w.objects
  pub glanced : glances ≡ map glance_of w.objects
  pub grid : IsGrid cells w.objects
  pub placed : ArePlaced places w.objects
  pub lasting : always ≡ numbers lasts 0 w.objects
  pub has_going : HasGoing going w.objects

-- the world before its first tick
abbrev pub first_world : ℕ → Setup → Worlds
first_world seed setup = record {
  seed = seed;
  clients = setup.clients;
  radius = setup.radius;
  ticks = 0;
  objects = first_objects 0 setup.spawns;
  versions = map fresh_versions (first_objects 0 setup.spawns);
  writes = [];
}

-- what stands at this number
abbrev pub alive_at : Worlds → ℕ → Option Bool
alive_at w object = option_map (λ o. o.alive) (slice_get w.objects object)

abbrev pub identity_at : Worlds → ℕ → Option Identity
identity_at w object = option_map identity_of (slice_get w.objects object)

-- the number of the client's player
abbrev pub player_of : Worlds → ℕ → Option ℕ
player_of w client = position (is_player client) w.objects

abbrev pub kind_at : Worlds → ℕ → Option ℕ
kind_at w object = option_map (λ o. kind_of o.state) (slice_get w.objects object)

abbrev pub block_at : Worlds → ℕ → Option ℕ
block_at w object = option_map (λ o. o.block) (slice_get w.objects object)

-- the place of an object; none inside for a clock, and none at all where there is no such object
abbrev pub place_at : Worlds → ℕ → Option (Option (ℤ × ℤ))
place_at w object = option_map place_told (slice_get w.objects object)

abbrev pub values_at : Worlds → ℕ → Option (List ℤ)
values_at w object = option_map values_of (slice_get w.objects object)

-- the value of a field and how often it was written; none where the object has no such field
abbrev pub value_at : Worlds → ℕ → ℕ → Option ℤ
value_at w object field = option_and_then (λ values. slice_get values field) (values_at w object)

abbrev pub version_at : Worlds → ℕ → ℕ → Option ℕ
version_at w object field = option_and_then (λ versions. slice_get versions field) (slice_get w.versions object)
