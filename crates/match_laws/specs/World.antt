-- The living objects of a world.
use Rattle.std.specs.Prelude.{ℕ, List, if◌then◌else◌, Option, Some, None}
use Rattle.std.specs.List.{filter_map, enumerate_from}
use Rattle.world_rules.specs.declared.object.Object.{Object}
use Rattle.world_rules.specs.Kinds.{kind_of}
use Rattle.world_sim.specs.Rows.{values_of}
use Rattle.world_sim.specs.Worlds.{Worlds}
use Rattle.match_report.specs.declared.living.LivingObject.{LivingObject}

-- an object with its number, where it lives
abbrev pub living_one : ℕ × Object → Option LivingObject
living_one e = if e.1.alive then Some (record { number = e.0; kind = kind_of e.1.state; values = values_of e.1 }) else None

-- the living objects of a world, by rising number
abbrev pub living : Worlds → List LivingObject
living w = filter_map living_one (enumerate_from 0 w.objects)
