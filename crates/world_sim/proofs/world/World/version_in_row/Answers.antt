use Rattle.std.proofs.Common.{subst}
use Rattle.std.specs.List.{AllByRecursion}
use Rattle.world_sim.specs.Worlds.{Worlds, WasCounted}
use Rattle.world_sim.proofs.world.World.version_in_row.Goals as goal

pub returns-clause-counted : goal.returns-clause-counted
returns-clause-counted c = subst (λ (w : Worlds). AllByRecursion (WasCounted w.ticks) w.versions) c.self.view_is c.self.invariant.world.counted
