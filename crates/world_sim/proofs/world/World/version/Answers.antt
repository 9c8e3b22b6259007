use Rattle.world_sim.proofs.ForGood.{version_most}
use Rattle.world_sim.proofs.world.World.version.Goals as goal

pub returns-clause-most : goal.returns-clause-most
returns-clause-most c = version_most c.args.self.now c.args.object c.args.field c.version_in_row.result c.version_in_row.ensures.counted c.version_in_row.ensures.value
