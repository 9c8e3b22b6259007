use Rattle.world_sim.proofs.Histories.{versions_count_values}
use Rattle.world_sim.proofs.laws.versions_count_values.Goals as goal

pub returns : goal.returns
returns c = versions_count_values
