use Rattle.race_history.specs.Moves.{move_taken}
use Rattle.race_steps.proofs.Walks.{found_there}
use Rattle.race_steps.proofs.moves.taken.Goals as goal

pub returns : goal.returns
returns c = found_there (move_taken c.args.client) c.args.moves.now c.args.tick c.taken.result c.requires c.taken.ensures
