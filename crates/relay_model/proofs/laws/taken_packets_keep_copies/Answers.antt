use Rattle.relay_model.proofs.Copies.{taken_are_changes}
use Rattle.relay_model.proofs.laws.taken_packets_keep_copies.Goals as goal

pub returns : goal.returns
returns c = taken_are_changes
