use Rattle.messages.proofs.Costs.{pieces-cheap, pieces-few}
use Rattle.messages.proofs.laws.messages_cost_little.Goals as goal

pub returns-clause-bytes : goal.returns-clause-bytes
returns-clause-bytes c = pieces-cheap

pub returns-clause-pieces : goal.returns-clause-pieces
returns-clause-pieces c = pieces-few
