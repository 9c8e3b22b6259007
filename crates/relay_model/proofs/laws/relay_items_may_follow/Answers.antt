use Rattle.relay_model.proofs.Following.{items_may_follow}
use Rattle.relay_model.proofs.laws.relay_items_may_follow.Goals as goal

pub returns : goal.returns
returns c = items_may_follow
