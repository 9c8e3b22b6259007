use Rattle.tribes_ends.proofs.Replayed.{played-on}
use Rattle.tribes_ends.proofs.laws.accepted_moves_change_nothing.Goals as goal

pub returns : goal.returns
returns g c = λ step base log count. played-on step base log count
