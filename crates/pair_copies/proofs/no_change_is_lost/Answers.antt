use Rattle.pair_core.specs.History.{history}
use Rattle.pair_laws.proofs.Delivered.{good}
use Rattle.pair_laws.proofs.Carried.{carried}
use Rattle.pair_laws.proofs.Joined.{joined}
use Rattle.ghost_logs.proofs.Agree.{loses-nothing}
use Rattle.pair_copies.proofs.no_change_is_lost.Goals as goal

pub returns : goal.returns
returns c t steps limits fit met honest =
    let all = good t limits steps fit met honest in
    loses-nothing t (history t steps).server (history t steps).client (carried t limits steps all).legal (joined t limits steps all)
