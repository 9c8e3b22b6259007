use Rattle.pair_core.specs.History.{history}
use Rattle.pair_laws.proofs.Delivered.{good}
use Rattle.pair_laws.proofs.Carried.{carried}
use Rattle.pair_laws.proofs.Joined.{joined}
use Rattle.pair_laws.proofs.ReceivedBlocks.{holds_received}
use Rattle.ghost_logs.proofs.Refused.{refuses-no-ghosts}
use Rattle.pair_copies.proofs.newer_packets_fit_the_copies.Goals as goal

pub returns : goal.returns
returns c t steps limits fit met honest =
    let all = good t limits steps fit met honest in
    refuses-no-ghosts t (history t steps).server (history t steps).client (carried t limits steps all).legal (joined t limits steps all) (holds_received t steps limits all)
