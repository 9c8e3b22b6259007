use Rattle.pair_core.specs.History.{history}
use Rattle.pair_laws.proofs.Delivered.{good}
use Rattle.pair_laws.proofs.Carried.{carried}
use Rattle.pair_laws.proofs.Joined.{joined}
use Rattle.pair_laws.proofs.ReceivedBlocks.{holds_received}
use Rattle.ghost_logs.proofs.Agree.{agree}
use Rattle.ghost_logs.proofs.Fits.{packets-fit}
use Rattle.ghost_logs.proofs.Refused.{block-held}
use Rattle.pair_copies.proofs.copies_agree_with_slots.Goals as goal

pub returns-clause-copies : goal.returns-clause-copies
returns-clause-copies c t steps limits fit met honest =
    let all = good t limits steps fit met honest in
    agree t (history t steps).server (history t steps).client (carried t limits steps all).legal (joined t limits steps all)

pub returns-clause-packets : goal.returns-clause-packets
returns-clause-packets c t steps limits fit met honest =
    let all = good t limits steps fit met honest in
    packets-fit t (history t steps).server (history t steps).client (carried t limits steps all).legal (joined t limits steps all)

pub returns-clause-blocks : goal.returns-clause-blocks
returns-clause-blocks c t steps limits fit met honest =
    let all = good t limits steps fit met honest in
    block-held t (history t steps).server (history t steps).client (carried t limits steps all).legal (joined t limits steps all) (holds_received t steps limits all)
