use Rattle.std.proofs.Common.{refl, subst}
use Rattle.connection_lock.specs.Rule.{LockHolds}
use Rattle.connection_lock.proofs.Holding.{lock-holds}
use Rattle.connection_lock.proofs.locked.Locked.pair.Goals as goal

pub returns-clause-holds : goal.returns-clause-holds
returns-clause-holds g c = subst LockHolds c.self.view_is (lock-holds _ g.N.LaneName.objects c.self.inside.periods refl c.steps-steps.ensures.replays c.self.invariant)
