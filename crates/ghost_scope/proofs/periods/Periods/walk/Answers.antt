use Rattle.std.proofs.Common.{subst}
use Rattle.ghost_scope.specs.Table.{IsWork}
use Rattle.ghost_scope.proofs.Tracked.{is_work}
use Rattle.ghost_scope.proofs.periods.Periods.walk.Goals as goal

pub returns-clause-work : goal.returns-clause-work
returns-clause-work c = subst IsWork c.self.view_is (is_work c.self.inside.entries.items c.self.inside.holders.items c.self.inside.first_waiting c.self.inside.shown c.self.inside.work c.self.invariant.0 c.self.invariant.2 c.walk.ensures.unique)
