use Rattle.connection_lock.proofs.Keeping.{prepared-locked}
use Rattle.connection_lock.proofs.taking.take_one.Goals as goal

pub returns-in_err-prepare-clause-locked : goal.returns-in_err-prepare-clause-locked
returns-in_err-prepare-clause-locked g c =
    let e = c.prepare.ensures in
    prepared-locked g.N.LaneName.objects c.args.pair.now c.prepare.new.pair c.args.seat.now c.args.periods.now c.prepare.new.periods e.steps e.conn e.client e.same c.requires.locked

pub take-requires-clause-locked : goal.take-requires-clause-locked
take-requires-clause-locked g c =
    let e = c.prepare.ensures in
    prepared-locked g.N.LaneName.objects c.args.pair.now c.prepare.new.pair c.args.seat.now c.args.periods.now c.prepare.new.periods e.steps e.conn e.client e.same c.requires.locked
