use Rattle.own_items.proofs.MadeItems.{more_writes}
use Rattle.own_items.proofs.making.put_writes.Goals as goal

pub loop-w-preserved : goal.loop-w-preserved
loop-w-preserved c = more_writes c.args.period.now _ _ _ c.args.writes.now c.loop-w.w-index _ c.loop-w-test.true c.loop-w.invariant c.in_ok-put_write.ensures
