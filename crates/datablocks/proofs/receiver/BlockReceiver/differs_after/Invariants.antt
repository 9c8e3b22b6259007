use Rattle.std.proofs.Common.{◌≡◌, take}
use Rattle.datablocks.specs.Holding.{held_at, bytes_differ, after_all}
use Rattle.datablocks.proofs.receiver.BlockReceiver.differs_after.Given as goal

abbrev pub invariant-loop-earlier : goal.invariant-loop-earlier
invariant-loop-earlier l = l.differs ≡ bytes_differ (held_at (after_all l.self (take l.earlier-index l.before)) l.item.number) l.item.bytes
