use Rattle.std.proofs.Common.{◌≡◌, map, take, filter}
use Rattle.own_lists.specs.Kept.{has_bits}
use Rattle.alone_server.specs.Periods.{drain_of}
use Rattle.alone_server.proofs.periods.drains_of.Given as goal

abbrev pub invariant-loop-p : goal.invariant-loop-p
invariant-loop-p l = l.drains.items ≡ filter has_bits (map drain_of (take l.p-index l.periods))
