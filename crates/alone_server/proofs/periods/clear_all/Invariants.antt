use Rattle.std.proofs.Common.{◌≡◌, ◌++◌, map, take, drop}
use Rattle.alone_server.specs.Periods.{unwritten}
use Rattle.alone_server.proofs.periods.clear_all.Given as goal

abbrev pub invariant-loop-i : goal.invariant-loop-i
invariant-loop-i l = l.periods ≡ map unwritten (take l.i l.fn.periods) ++ drop l.i l.fn.periods
