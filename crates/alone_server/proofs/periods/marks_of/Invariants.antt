use Rattle.std.proofs.Common.{◌≡◌, map, take}
use Rattle.alone_server.specs.Periods.{drain_of}
use Rattle.alone_server.proofs.periods.marks_of.Given as goal

abbrev pub invariant-loop-p : goal.invariant-loop-p
invariant-loop-p l = l.marks.items ≡ map drain_of (take l.p-index l.periods)
