use Rattle.std.proofs.Common.{◌≡◌, take, drop}
use Rattle.datablocks.specs.Holding.{check_answer, after_all}
use Rattle.datablocks.proofs.receiver.BlockReceiver.check.Given as goal

abbrev pub invariant-loop-i : goal.invariant-loop-i
invariant-loop-i l = check_answer l.self l.list ≡ check_answer (after_all l.self (take l.i l.list)) (drop l.i l.list)
