use Rattle.std.proofs.Common.{◌≡◌, ◌++◌, map, take}
use Rattle.race_course.specs.Messages.{near_message}
use Rattle.race_course.proofs.scan.add_nears.Given as goal

abbrev pub invariant-loop-p : goal.invariant-loop-p
invariant-loop-p l = l.into.items ≡ l.initial.into.items ++ map near_message (take l.p-index l.nears)
