use Rattle.std.proofs.Common.{◌≡◌, ◌++◌, map, take}
use Rattle.race_course.specs.Messages.{hide_message}
use Rattle.race_course.proofs.scan.add_hides.Given as goal

abbrev pub invariant-loop-n : goal.invariant-loop-n
invariant-loop-n l = l.into.items ≡ l.initial.into.items ++ map hide_message (take l.n-index l.hides)
