use Rattle.std.proofs.Common.{take, reverse}
use Rattle.race_course.specs.Course.{IsMadeOf, world_of}
use Rattle.race_course.proofs.course.followed.Given as goal

abbrev pub invariant-loop-line : goal.invariant-loop-line
invariant-loop-line l = IsMadeOf l.making (world_of l.script) l.moves l.script.head.clients (reverse (take l.line-index l.script.body))
