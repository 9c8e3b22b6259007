use Rattle.std.proofs.Common.{◌≡◌, ◌++◌, map, take}
use Rattle.race_course.specs.Messages.{show_message}
use Rattle.race_course.proofs.scan.add_shows.Given as goal

abbrev pub invariant-loop-s : goal.invariant-loop-s
invariant-loop-s l = l.into.items ≡ l.initial.into.items ++ map (show_message l.world l.client) (take l.s-index l.shows)
