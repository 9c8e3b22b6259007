use Rattle.std.proofs.Common.{◌≡◌, take}
use Rattle.legal_race.specs.race_course.Messages.{ticks_in}
use Rattle.plain_race.specs.Idle.{idle}
use Rattle.plain_race.proofs.idle.idle_moves.Given as goal

abbrev pub invariant-loop-line : goal.invariant-loop-line
invariant-loop-line l = l.moves ≡ idle (ticks_in (take l.line-index l.script.body)) l.script.head.clients
