use Rattle.std.proofs.Common.{◌≡◌}
use Rattle.plain_race.specs.Idle.{idle_row}
use Rattle.plain_race.proofs.idle.no_moves.Given as goal

abbrev pub invariant-loop-i : goal.invariant-loop-i
invariant-loop-i l = l.row.items ≡ idle_row l._i
