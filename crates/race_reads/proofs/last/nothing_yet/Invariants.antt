use Rattle.std.proofs.Common.{◌≡◌, replicate, None}
use Rattle.race_reads.proofs.last.nothing_yet.Given as goal

abbrev pub invariant-loop-i : goal.invariant-loop-i
invariant-loop-i l = l.all.items ≡ replicate l._i None
