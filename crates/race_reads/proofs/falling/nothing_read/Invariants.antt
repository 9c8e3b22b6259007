use Rattle.std.proofs.Common.{◌≡◌, replicate}
use Rattle.race_reads.proofs.falling.nothing_read.Given as goal

abbrev pub invariant-loop-i : goal.invariant-loop-i
invariant-loop-i l = l.all.items ≡ replicate l._i 0
