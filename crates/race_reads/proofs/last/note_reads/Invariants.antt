use Rattle.std.proofs.Common.{◌≡◌, drop}
use Rattle.race_reads.specs.Tables.{noted_periods}
use Rattle.race_reads.proofs.last.note_reads.Given as goal

abbrev pub invariant-loop-r : goal.invariant-loop-r
invariant-loop-r l = noted_periods l.fn.last l.reads ≡ noted_periods l.last (drop l.r-index l.reads)
