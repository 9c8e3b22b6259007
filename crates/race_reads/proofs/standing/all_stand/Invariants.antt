use Rattle.std.proofs.Common.{drop}
use Rattle.std.specs.Prelude.{◌↔◌}
use Rattle.std.specs.List.{AllByRecursion}
use Rattle.race_reads.specs.Reads.{ReadStands}
use Rattle.race_reads.proofs.standing.all_stand.Given as goal

abbrev pub invariant-loop-r : goal.invariant-loop-r
invariant-loop-r l = AllByRecursion (ReadStands l.values l.objects) l.reads ↔ AllByRecursion (ReadStands l.values l.objects) (drop l.r-index l.reads)
