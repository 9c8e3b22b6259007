use Rattle.std.specs.Prelude.{◌↔◌}
use Rattle.std.specs.List.{AllByRecursion}
use Rattle.race_reads.specs.Reads.{ReadStands}
use Rattle.race_reads.specs.Legal.{reads_of}
use Rattle.race_reads.proofs.Packs.{reads_left}
use Rattle.race_reads.proofs.standing.reads_stand.Given as goal

abbrev pub invariant-loop-i : goal.invariant-loop-i
invariant-loop-i l = AllByRecursion (ReadStands l.values l.objects) (reads_of l.steps.list) ↔ AllByRecursion (ReadStands l.values l.objects) (reads_left l.steps.list l.i)
