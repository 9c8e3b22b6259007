use Rattle.std.proofs.Common.{◌≡◌, length, drop}
use Rattle.race_history.specs.Growing.{with_writes}
use Rattle.race_history.proofs.history.add_writes.Given as goal

abbrev pub invariant-loop-write : goal.invariant-loop-write
invariant-loop-write l = record {
  value : with_writes (drop l.write-index l.writes) l.objects.items ≡ with_writes l.writes l.initial.objects.items;
  many : length l.objects.items ≡ length l.initial.objects.items;
}
