use Rattle.std.proofs.Common.{◌≡◌, ◌+◌, ◌++◌, drop, length, vec_capacity}
use Rattle.world_scope.specs.Rings.{entries}
use Rattle.world_scope.proofs.whole_words.push_all.Given as goal

abbrev pub invariant-loop-k : goal.invariant-loop-k
invariant-loop-k l = record {
  at : l.object ≡ l.from + l.k;
  so_far : l.list.items ++ entries (l.from + l.k) (drop l.k l.levels) ≡ l.initial.list.items ++ entries l.from l.levels;
  many : length l.list.items ≡ length l.initial.list.items + l.k;
  room : vec_capacity l.list ≡ vec_capacity l.initial.list;
}
