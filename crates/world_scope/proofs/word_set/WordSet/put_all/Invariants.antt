use Rattle.std.proofs.Common.{take}
use Rattle.world_scope.specs.Marks.{IsMarked}
use Rattle.world_scope.proofs.Sets.{HasMore}
use Rattle.world_scope.proofs.word_set.WordSet.put_all.Given as goal

abbrev pub invariant-loop-number : goal.invariant-loop-number
invariant-loop-number l = record {
  marked : IsMarked l.self-inside.words l.marks;
  so_far : HasMore (take l.number-index l.numbers) l.initial.self-inside.words l.self-inside.words;
}
