use Rattle.std.proofs.Common.{◌≡◌, ◌+◌}
use Rattle.world_scope.proofs.whole_words.look_at_all.Given as goal

abbrev pub invariant-loop-k : goal.invariant-loop-k
invariant-loop-k g l = record {
  steps : l.steps ≡ l.initial.steps + l.k;
}
