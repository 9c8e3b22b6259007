use Rattle.std.proofs.Common.{◌≡◌, ◌<◌, ◌≤◌, ◌^◌, ◌++◌, ◌+◌, ◌*◌, drop, count_by, vec_capacity}
use Rattle.world_scope.specs.Views.{look}
use Rattle.world_scope.specs.Candidates.{may_see, to_come}
use Rattle.world_scope.proofs.Rests.{IsRest}
use Rattle.world_scope.proofs.gather.gather_words.Given as goal

abbrev pub invariant-loop-rest : goal.invariant-loop-rest
invariant-loop-rest g l = record {
  few : l.next ≤ 16;
  fits : l.rest < 2 ^ 64;
  left : IsRest l.initial.rest 0 l.rest l.next;
  so_far : l.out.items ++ to_come (look l.viewer) l.world.objects (64 * l.next) ≡ to_come (look l.viewer) l.world.objects 0;
  room : vec_capacity l.initial.out ≤ vec_capacity l.out;
  steps : l.steps + count_by (may_see (look l.viewer)) (drop (64 * l.next) l.world.objects) ≤ l.initial.steps + count_by (may_see (look l.viewer)) l.world.objects;
}

abbrev pub decreases-loop-rest : goal.decreases-loop-rest
decreases-loop-rest g l = l.rest
