use Rattle.std.proofs.Common.{◌≡◌, ◌<◌, ◌≤◌, ◌^◌, ◌++◌, ◌+◌, drop, count_by, vec_capacity}
use Rattle.world_scope.specs.Views.{look}
use Rattle.world_scope.specs.Candidates.{may_see, to_come}
use Rattle.world_scope.proofs.Rests.{IsRest}
use Rattle.world_scope.proofs.gather.gather_bits.Given as goal

abbrev pub invariant-loop-rest : goal.invariant-loop-rest
invariant-loop-rest g l = record {
  fits : l.rest < 2 ^ 64;
  left : IsRest l.bits l.part.from l.rest l.next;
  so_far : l.out.items ++ to_come (look l.walk.viewer.now) l.walk.world.now.objects l.next ≡ l.initial.out.items ++ to_come (look l.walk.viewer.now) l.walk.world.now.objects l.part.from;
  room : vec_capacity l.initial.out ≤ vec_capacity l.out;
  steps : l.steps + count_by (may_see (look l.walk.viewer.now)) (drop l.next l.walk.world.now.objects) ≡ l.initial.steps + count_by (may_see (look l.walk.viewer.now)) (drop l.part.from l.walk.world.now.objects);
}

abbrev pub decreases-loop-rest : goal.decreases-loop-rest
decreases-loop-rest g l = l.rest
