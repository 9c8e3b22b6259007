use Rattle.std.proofs.Common.{◌≡◌, ◌++◌, drop, length}
use Rattle.world_rules.specs.Spawning.{first_objects}
use Rattle.world_sim.proofs.start.start_objects.Given as goal

abbrev pub invariant-loop-i : goal.invariant-loop-i
invariant-loop-i l = record {
  so_far : first_objects 0 l.spawns ≡ l.objects.items ++ first_objects l.i (drop l.i l.spawns);
  many : length l.objects.items ≡ l.i;
}
