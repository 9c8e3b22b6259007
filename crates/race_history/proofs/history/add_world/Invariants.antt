use Rattle.std.proofs.Common.{◌≡◌, ◌≤◌, length, map, take}
use Rattle.tn_types.specs.declared.limits.TheConstants.{MAX_OBJECTS}
use Rattle.world_sim.specs.Rows.{values_of}
use Rattle.race_history.specs.Growing.{with_rows}
use Rattle.race_history.proofs.history.add_world.Given as goal

abbrev pub invariant-loop-object : goal.invariant-loop-object
invariant-loop-object l = record {
  value : l.objects.items ≡ with_rows l.initial.objects.items (take l.object (map values_of l.world.objects));
  few : length l.objects.items ≤ MAX_OBJECTS;
}
