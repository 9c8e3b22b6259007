use Rattle.std.proofs.Common.{◌≡◌, ◌<◌, ◌≤◌, ◌++◌, [], length, map, drop}
use Rattle.tn_types.specs.declared.limits.TheConstants.{MAX_OBJECTS}
use Rattle.world_sim.specs.Rows.{values_of}
use Rattle.race_history.specs.Growing.{with_row, with_new}
use Rattle.race_history.proofs.history.add_new.Given as goal

abbrev pub invariant-loop-object : goal.invariant-loop-object
invariant-loop-object l = record {
  value : l.objects.items ++ map (with_row []) (drop l.object (map values_of l.world.objects)) ≡ with_new l.initial.objects.items (map values_of l.world.objects);
  few : length l.objects.items ≤ MAX_OBJECTS;
  next : l.object < length l.world.objects → length l.objects.items ≤ l.object;
}
