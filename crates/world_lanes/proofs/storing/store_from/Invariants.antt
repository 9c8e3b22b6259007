use Rattle.std.proofs.Common.{◌≡◌, ◌<◌, ◌≤◌, ◌+◌, ◌&&◌, ◌||◌, ◌^◌, ℕ, length}
use Rattle.std.specs.Prelude.{vec_capacity}
use Rattle.std.specs.List.{All}
use Rattle.dirty_lanes.specs.declared.limits.TheConstants.{MAX_LANE_FIELDS}
use Rattle.world_lanes.specs.Behind.{is_behind, Brings}
use Rattle.world_lanes.specs.Storing.{objects_between}
use Rattle.world_lanes.specs.Told.{is_told}
use Rattle.world_lanes.proofs.storing.store_from.Given as goal

abbrev pub invariant-loop-object : goal.invariant-loop-object
invariant-loop-object g l = record {
  room : length l.changed.items + length l.world.objects ≤ vec_capacity l.changed + l.object;
  told : (o f : ℕ) → is_told l.changed.items o f
      ≡ (is_told l.initial.changed.items o f || (objects_between l.from l.object o f && is_behind l.world l.initial.sim.steps o f));
  there : All (λ c. c.object < l.lanes.objects) l.changed.items;
  bits : All (λ c. c.bits < 2 ^ MAX_LANE_FIELDS) l.changed.items;
  brings : Brings l.world (objects_between l.from l.object) l.initial.sim.steps l.sim.steps;
}
