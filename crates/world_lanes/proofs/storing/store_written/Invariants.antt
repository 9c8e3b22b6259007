use Rattle.std.proofs.Common.{◌≡◌, ◌<◌, ◌≤◌, ◌&&◌, ◌^◌, ℕ, length, take}
use Rattle.std.specs.Prelude.{vec_capacity}
use Rattle.std.specs.List.{All}
use Rattle.dirty_lanes.specs.declared.limits.TheConstants.{MAX_LANE_FIELDS}
use Rattle.world_lanes.specs.Behind.{is_behind, Brings}
use Rattle.world_lanes.specs.Ticked.{is_written}
use Rattle.world_lanes.specs.Told.{is_told}
use Rattle.world_lanes.proofs.storing.store_written.Given as goal

abbrev pub invariant-loop-write : goal.invariant-loop-write
invariant-loop-write g l = record {
  few : length l.changed.items ≤ l.write-index;
  kept : vec_capacity l.initial.changed ≤ vec_capacity l.changed;
  told : (o f : ℕ) → is_told l.changed.items o f
      ≡ (is_written (take l.write-index l.world.writes) o f && is_behind l.world l.initial.sim.steps o f);
  there : All (λ c. c.object < l.lanes.objects) l.changed.items;
  bits : All (λ c. c.bits < 2 ^ MAX_LANE_FIELDS) l.changed.items;
  brings : Brings l.world (is_written (take l.write-index l.world.writes)) l.initial.sim.steps l.sim.steps;
}
