use Rattle.std.proofs.Common.{◌≡◌, ◌<◌, ◌&&◌, ◌^◌, ℕ, nat_lt}
use Rattle.tn_types.specs.BitWords.{has_bit}
use Rattle.world_lanes.specs.Behind.{is_behind, fields_below, Brings}
use Rattle.world_lanes.proofs.storing.store_object.Given as goal

abbrev pub invariant-loop-field : goal.invariant-loop-field
invariant-loop-field g l = record {
  few : l.bits < 2 ^ l.field;
  told : (f : ℕ) → has_bit l.bits f ≡ (nat_lt f l.field && is_behind l.world l.initial.sim.steps l.object f);
  brings : Brings l.world (fields_below l.object l.field) l.initial.sim.steps l.sim.steps;
}
