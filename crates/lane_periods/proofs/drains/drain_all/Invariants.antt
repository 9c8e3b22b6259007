use Rattle.std.proofs.Common.{◌≡◌, ◌≤◌, List, map, take}
use Rattle.std.specs.Prelude.{vec_len, vec_capacity}
use Rattle.tn_types.specs.declared.choices.Drain.{Drain}
use Rattle.lane_periods.specs.Views.{drained_onto, own_bits}
use Rattle.lane_periods.proofs.drains.drain_all.Given as goal

abbrev pub invariant-loop-n : goal.invariant-loop-n
invariant-loop-n g l = record {
  client : l.seat.client ≡ l.initial.seat.client;
  told : (words : List Drain) × (map (λ (d : Drain). d.n) words ≡ take l.n-index l.n-items)
      × (l.seat.steps ≡ drained_onto l.periods.objects words l.initial.seat.steps) × (l.drains.items ≡ map (own_bits l.periods.table l.periods.kinds) words);
  room : vec_len l.drains ≤ l.n-index;
  capacity : vec_capacity l.drains ≡ vec_capacity l.initial.drains;
}
