use Rattle.std.proofs.Common.{◌≡◌, map, take, drop}
use Rattle.tn_types.specs.declared.limits.TheConstants.{MAX_WAITING_MOVES}
use Rattle.own_lists.specs.Course.{near_step}
use Rattle.client_seat.proofs.Making.{Partly}
use Rattle.client_seat.proofs.seat.Seat.near_all.Given as goal

abbrev pub invariant-loop-near : goal.invariant-loop-near
invariant-loop-near l = record {
  partly : Partly l.fn.self (record { pair = l.self-inside.pair; waiting = l.self-inside.waiting.items; taken = l.self-inside.taken })
      (map near_step (take l.near-index l.nears)) (map near_step (drop l.near-index l.nears));
  places : l.self-inside.waiting.capacity ≡ MAX_WAITING_MOVES;
}
