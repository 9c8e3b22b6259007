use Rattle.std.proofs.Common.{◌≡◌, map, take, drop}
use Rattle.tn_types.specs.declared.limits.TheConstants.{MAX_WAITING_MOVES}
use Rattle.own_lists.specs.Course.{hide_step}
use Rattle.client_seat.proofs.Making.{Partly}
use Rattle.client_seat.proofs.seat.Seat.hide_all.Given as goal

abbrev pub invariant-loop-n : goal.invariant-loop-n
invariant-loop-n l = record {
  partly : Partly l.fn.self (record { pair = l.self-inside.pair; waiting = l.self-inside.waiting.items; taken = l.self-inside.taken })
      (map hide_step (take l.n-index l.hides)) (map hide_step (drop l.n-index l.hides));
  places : l.self-inside.waiting.capacity ≡ MAX_WAITING_MOVES;
}
