use Rattle.std.proofs.Common.{◌≡◌, map, take, drop}
use Rattle.tn_types.specs.declared.limits.TheConstants.{MAX_WAITING_MOVES}
use Rattle.own_lists.specs.Course.{show_step}
use Rattle.client_seat.proofs.Making.{Partly}
use Rattle.client_seat.proofs.seat.Seat.show_all.Given as goal

abbrev pub invariant-loop-show : goal.invariant-loop-show
invariant-loop-show l = record {
  partly : Partly l.fn.self (record { pair = l.self-inside.pair; waiting = l.self-inside.waiting.items; taken = l.self-inside.taken })
      (map show_step (take l.show-index l.shows)) (map show_step (drop l.show-index l.shows));
  places : l.self-inside.waiting.capacity ≡ MAX_WAITING_MOVES;
}
