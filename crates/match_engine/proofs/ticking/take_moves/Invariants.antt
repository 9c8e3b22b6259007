use Rattle.std.proofs.Common.{◌≡◌, ◌++◌, map, take, drop}
use Rattle.std.specs.Prelude.{slice_get}
use Rattle.match_laws.specs.client_seat.Stands.{without_first}
use Rattle.match_engine.proofs.ticking.take_moves.Given as goal

abbrev pub invariant-loop-i : goal.invariant-loop-i
invariant-loop-i l = record {
  moves : l.moves.items ≡ map (λ s. slice_get s.waiting 0) (take l.i l.fn.seats.items);
  seats : l.seats.items ≡ map without_first (take l.i l.fn.seats.items) ++ drop l.i l.fn.seats.items;
}
