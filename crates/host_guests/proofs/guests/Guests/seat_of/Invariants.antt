use Rattle.host_guests.specs.Guests.{SeatBelow}
use Rattle.std.specs.Prelude.{None}
use Rattle.host_guests.proofs.guests.Guests.seat_of.Given as goal

abbrev pub invariant-seats : goal.invariant-seats
invariant-seats l = record {
  none : SeatBelow l.self l.from l.place None;
}
