use Rattle.std.proofs.Common.{◌≡◌, ◌-◌, length, take}
use Rattle.wire_format.specs.Moves.{move_at}
use Rattle.wire_format.specs.Reading.{counted_at}
use Rattle.wire_format.proofs.Counted.{with_front}
use Rattle.wire_format.proofs.moves.read_each.Given as goal

abbrev pub invariant-moves : goal.invariant-moves
invariant-moves l = record {
  read : with_front (take l.i l.places) (counted_at (move_at l.wire) (l.count - l.i) l.own) ≡ counted_at (move_at l.wire) l.count l.fn.reader;
  len : length l.places ≡ length l.fn.places;
}
