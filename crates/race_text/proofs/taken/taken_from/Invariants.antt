use Rattle.std.proofs.Common.{◌≡◌, ◌≤◌, length, take}
use Rattle.race_history.specs.Moves.{moves_taken}
use Rattle.race_text.proofs.taken.taken_from.Given as goal

abbrev pub invariant-loop-tick : goal.invariant-loop-tick
invariant-loop-tick l = record {
  count : l.count ≡ length (moves_taken l.client (take l.tick l.ticks));
  few : l.count ≤ l.tick;
}
