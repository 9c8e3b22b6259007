use Rattle.std.proofs.Common.{◌≡◌, ◌≤◌, ◌+◌, ◌++◌, length, take}
use Rattle.rtrb.specs.Ring.{sent, known_free}
use Rattle.connection_lock.proofs.line.hand_on.Given as goal

abbrev pub invariant-loop-i : goal.invariant-loop-i
invariant-loop-i l = record {
  sent : sent l.outbox ≡ sent l.initial.outbox ++ take l.i l.moves;
  room : length l.moves ≤ known_free l.outbox + l.i;
}
