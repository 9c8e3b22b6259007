use Rattle.std.proofs.Common.{◌≡◌, ◌≤◌, ◌+◌, ◌++◌, length}
use Rattle.rtrb.specs.Ring.{sent, known_free}
use Rattle.race_sim.proofs.outgoing.pass_on.Given as goal

abbrev pub invariant-loop : goal.invariant-loop
invariant-loop l = record {
  room : l.count ≤ known_free l.ring + l.counter;
  there : l.count ≤ length l.waiting.items + l.counter;
  same : sent l.ring ++ l.waiting.items ≡ sent l.initial.ring ++ l.initial.waiting.items;
  places : known_free l.ring + l.counter ≡ known_free l.initial.ring;
  left : length l.waiting.items + l.counter ≡ length l.initial.waiting.items;
}
