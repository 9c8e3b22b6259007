use Rattle.std.proofs.Common.{◌≡◌, ℕ, length, None}
use Rattle.datablocks.specs.Holding.{held_at}
use Rattle.datablocks.proofs.receiver.places.Given as goal

abbrev pub invariant-loop : goal.invariant-loop
invariant-loop l = record {
  places : length l.places.items ≡ l.counter;
  none : (b : ℕ) → held_at l.places.items b ≡ None;
}
