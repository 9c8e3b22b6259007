use Rattle.std.proofs.Common.{◌≡◌, ℕ, ◌-◌, ◌%◌, ◌<◌, ◌≤◌}
use Rattle.world_cells.specs.NumberSet.{bit_of}
use Rattle.world_cells.proofs.number_set.NumberSet.next_word.Given as goal

abbrev pub invariant-loop-at : goal.invariant-loop-at
invariant-loop-at l = record {
  order : l.from ≤ l.at;
  start : l.at % 64 ≡ 0;
  none : (n : ℕ) → l.from ≤ n → n < l.at → bit_of l.self n ≡ 0;
}

abbrev pub decreases-loop-at : goal.decreases-loop-at
decreases-loop-at l = l.end - l.at
