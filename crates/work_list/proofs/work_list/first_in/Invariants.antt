use Rattle.std.proofs.Common.{◌≡◌, ◌*◌, ◌<◌, ◌≤◌, ℕ, false}
use Rattle.work_list.specs.Bits.{in_words}
use Rattle.work_list.proofs.work_list.first_in.Given as goal

abbrev pub invariant-words : goal.invariant-words
invariant-words l = record {
  from : l.word ≤ l.at;
  none : (u : ℕ) → 64 * l.word ≤ u → u < 64 * l.at → in_words l.words u ≡ false;
}
