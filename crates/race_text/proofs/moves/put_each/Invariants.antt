use Rattle.std.proofs.Common.{◌≡◌, ◌++◌, take}
use Rattle.std.specs.List.{flat_map}
use Rattle.race_text.specs.Text.{taken_word}
use Rattle.race_text.proofs.moves.put_each.Given as goal

abbrev pub invariant-loop-taken : goal.invariant-loop-taken
invariant-loop-taken l = record {
  added : l.text.added ≡ l.fn.text.added ++ flat_map taken_word (take l.taken-index l.moves);
  before : l.text.before ≡ l.fn.text.before;
}
