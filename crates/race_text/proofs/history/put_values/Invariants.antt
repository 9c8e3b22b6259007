use Rattle.std.proofs.Common.{◌≡◌, ◌++◌, take}
use Rattle.std.specs.List.{flat_map}
use Rattle.race_text.specs.Text.{value_word}
use Rattle.race_text.proofs.history.put_values.Given as goal

abbrev pub invariant-loop-value : goal.invariant-loop-value
invariant-loop-value l = record {
  added : l.text.added ≡ l.fn.text.added ++ flat_map value_word (take l.value-index l.values);
  before : l.text.before ≡ l.fn.text.before;
}
