use Rattle.std.proofs.Common.{◌≡◌, ◌++◌}
use Rattle.race_text.specs.Text.{of_each, object_lines}
use Rattle.race_text.proofs.history.put_history.Given as goal

abbrev pub invariant-loop-object : goal.invariant-loop-object
invariant-loop-object l = record {
  added : l.text.added ≡ l.fn.text.added ++ of_each l.object (object_lines l.values);
  before : l.text.before ≡ l.fn.text.before;
}
