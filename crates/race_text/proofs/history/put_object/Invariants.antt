use Rattle.std.proofs.Common.{◌≡◌, ◌++◌}
use Rattle.race_text.specs.Text.{of_each, field_line}
use Rattle.race_text.proofs.history.put_object.Given as goal

abbrev pub invariant-loop-field : goal.invariant-loop-field
invariant-loop-field l = record {
  added : l.text.added ≡ l.fn.text.added ++ of_each l.field (field_line l.values l.object);
  before : l.text.before ≡ l.fn.text.before;
}
