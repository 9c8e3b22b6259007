use Rattle.std.proofs.Common.{◌≡◌, ◌++◌}
use Rattle.race_text.specs.Text.{of_each, mask_line}
use Rattle.race_text.proofs.words.put_client.Given as goal

abbrev pub invariant-loop-object : goal.invariant-loop-object
invariant-loop-object l = record {
  added : l.text.added ≡ l.fn.text.added ++ of_each l.object (mask_line l.words l.client);
  before : l.text.before ≡ l.fn.text.before;
}
