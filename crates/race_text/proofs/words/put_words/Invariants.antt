use Rattle.std.proofs.Common.{◌≡◌, ◌++◌}
use Rattle.race_text.specs.Text.{of_each, client_masks}
use Rattle.race_text.proofs.words.put_words.Given as goal

abbrev pub invariant-loop-client : goal.invariant-loop-client
invariant-loop-client l = record {
  added : l.text.added ≡ l.fn.text.added ++ of_each l.client (client_masks l.words l.objects);
  before : l.text.before ≡ l.fn.text.before;
}
