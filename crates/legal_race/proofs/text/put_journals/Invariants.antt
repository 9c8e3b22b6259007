use Rattle.std.proofs.Common.{◌≡◌, ◌++◌}
use Rattle.race_text.specs.Text.{of_each}
use Rattle.legal_race.specs.Text.{journal_of}
use Rattle.legal_race.proofs.text.put_journals.Given as goal

abbrev pub invariant-loop-c : goal.invariant-loop-c
invariant-loop-c l = record {
  added : l.text.added ≡ l.fn.text.added ++ of_each l.c (journal_of l.race);
  before : l.text.before ≡ l.fn.text.before;
}
