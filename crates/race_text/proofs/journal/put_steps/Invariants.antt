use Rattle.std.proofs.Common.{◌≡◌, ◌≤◌, ◌++◌}
use Rattle.race_text.specs.Text.{of_each}
use Rattle.race_text.specs.Journal.{shown_before, step_line}
use Rattle.race_text.proofs.journal.put_steps.Given as goal

abbrev pub invariant-loop-place : goal.invariant-loop-place
invariant-loop-place l = record {
  added : l.text.added ≡ l.fn.text.added ++ of_each l.place (step_line l.client l.objects l.steps.list);
  before : l.text.before ≡ l.fn.text.before;
  shown : l.shown ≡ shown_before l.steps.list l.place;
  few : l.shown ≤ l.place;
}
