use Rattle.std.proofs.Common.{◌≡◌, ◌≤◌, ◌+◌, length}
use Rattle.tn_types.specs.Least.{those_below}
use Rattle.datablocks.specs.ProgressWords.{is_due_at}
use Rattle.datablocks.proofs.progress.due_between.Given as goal

abbrev pub invariant-loop-i : goal.invariant-loop-i
invariant-loop-i l = record {
  all : l.numbers ≡ those_below (is_due_at l.progress) l.i;
  few : length l.numbers + l.first ≤ l.i;
}
