use Rattle.std.proofs.Common.{◌≡◌, ◌++◌}
use Rattle.race_text.specs.Text.{of_each, tick_line}
use Rattle.race_text.proofs.moves.put_moves.Given as goal

abbrev pub invariant-loop-place : goal.invariant-loop-place
invariant-loop-place l = record {
  added : l.text.added ≡ l.fn.text.added ++ of_each l.place (tick_line l.ticks);
  before : l.text.before ≡ l.fn.text.before;
}
