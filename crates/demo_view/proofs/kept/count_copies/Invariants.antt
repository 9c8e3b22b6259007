use Rattle.std.proofs.Common.{◌≤◌}
use Rattle.demo_view.proofs.kept.count_copies.Given as goal

abbrev pub invariant-slots : goal.invariant-slots
invariant-slots l = l.count ≤ l.slot
