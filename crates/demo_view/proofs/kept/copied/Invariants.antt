use Rattle.std.proofs.Common.{◌≡◌, ◌≤◌, take, length}
use Rattle.demo_view.proofs.kept.copied.Given as goal

abbrev pub invariant-levels : goal.invariant-levels
invariant-levels l = record { value : l.list ≡ take l.level-index l.level-items; few : length l.level-items ≤ 16 }
