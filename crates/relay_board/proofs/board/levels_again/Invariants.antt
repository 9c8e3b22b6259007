use Rattle.std.proofs.Common.{◌≡◌, ◌≤◌, take, length}
use Rattle.relay_board.proofs.board.levels_again.Given as goal

abbrev pub invariant-loop-level : goal.invariant-loop-level
invariant-loop-level l = record { value : l.list ≡ take l.level-index l.level-items; few : length l.level-items ≤ 16 }
