use Rattle.std.proofs.Common.{◌≡◌, ◌++◌}
use Rattle.std.specs.List.{filter_map}
use Rattle.ghost_model.specs.Words.{upto}
use Rattle.relay_board.specs.Changes.{change_of}
use Rattle.relay_board.proofs.board.put_changed.Given as goal

abbrev pub invariant-loop-field : goal.invariant-loop-field
invariant-loop-field l = l.changed.items ≡ l.fn.changed.items ++ filter_map (change_of l.copies.kinds l.slot l.old l.new) (upto l.field)
