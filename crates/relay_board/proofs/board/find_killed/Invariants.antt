use Rattle.std.proofs.Common.{◌≡◌}
use Rattle.std.specs.List.{filter_map}
use Rattle.ghost_model.specs.Words.{upto}
use Rattle.ghost_client.specs.State.{copy_in}
use Rattle.relay_board.specs.Changes.{killed_at}
use Rattle.relay_board.proofs.board.find_killed.Given as goal

abbrev pub invariant-loop-slot : goal.invariant-loop-slot
invariant-loop-slot l = l.killed.items ≡ filter_map (killed_at (copy_in l.old) (copy_in l.copies.slots)) (upto l.slot)
