use Rattle.std.proofs.Common.{◌≡◌}
use Rattle.std.specs.List.{flat_map}
use Rattle.ghost_model.specs.Words.{upto}
use Rattle.ghost_client.specs.State.{copy_in}
use Rattle.relay_board.specs.Changes.{changes_in}
use Rattle.relay_board.proofs.board.find_changed.Given as goal

abbrev pub invariant-loop-slot : goal.invariant-loop-slot
invariant-loop-slot l =
    l.changed.items ≡ flat_map (λ slot. changes_in l.copies.kinds slot (copy_in l.old slot) (copy_in l.copies.slots slot)) (upto l.slot)
