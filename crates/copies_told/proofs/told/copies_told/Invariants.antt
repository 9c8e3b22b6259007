use Rattle.std.proofs.Common.{◌≡◌, List}
use Rattle.std.specs.Prelude.{filter_map}
use Rattle.ghost_model.specs.Words.{upto}
use Rattle.wire_format.specs.declared.ghosts.GhostItem.{GhostItem}
use Rattle.ghost_client.specs.StandsFor.{StandsFor}
use Rattle.copies_told.specs.Told.{slot_told}
use Rattle.copies_told.proofs.told.copies_told.Given as goal

abbrev pub invariant-loop-slot : goal.invariant-loop-slot
invariant-loop-slot l = (items : List GhostItem) → StandsFor l.copies items → l.list ≡ filter_map (slot_told l.copies.kinds items) (upto l.slot)
