use Rattle.std.proofs.Common.{◌≡◌, drop}
use Rattle.tribes_ends.specs.Drawing.{items_fault}
use Rattle.tribes_ends.proofs.drawing.check_items.Given as goal

abbrev pub invariant-items : goal.invariant-items
invariant-items l = items_fault l.timeline l.items ≡ items_fault l.timeline (drop l.item-index l.items)
