use Rattle.std.proofs.Common.{◌≡◌, Ok, None, take, drop}
use Rattle.ghost_client.specs.State.{value_of}
use Rattle.timeline.specs.Standing.{Hears, KeepsShape, packet_check}
use Rattle.tribes_ends.specs.Drawing.{told_items, items_fault}
use Rattle.tribes_ends.proofs.drawing.tell_items.Given as goal

abbrev pub invariant-items : goal.invariant-items
invariant-items l = record {
  told : Hears l.fn.timeline (told_items l.packet (value_of l.copies) l.fn.timeline.fields (take l.item-index l.items)) l.timeline;
  shape : KeepsShape l.fn.timeline l.timeline;
  packet : packet_check l.timeline l.packet ≡ Ok tt;
  none : items_fault l.timeline (drop l.item-index l.items) ≡ None;
}
