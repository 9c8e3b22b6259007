use Rattle.std.proofs.Common.{◌≡◌, Ok}
use Rattle.ghost_client.specs.State.{value_of}
use Rattle.timeline.specs.Standing.{Hears, KeepsShape, packet_check}
use Rattle.tribes_ends.specs.Drawing.{told_fields}
use Rattle.tribes_ends.proofs.drawing.tell_fields.Given as goal

abbrev pub invariant-fields : goal.invariant-fields
invariant-fields l = record {
  told : Hears l.fn.timeline (told_fields l.packet (value_of l.copies) l.slot l.mask l.field) l.timeline;
  shape : KeepsShape l.fn.timeline l.timeline;
  packet : packet_check l.timeline l.packet ≡ Ok tt;
}
