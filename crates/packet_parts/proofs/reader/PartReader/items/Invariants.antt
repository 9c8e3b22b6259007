use Rattle.std.proofs.Common.{◌≡◌, ◌-◌}
use Rattle.packet_parts.specs.Parts.{counted_told}
use Rattle.packet_parts.specs.Telling.{item_told}
use Rattle.packet_parts.proofs.reader.PartReader.items.Given as goal

abbrev pub invariant-loop : goal.invariant-loop
invariant-loop l = record {
  read : counted_told (item_told l.item) (l.count - l.counter) l.self ≡ counted_told (item_told l.item) l.count l.fn.self;
  whole : l.self.whole ≡ l.fn.self.whole;
}
