use Rattle.std.proofs.Common.{◌≡◌, ◌-◌}
use Rattle.packet_parts.specs.Parts.{counted_told}
use Rattle.packet_parts.specs.Telling.{byte_told}
use Rattle.packet_parts.proofs.reader.PartReader.bytes.Given as goal

abbrev pub invariant-loop : goal.invariant-loop
invariant-loop l = record {
  read : counted_told (byte_told l.name) (l.count - l.counter) l.self ≡ counted_told (byte_told l.name) l.count l.fn.self;
  whole : l.self.whole ≡ l.fn.self.whole;
}
