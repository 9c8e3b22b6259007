use Rattle.std.proofs.Common.{◌≡◌, drop}
use Rattle.std.specs.Prelude.{map}
use Rattle.packet_parts.specs.Telling.{levels_told}
use Rattle.packet_parts.proofs.reader.PartReader.levels.Given as goal

abbrev pub invariant-loop-field : goal.invariant-loop-field
invariant-loop-field l = record {
  read : levels_told l.kind l.mask l.field (drop l.field (map (λ f. f.bits) l.fields)) l.self ≡ levels_told l.kind l.mask 0 (map (λ f. f.bits) l.fields) l.fn.self;
  whole : l.self.whole ≡ l.fn.self.whole;
}
