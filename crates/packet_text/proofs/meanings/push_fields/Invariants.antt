use Rattle.std.proofs.Common.{◌≡◌, ◌-◌, ◌++◌}
use Rattle.packet_text.specs.Table.{fields_text}
use Rattle.packet_text.proofs.meanings.push_fields.Given as goal

abbrev pub invariant-loop-field : goal.invariant-loop-field
invariant-loop-field l = l.out ++ fields_text l.kind l.mask l.field (l.count - l.field) ≡ l.fn.out ++ fields_text l.kind l.mask 0 l.count
