use Rattle.std.proofs.Common.{◌≡◌, ◌++◌, drop}
use Rattle.packet_text.specs.Table.{parts_text}
use Rattle.packet_text.proofs.table.push_parts.Given as goal

abbrev pub invariant-loop-place : goal.invariant-loop-place
invariant-loop-place l = l.out ++ parts_text l.kinds (drop l.place l.parts) ≡ l.fn.out ++ parts_text l.kinds l.parts
