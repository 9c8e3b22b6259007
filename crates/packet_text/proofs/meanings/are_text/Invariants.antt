use Rattle.std.proofs.Common.{◌≡◌, drop}
use Rattle.std.specs.List.{list_all}
use Rattle.packet_text.specs.Table.{is_text}
use Rattle.packet_text.proofs.meanings.are_text.Given as goal

abbrev pub invariant-loop-part : goal.invariant-loop-part
invariant-loop-part l = list_all is_text l.parts ≡ list_all is_text (drop l.part-index l.parts)
