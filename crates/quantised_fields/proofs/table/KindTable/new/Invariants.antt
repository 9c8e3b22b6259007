use Rattle.std.proofs.Common.{◌≡◌, take, drop}
use Rattle.quantised_fields.specs.Kinds.{fault_from}
use Rattle.quantised_fields.proofs.table.KindTable.new.Given as goal

abbrev pub invariant-loop-number : goal.invariant-loop-number
invariant-loop-number l = record { copied : l.all.items ≡ take l.number l.kinds; none : fault_from 0 l.kinds ≡ fault_from l.number (drop l.number l.kinds) }
