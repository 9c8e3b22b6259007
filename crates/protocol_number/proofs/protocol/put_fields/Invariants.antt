use Rattle.std.proofs.Common.{ℕ, List, ◌++◌, take}
use Rattle.std.specs.List.{flat_map}
use Rattle.sha2.specs.Hashers.{Holds256}
use Rattle.protocol_number.specs.Protocol.{field_bytes}
use Rattle.protocol_number.proofs.protocol.put_fields.Given as goal

abbrev pub invariant-fields : goal.invariant-fields
invariant-fields l =
    (m : List ℕ) → Holds256 l.initial.hasher m → Holds256 l.hasher (m ++ flat_map field_bytes (take l.i l.fields))
