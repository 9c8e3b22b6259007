use Rattle.std.proofs.Common.{ℕ, List, ◌++◌, take}
use Rattle.std.specs.List.{flat_map}
use Rattle.sha2.specs.Hashers.{Holds256}
use Rattle.protocol_number.specs.Protocol.{kind_bytes}
use Rattle.protocol_number.proofs.protocol.put_kinds.Given as goal

abbrev pub invariant-kinds : goal.invariant-kinds
invariant-kinds l =
    (m : List ℕ) → Holds256 l.initial.hasher m → Holds256 l.hasher (m ++ flat_map kind_bytes (take l.k l.kinds))
