use Rattle.std.proofs.Common.{List, ℕ, ◌++◌, take, subst}
use Rattle.std.specs.List.{flat_map}
use Rattle.sha2.specs.Hashers.{Holds256}
use Rattle.protocol_number.specs.Protocol.{kind_bytes}
use Rattle.protocol_number.proofs.Pieces.{next_kind}
use Rattle.protocol_number.proofs.protocol.put_kinds.Goals as goal

pub kinds-preserved : goal.kinds-preserved
kinds-preserved c m h =
    let kinds = c.args.kinds.now in
    subst (λ (l : List ℕ). Holds256 c.put_kind_of.new.hasher l) (next_kind m kinds c.kinds.k)
    (c.put_kind_of.ensures (m ++ flat_map kind_bytes (take c.kinds.k kinds)) (c.kinds.invariant m h))
