use Rattle.std.proofs.Common.{Result, Ok, Err, List, ℕ, arith}
use Rattle.std.specs.Prelude.{IfOk}
use Rattle.tn_types.specs.Bytes.{AreBytes}
use Rattle.tn_types.proofs.ByteLists.{are_bytes}
use Rattle.tn_types.specs.declared.choices.PacketKind.{PacketKind}
use Rattle.wire_format.specs.declared.wire.Wire.{Wire}
use Rattle.wire_format.specs.declared.client.ClientBody.{ClientBody}
use Rattle.wire_format.specs.declared.fault.BitsFault.{BitsFault}
use Rattle.wire_format.specs.Reading.{IsWhole}
use Rattle.wire_format.specs.Client.{spell_client, client_at, client_meant, read_client, IsClient}
use Rattle.wire_format.proofs.ClientFormat.{a_client}
use Rattle.wire_format.proofs.Whole.{whole_takes}
use Rattle.wire_format.proofs.client.decode_client_into.Goals as goal

found : (wire : Wire) (bytes : List ℕ) (r : Result PacketKind BitsFault) (body : ClientBody) → AreBytes bytes → IsWhole client_meant r body (read_client wire bytes) → IfOk r (λ kind. IsClient wire (client_meant kind body))
found wire bytes (Ok kind) body fits e = (whole_takes (client_at wire) (spell_client wire) (IsClient wire) (a_client wire) bytes (client_meant kind body) fits e).0
found wire bytes (Err f) body fits e = tt

pub returns-clause-found : goal.returns-clause-found
returns-clause-found c = found c.args.wire c.args.bytes.now c.read_into.result c.read_into.new.body (are_bytes c.args.bytes.now (λ i. omega (arith, c.type_inv.bytes i))) c.read_into.ensures
