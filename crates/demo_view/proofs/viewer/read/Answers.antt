use Rattle.std.proofs.Common.{◌≡◌, ◌∙◌, ℕ, ◌<◌, ◌^◌, List, Option, Result, ap, subst, arith}
use Rattle.quantised_fields.specs.declared.kind.Kind.{Kind}
use Rattle.wire_format.specs.declared.fault.BitsFault.{BitsFault}
use Rattle.wire_format.specs.declared.server.ServerPacket.{ServerPacket}
use Rattle.wire_format.specs.Ghosts.{held_in}
use Rattle.wire_format.specs.Reading.{IsWhole}
use Rattle.wire_format.specs.Server.{read_server, server_meant}
use Rattle.ghost_client.specs.State.{kind_held}
use Rattle.stream_manager.specs.Client.{kind_at}
use Rattle.stream_manager.specs.Packets.{took}
use Rattle.stream_manager.proofs.HeldKinds.{same-read, kind-of-copy}
use Rattle.demo_view.proofs.viewer.read.Goals as goal

pub returns-clause-exact : goal.returns-clause-exact
returns-clause-exact c packets s =
    let held : (slot : ℕ) → slot < 2 ^ 8 → held_in c.kinds.result.now slot ≡ kind_at (took packets) slot =
    λ slot small. ap (λ (kinds : List (Option ℕ)). held_in kinds slot) c.kinds.ensures.value ∙ kind-of-copy c.args.copies.now.slots slot ∙ ap kind_held (s.copies slot (omega (arith, small))) in
    subst (λ (r : Result ServerPacket BitsFault). IsWhole server_meant c.decode_server_into.result c.decode_server_into.new.body r)
    (same-read c.args.version c.table.result.now (held_in c.kinds.result.now) (kind_at (took packets)) held c.args.bytes.now ∙ ap (λ (kinds : List Kind). read_server c.args.version kinds (kind_at (took packets)) c.args.bytes.now) c.table.ensures)
    c.decode_server_into.ensures.exact
