use Rattle.std.proofs.Common.{subst, sym, ◌∙◌, ap}
use Rattle.wire_format.specs.Client.{client_at, spell_client, IsClient}
use Rattle.wire_format.proofs.ClientFormat.{a_client}
use Rattle.packet_parts.specs.Parts.{Told, begun}
use Rattle.packet_parts.specs.Telling.{client_told}
use Rattle.packet_parts.proofs.Erasing.{Same}
use Rattle.packet_parts.proofs.Grammar.{client_same}
use Rattle.packet_parts.proofs.Whole.{fault_told, packet_told}
use Rattle.packet_parts.proofs.packets.client_parts.Goals as goal

pub returns-clause-packet : goal.returns-clause-packet
returns-clause-packet c =
    let v = c.args.wire in
    let same = subst (λ (t : Told). Same (client_at v (begun c.args.bytes.now).unread) (client_told v t)) (sym c.new-reader.ensures) (client_same v (begun c.args.bytes.now)) in
    packet_told (client_at v) (spell_client v) (IsClient v) (a_client v)
    c.args.bytes.now (client_told v c.new-reader.result) c.client-read.new.self c.client-read.result c.told.result same c.told.ensures.told
    (c.client-read.ensures.whole ∙ ap (λ (t : Told). t.whole) c.new-reader.ensures) c.client-read.ensures.read c.told.ensures.memory c.told.ensures.parts

pub returns-clause-fault : goal.returns-clause-fault
returns-clause-fault c =
    let v = c.args.wire in
    let same = subst (λ (t : Told). Same (client_at v (begun c.args.bytes.now).unread) (client_told v t)) (sym c.new-reader.ensures) (client_same v (begun c.args.bytes.now)) in
    fault_told c.told.result (client_at v (begun c.args.bytes.now).unread) (client_told v c.new-reader.result) same
    (c.told.ensures.telling (client_told v c.new-reader.result) c.client-read.ensures.read)
