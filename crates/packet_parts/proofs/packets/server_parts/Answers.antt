use Rattle.std.proofs.Common.{subst, sym, ◌∙◌, ap}
use Rattle.wire_format.specs.Ghosts.{held_in}
use Rattle.wire_format.specs.Server.{server_at, spell_server}
use Rattle.wire_format.proofs.ServerFormat.{IsReadServer, a_server}
use Rattle.wire_format.proofs.WholeServer.{kind_of_table}
use Rattle.packet_parts.specs.Parts.{Told, begun}
use Rattle.packet_parts.specs.Telling.{server_told}
use Rattle.packet_parts.proofs.Erasing.{Same}
use Rattle.packet_parts.proofs.Grammar.{server_same}
use Rattle.packet_parts.proofs.Whole.{fault_told, packet_told}
use Rattle.packet_parts.proofs.packets.server_parts.Goals as goal

pub returns-clause-packet : goal.returns-clause-packet
returns-clause-packet c =
    let v = c.args.version in let ks = c.args.kinds.now in let held = held_in c.args.held.now in
    let same = subst (λ (t : Told). Same (server_at v ks held (begun c.args.bytes.now).unread) (server_told v ks held t)) (sym c.new-reader.ensures) (server_same v ks held (begun c.args.bytes.now)) in
    packet_told (server_at v ks held) (spell_server v ks) (IsReadServer v ks held) (a_server v ks held (λ slot. kind_of_table ks (held slot) c.few_kinds.ensures (c.requires.kinds slot)))
    c.args.bytes.now (server_told v ks held c.new-reader.result) c.server-read.new.self c.server-read.result c.told.result same c.told.ensures.told
    (c.server-read.ensures.whole ∙ ap (λ (t : Told). t.whole) c.new-reader.ensures) c.server-read.ensures.read c.told.ensures.memory c.told.ensures.parts

pub returns-clause-fault : goal.returns-clause-fault
returns-clause-fault c =
    let v = c.args.version in let ks = c.args.kinds.now in let held = held_in c.args.held.now in
    let same = subst (λ (t : Told). Same (server_at v ks held (begun c.args.bytes.now).unread) (server_told v ks held t)) (sym c.new-reader.ensures) (server_same v ks held (begun c.args.bytes.now)) in
    fault_told c.told.result (server_at v ks held (begun c.args.bytes.now).unread) (server_told v ks held c.new-reader.result) same
    (c.told.ensures.telling (server_told v ks held c.new-reader.result) c.server-read.ensures.read)
