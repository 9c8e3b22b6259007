-- A datagram that spells a packet meets what the packet meets. Where the packet is newer than all that came, the datagram reads as the
-- packet; where it is old, that alone decides.
use Rattle.std.proofs.Common.{◌≡◌, ◌∙◌, ℕ, ◌<◌, Bool, true, false, List, if◌then◌else◌, Result, Ok, Err, refl, sym, ap}
use Rattle.std.specs.Prelude.{IfSome}
use Rattle.std.specs.List.{AllByRecursion}
use Rattle.tn_types.specs.Checks.{Checked, then_check}
use Rattle.tn_types.specs.declared.choices.PacketKind.{PacketKind}
use Rattle.wire_format.specs.declared.fault.BitsFault.{BitsFault}
use Rattle.wire_format.specs.declared.header.Header.{Header}
use Rattle.wire_format.specs.declared.events.EventItem.{EventItem}
use Rattle.wire_format.specs.declared.server.ServerBody.{ServerBody}
use Rattle.wire_format.specs.declared.server.ServerPacket.{ServerPacket}
use Rattle.wire_format.specs.declared.server.ServerPacket.TheVariants as down
use Rattle.wire_format.specs.declared.client.ClientBody.{ClientBody}
use Rattle.wire_format.specs.declared.client.ClientPacket.{ClientPacket}
use Rattle.wire_format.specs.declared.client.ClientPacket.TheVariants as up
use Rattle.wire_format.specs.Header.{read_head}
use Rattle.wire_format.specs.Ghosts.{IsKind}
use Rattle.wire_format.specs.Server.{IsServer}
use Rattle.wire_format.specs.Events.{is_low}
use Rattle.event_manager.specs.Receiving.{run_of}
use Rattle.event_manager.specs.Low.{IsFound}
use Rattle.conn_packing.specs.stream_manager.declared.config.Config.{Config}
use Rattle.conn_packing.specs.stream_manager.declared.fault.HeadFault.{HeadFault}
use Rattle.conn_packing.specs.stream_manager.declared.fault.ClientFault.{ClientFault}
use Rattle.conn_packing.specs.stream_manager.Limits.{Terms, wire_of}
use Rattle.conn_packing.specs.stream_manager.Wire.{bytes_down, whole_client_body}
use Rattle.conn_packing.specs.stream_manager.Faults.{client_fault, head_at_client, head_at_server, checked_packet, checked_then}
use Rattle.conn_packing.specs.stream_manager.End.{came_of, client_or_old, ack_answer, head_answer}
use Rattle.conn_packing.specs.stream_manager.Server as server_log
use Rattle.conn_packing.specs.stream_manager.Server.{ServerEvent, server_end, seen_ping, seen_body, seen_client_body}
use Rattle.conn_packing.specs.stream_manager.Client as client_log
use Rattle.conn_packing.specs.stream_manager.Client.{ClientEvent, client_end, seen_down, kind_at, read_at, first_look}
use Rattle.wire_logs.specs.ghost_logs.Sent.{horizon_at}
use Rattle.wire_logs.specs.event_logs.Joined as events
use Rattle.wire_logs.specs.Again.{IsReadable, IsWholeClient}
use Rattle.wire_logs.proofs.Readable.{read-body, read-ping, read-client, whole-client}
use Rattle.wire_logs.proofs.Numbers.{low_events}
use Rattle.wire_logs.proofs.Datagrams.{read-head}
use Rattle.pair_laws.proofs.Packets.{IsReadDown, IsReadUp}
use Rattle.pair_laws.proofs.LooseItems.{not-passed, not-old}

-- ---- the way down

module _ (t : Terms) (log : List ClientEvent) (held : (slot : ℕ) → IfSome (kind_at log slot) (IsKind t.kinds)) where
  abbrev Read : ServerPacket → Type 0
  Read p = read_at t.config t.kinds log (bytes_down t p) ≡ Ok p

  -- what the client says of the datagram once its header has passed, and what it says of the packet
  abbrev Behind : ServerPacket → Result ServerPacket ClientFault
  Behind p = client_log.packet_answer t.config log (read_at t.config t.kinds log (bytes_down t p))

  abbrev Whole : ServerPacket → Result ServerPacket ClientFault
  Whole p = checked_packet p (client_log.packet_check t.config log p)

  passed : (p : ServerPacket) → Read p → Behind p ≡ Whole p
  passed p read = ap (client_log.packet_answer t.config log) read

  refused : (p : ServerPacket) (fault : HeadFault) → client_or_old t.config.client (client_end log) (seen_down p) ≡ Err fault → Whole p ≡ Err (client_fault fault)
  refused (down.Ping head) fault e = ap (λ (a : Checked HeadFault). checked_packet (down.Ping head) (head_at_client (then_check a (ack_answer (client_end log) (seen_ping head))))) e
  refused (down.Body q) fault e = ap (λ (a : Checked HeadFault). checked_packet (down.Body q) (then_check (head_at_client (then_check a (ack_answer (client_end log) (seen_body q)))) (client_log.body_check log q))) e

  looked : (p : ServerPacket) (a : Checked HeadFault) → client_or_old t.config.client (client_end log) (seen_down p) ≡ a → (a ≡ Ok tt → Read p) → checked_then (head_at_client a) (Behind p) ≡ Whole p
  looked p (Ok u) e read = passed p (read refl)
  looked p (Err fault) e read = sym (refused p fault e)

  -- from version 2 on the header is looked at first
  by-head : (p : ServerPacket) → IsServer 1 t.kinds p → ((q : ServerBody) → p ≡ down.Body q → horizon_at log < q.head.seq → IsReadable log q)
      → checked_then (first_look t.config log (read_head (bytes_down t p))) (Behind p) ≡ Whole p
  by-head (down.Ping head) fits can =
      ap (λ (r : Result (PacketKind × Header) BitsFault). checked_then (first_look t.config log r) (Behind (down.Ping head))) (read-head t.config.version t.kinds (down.Ping head) fits)
      ∙ looked (down.Ping head) (client_or_old t.config.client (client_end log) (seen_ping head)) refl (λ ok. read-ping t log head held fits)
  by-head (down.Body q) fits can =
      ap (λ (r : Result (PacketKind × Header) BitsFault). checked_then (first_look t.config log r) (Behind (down.Body q))) (read-head t.config.version t.kinds (down.Body q) fits)
      ∙ looked (down.Body q) (client_or_old t.config.client (client_end log) (seen_body q)) refl
      (λ ok. read-body t log q held fits (λ low. can q refl (not-passed t.config.client (client_end log) (seen_body q) ok)))

  -- in version 1 all is read
  by-version : (p : ServerPacket) → is_low t.config.version ≡ false → IsServer 1 t.kinds p → Read p
  by-version (down.Ping head) e fits = read-ping t log head held fits
  by-version (down.Body q) e fits = read-body t log q held fits (λ low. absurd (cc))

  pub reads-down : (p : ServerPacket) → IsServer 1 t.kinds p → ((q : ServerBody) → p ≡ down.Body q → horizon_at log < q.head.seq → IsReadable log q) → IsReadDown t log p
  reads-down p fits can = go (is_low t.config.version) refl
    where
      go : (b : Bool) → is_low t.config.version ≡ b → checked_then (if b then first_look t.config log (read_head (bytes_down t p)) else Ok tt) (Behind p) ≡ Whole p
      go true e = by-head p fits can
      go false e = passed p (by-version p e fits)

-- ---- the way up

module _ (c : Config) (log : List ServerEvent) where
  -- the packet that is read of a data packet's datagram
  abbrev Found : ClientBody → ClientBody
  Found q = whole_client_body c (run_of (came_of (server_end log))) (record q { events = low_events c.version q.events })

  -- it has the same header, so it is refused with the packet, or is the packet
  alike : (q : ClientBody) (a : Checked HeadFault) → (a ≡ Ok tt → Found q ≡ q)
      → checked_packet (up.Body (Found q)) (then_check (head_at_server a) (server_log.body_check c log (Found q))) ≡ checked_packet (up.Body q) (then_check (head_at_server a) (server_log.body_check c log q))
  alike q (Ok u) same = ap (λ (b : ClientBody). checked_packet (up.Body b) (server_log.body_check c log b)) (same refl)
  alike q (Err fault) same = refl

  pub reads-up : (p : ClientPacket) → IsWholeClient (wire_of c) p
      → ((q : ClientBody) → p ≡ up.Body q → events.horizon_at (server_end log) < q.head.seq → AllByRecursion (λ (e : EventItem). IfSome e.number (IsFound (run_of (came_of (server_end log))))) q.events)
      → IsReadUp c log p
  reads-up (up.Ping head) fits near = ap (server_log.packet_answer c log) (read-client c (run_of (came_of (server_end log))) (up.Ping head) fits)
  reads-up (up.Body q) fits near =
      ap (server_log.packet_answer c log) (read-client c (run_of (came_of (server_end log))) (up.Body q) fits)
      ∙ alike q (head_answer c.client (server_end log) (seen_client_body q))
      (λ ok. whole-client c (run_of (came_of (server_end log))) q fits (λ low. near q refl (not-old c.client (server_end log) (seen_client_body q) ok)))
