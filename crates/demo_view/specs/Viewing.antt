-- A viewer is a client that sends nothing: it is given the server's datagrams and shows what a client would show. Its log is the
-- list of the packets that it took, the newest first; what it shows are the client's own words over the events of taking these
-- packets. It refuses what a client refuses, but for the two refusals that speak of what a client sent.
use Rattle.std.specs.Prelude.{ℕ, List, [], ◌∷◌, length, drop, Result, Ok, Err}
use Rattle.tn_types.specs.declared.choices.Class.{Class}
use Rattle.tn_types.specs.Checks.{Checked, then_check}
use Rattle.quantised_fields.specs.declared.kind.Kind.{Kind}
use Rattle.wire_format.specs.declared.fault.BitsFault.{BitsFault}
use Rattle.wire_format.specs.declared.server.ServerBody.{ServerBody}
use Rattle.wire_format.specs.declared.server.ServerPacket.{ServerPacket}
use Rattle.wire_format.specs.declared.server.ServerPacket.TheVariants.{Ping, Body}
use Rattle.event_manager.specs.Receiving.{run_of}
use Rattle.stream_manager.specs.declared.config.Config.{Config}
use Rattle.stream_manager.specs.declared.fault.ClientFault.{ClientFault}
use Rattle.stream_manager.specs.declared.fault.ClientFault.TheVariants as refused
use Rattle.stream_manager.specs.Faults.{head_at_client, events_at_client, checked_packet, checked_then, without_packet}
use Rattle.stream_manager.specs.End.{Seen, client_or_old, events_answer}
use Rattle.stream_manager.specs.Server.{seen_ping, seen_body}
use Rattle.stream_manager.specs.Client.{client_end, blocks_check, ghosts_check, head_first, read_at}
use Rattle.stream_manager.specs.Packets.{took, blocks_seen, events_seen, delivered_to}
use Rattle.demo_view.specs.declared.fault.ViewFault.{ViewFault}
use Rattle.demo_view.specs.declared.fault.ViewFault.TheVariants as view

-- whose datagrams a viewer is given, of which version they are, and the kinds of their ghosts
pub record ViewTerms : Type 0 where
  pub client : ℕ
  pub version : ℕ
  pub kinds : List Kind

-- as a connection's: of its life and size nothing is asked where nothing is sent
abbrev pub config_of : ViewTerms → Config
config_of t = record { client = t.client; life = 0; size = 0; version = t.version; move_bits = 0 }

-- how many guaranteed events were delivered
abbrev pub count_delivered : List ServerPacket → ℕ
count_delivered packets = run_of (events_seen packets)

-- ---- refusals

-- a viewer's refusal as a client says it
abbrev pub at_client : ViewFault → ClientFault
at_client (view.Bits fault) = refused.Bits fault
at_client (view.WrongClient client) = refused.WrongClient client
at_client (view.Old seq horizon) = refused.Old seq horizon
at_client (view.BlockDiffers number) = refused.BlockDiffers number
at_client (view.EventAhead number delivered) = refused.EventAhead number delivered
at_client (view.Ghost fault) = refused.Ghost fault

abbrev pub as_client : Checked ViewFault → Checked ClientFault
as_client (Ok u) = Ok tt
as_client (Err fault) = Err (at_client fault)

-- what the header of a packet meets: another client, or a data packet whose number was passed
abbrev pub head_view : ViewTerms → List ServerPacket → Seen → Checked ClientFault
head_view t packets p = head_at_client (client_or_old t.client (client_end (took packets)) p)

-- what stands behind the header of a data packet meets, in this order: blocks, events, ghosts
abbrev pub body_view : List ServerPacket → ServerBody → Checked ClientFault
body_view packets p =
    then_check (blocks_check (blocks_seen packets) p.blocks)
    (then_check (events_at_client (events_answer (client_end (took packets)) p.events)) (ghosts_check (took packets) p))

abbrev pub packet_view : ViewTerms → List ServerPacket → ServerPacket → Checked ClientFault
packet_view t packets (Ping head) = head_view t packets (seen_ping head)
packet_view t packets (Body p) = then_check (head_view t packets (seen_body p)) (body_view packets p)

abbrev pub viewed_packet : ViewTerms → List ServerPacket → Result ServerPacket BitsFault → Result ServerPacket ClientFault
viewed_packet t packets (Ok p) = checked_packet p (packet_view t packets p)
viewed_packet t packets (Err e) = Err (refused.Bits e)

-- the packet that bytes spell, behind those that were taken
abbrev pub reading : ViewTerms → List ServerPacket → List ℕ → Result ServerPacket BitsFault
reading t packets bytes = read_at (config_of t) t.kinds (took packets) bytes

-- what the whole of them meets
abbrev pub whole_view : ViewTerms → List ℕ → List ServerPacket → Result ServerPacket ClientFault
whole_view t bytes packets = viewed_packet t packets (reading t packets bytes)

-- what bytes meet: the first refusal whose condition holds, as a client says it, else the packet that they spell. From
-- version 2 on the header decides first
abbrev pub view_of : ViewTerms → List ℕ → List ServerPacket → Result ServerPacket ClientFault
view_of t bytes packets = checked_then (head_first (config_of t) (took packets) bytes) (whole_view t bytes packets)

abbrev pub view_answer : ViewTerms → List ℕ → List ServerPacket → Checked ClientFault
view_answer t bytes packets = without_packet (view_of t bytes packets)

-- ---- taking

abbrev pub taken_by : List ServerPacket → Result ServerPacket ClientFault → List ServerPacket
taken_by packets (Ok p) = p ∷ packets
taken_by packets (Err e) = packets

-- the packets after bytes came
abbrev pub taking : ViewTerms → List ℕ → List ServerPacket → List ServerPacket
taking t bytes packets = taken_by packets (view_of t bytes packets)

-- and after these datagrams came, the first one first
abbrev pub viewing : ViewTerms → List (List ℕ) → List ServerPacket → List ServerPacket
viewing t [] packets = packets
viewing t (bytes ∷ datagrams) packets = viewing t datagrams (taking t bytes packets)

abbrev pub viewed : ViewTerms → List (List ℕ) → List ServerPacket
viewed t datagrams = viewing t datagrams []

-- what the bytes newly deliver
abbrev pub news_of : ViewTerms → List ℕ → List ServerPacket → List (Class × List ℕ)
news_of t bytes packets = drop (length (delivered_to packets)) (delivered_to (taking t bytes packets))
