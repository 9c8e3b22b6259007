-- The steps of a pair without bytes: a delivery hands over the packet that was sent at its place, and the end that gets it refuses or
-- takes it as an arrival does once it has read one. Between honest ends this is all that happens, whatever version their datagrams are
-- of.
use Rattle.std.specs.Prelude.{◌≡◌, refl, ℕ, List, [], ◌∷◌, ◌++◌, Option, Some, None, slice_get}
use Rattle.wire_format.specs.declared.server.ServerPacket.{ServerPacket}
use Rattle.wire_format.specs.declared.server.ServerPacket.TheVariants as down
use Rattle.wire_format.specs.declared.client.ClientBody.{ClientBody}
use Rattle.wire_format.specs.declared.client.ClientPacket.{ClientPacket}
use Rattle.wire_format.specs.declared.client.ClientPacket.TheVariants as up
use Rattle.tn_types.specs.BitWords.{from_bits}
use Rattle.event_manager.specs.Sending.{due_guaranteed}
use Rattle.conn_packing.specs.stream_manager.declared.config.Config.{Config}
use Rattle.conn_packing.specs.stream_manager.Limits.{Terms}
use Rattle.conn_packing.specs.stream_manager.Faults.{checked_packet}
use Rattle.conn_packing.specs.stream_manager.Server as server
use Rattle.conn_packing.specs.stream_manager.Server.{ServerEvent, took_at_server}
use Rattle.conn_packing.specs.stream_manager.Client as client
use Rattle.conn_packing.specs.stream_manager.Client.{ClientEvent, took_at_client}
use Rattle.pair_core.specs.History.{PairStep, ClientPack, Down, Up, History, at_server, at_client, happens, history}

-- ---- what was sent, the oldest first

abbrev pub server_packets : List ServerEvent → List ServerPacket
server_packets [] = []
server_packets (server.Posted class payload ∷ log) = server_packets log
server_packets (server.Scoped change ∷ log) = server_packets log
server_packets (server.Planned choices ∷ log) = server_packets log
server_packets (server.Packed p ∷ log) = server_packets log ++ down.Body p ∷ []
server_packets (server.Pinged head ∷ log) = server_packets log ++ down.Ping head ∷ []
server_packets (server.Took p room ∷ log) = server_packets log

abbrev pub client_packets : List ClientEvent → List ClientPacket
client_packets [] = []
client_packets (client.Posted class payload ∷ log) = client_packets log
client_packets (client.Sampled m ∷ log) = client_packets log
client_packets (client.Packed p ∷ log) = client_packets log ++ up.Body p ∷ []
client_packets (client.Pinged head ∷ log) = client_packets log ++ up.Ping head ∷ []
client_packets (client.Took p ∷ log) = client_packets log

-- ---- what comes of one

-- a packet is handed over, unless there is none at its place or it is refused
abbrev pub given_down : Config → Option ServerPacket → List ClientEvent → List ClientEvent
given_down c None log = log
given_down c (Some p) log = took_at_client log (checked_packet p (client.packet_check c log p))

abbrev pub given_up : Config → ℕ → Option ClientPacket → List ServerEvent → List ServerEvent
given_up c room None log = log
given_up c room (Some p) log = took_at_server log room (checked_packet p (server.packet_check c log p))

-- ---- steps

abbrev pub exchanges : Terms → PairStep → History → History
exchanges t (Down k) h = at_client h (given_down t.config (slice_get (server_packets h.server) k) h.client)
exchanges t (Up k room) h = at_server h (given_up t.config room (slice_get (client_packets h.client) k) h.server)
exchanges t other h = happens t other h

-- what has happened after the steps, where packets go over the network
abbrev pub exchange : Terms → List PairStep → History
exchange t [] = record { server = []; client = [] }
exchange t (step ∷ steps) = exchanges t step (exchange t steps)

-- nothing else has happened where their datagrams do
abbrev pub IsExchange : Terms → List PairStep → Type 0
IsExchange t steps = history t steps ≡ exchange t steps

-- ---- an example: a client's first packet comes, and once more, when it is old

abbrev no_kinds : Terms
no_kinds = record { config = record { client = 0; life = 100; size = 128; version = 2; move_bits = 10 }; kinds = []; blocks = [] }

abbrev first_packet : ClientBody
first_packet = record { head = record { client = 0; seq = 1; horizon = 0; mask = 0 }; first = 0; moves = []; events = [] }

taken_once : exchange no_kinds (Up 0 8 ∷ Up 0 8 ∷ ClientPack ∷ [])
    ≡ record { server = server.Took (up.Body first_packet) 8 ∷ []; client = client.Packed first_packet ∷ [] }
unfolding due_guaranteed from_bits
taken_once = refl
