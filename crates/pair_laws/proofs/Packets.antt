-- The datagrams of packets: a datagram that comes is refused or taken as its packet would be, where the end that gets it reads it as
-- that packet.
use Rattle.std.proofs.Common.{◌≡◌, ℕ, zero, suc, List, [], ◌∷◌, ◌++◌, map, Some, None, refl, sym, ◌∙◌, ap}
use Rattle.std.specs.Prelude.{slice_get}
use Rattle.std.specs.List.{AllByRecursion}
use Rattle.wire_format.specs.declared.server.ServerPacket.{ServerPacket}
use Rattle.wire_format.specs.declared.server.ServerPacket.TheVariants as down
use Rattle.wire_format.specs.declared.client.ClientPacket.{ClientPacket}
use Rattle.wire_format.specs.declared.client.ClientPacket.TheVariants as up
use Rattle.conn_packing.specs.stream_manager.declared.config.Config.{Config}
use Rattle.conn_packing.specs.stream_manager.Limits.{Terms}
use Rattle.conn_packing.specs.stream_manager.Wire.{bytes_down, bytes_up}
use Rattle.conn_packing.specs.stream_manager.Faults.{checked_packet}
use Rattle.conn_packing.specs.stream_manager.Server as server_log
use Rattle.conn_packing.specs.stream_manager.Server.{ServerEvent, server_datagrams, server_answer, took_at_server}
use Rattle.conn_packing.specs.stream_manager.Client as client_log
use Rattle.conn_packing.specs.stream_manager.Client.{ClientEvent, client_datagrams, client_answer, took_at_client}
use Rattle.pair_core.specs.History.{client_gets, server_gets}
use Rattle.pair_laws.specs.Exchange.{server_packets, client_packets, given_down, given_up}

-- ---- each datagram spells the packet at its place

map-push : {A B : Type 0} (f : A → B) (xs : List A) (x : A) → map f (xs ++ x ∷ []) ≡ map f xs ++ f x ∷ []
map-push f [] x = refl
map-push {B = B} f (y ∷ xs) x = ap (λ (l : List B). f y ∷ l) (map-push f xs x)

pub spelled-down : (t : Terms) (log : List ServerEvent) → server_datagrams t log ≡ map (bytes_down t) (server_packets log)
spelled-down t [] = refl
spelled-down t (server_log.Posted class payload ∷ log) = spelled-down t log
spelled-down t (server_log.Scoped change ∷ log) = spelled-down t log
spelled-down t (server_log.Planned choices ∷ log) = spelled-down t log
spelled-down t (server_log.Packed p ∷ log) =
    ap (λ (l : List (List ℕ)). l ++ bytes_down t (down.Body p) ∷ []) (spelled-down t log) ∙ sym (map-push (bytes_down t) (server_packets log) (down.Body p))
spelled-down t (server_log.Pinged head ∷ log) =
    ap (λ (l : List (List ℕ)). l ++ bytes_down t (down.Ping head) ∷ []) (spelled-down t log) ∙ sym (map-push (bytes_down t) (server_packets log) (down.Ping head))
spelled-down t (server_log.Took p room ∷ log) = spelled-down t log

pub spelled-up : (c : Config) (log : List ClientEvent) → client_datagrams c log ≡ map (bytes_up c) (client_packets log)
spelled-up c [] = refl
spelled-up c (client_log.Posted class payload ∷ log) = spelled-up c log
spelled-up c (client_log.Sampled m ∷ log) = spelled-up c log
spelled-up c (client_log.Packed p ∷ log) =
    ap (λ (l : List (List ℕ)). l ++ bytes_up c (up.Body p) ∷ []) (spelled-up c log) ∙ sym (map-push (bytes_up c) (client_packets log) (up.Body p))
spelled-up c (client_log.Pinged head ∷ log) =
    ap (λ (l : List (List ℕ)). l ++ bytes_up c (up.Ping head) ∷ []) (spelled-up c log) ∙ sym (map-push (bytes_up c) (client_packets log) (up.Ping head))
spelled-up c (client_log.Took p ∷ log) = spelled-up c log

-- ---- what is read

-- the client says of a packet's datagram what it says of the packet
abbrev pub IsReadDown : Terms → List ClientEvent → ServerPacket → Type 0
IsReadDown t log p = client_answer t.config t.kinds log (bytes_down t p) ≡ checked_packet p (client_log.packet_check t.config log p)

abbrev pub IsReadUp : Config → List ServerEvent → ClientPacket → Type 0
IsReadUp c log p = server_answer c log (bytes_up c p) ≡ checked_packet p (server_log.packet_check c log p)

-- ---- a delivery hands over the packet that was sent at its place

brings-down : (t : Terms) (u : List ClientEvent) (ps : List ServerPacket) (k : ℕ) → AllByRecursion (IsReadDown t u) ps
    → client_gets t (slice_get (map (bytes_down t) ps) k) u ≡ given_down t.config (slice_get ps k) u
brings-down t u [] k read = refl
brings-down t u (p ∷ ps) zero read = ap (took_at_client u) read.0
brings-down t u (p ∷ ps) (suc k) read = brings-down t u ps k read.1

brings-up : (c : Config) (s : List ServerEvent) (room : ℕ) (ps : List ClientPacket) (k : ℕ) → AllByRecursion (IsReadUp c s) ps
    → server_gets c room (slice_get (map (bytes_up c) ps) k) s ≡ given_up c room (slice_get ps k) s
brings-up c s room [] k read = refl
brings-up c s room (p ∷ ps) zero read = ap (took_at_server s room) read.0
brings-up c s room (p ∷ ps) (suc k) read = brings-up c s room ps k read.1

pub delivered-down : (t : Terms) (s : List ServerEvent) (u : List ClientEvent) (k : ℕ) → AllByRecursion (IsReadDown t u) (server_packets s)
    → client_gets t (slice_get (server_datagrams t s) k) u ≡ given_down t.config (slice_get (server_packets s) k) u
delivered-down t s u k read = ap (λ (l : List (List ℕ)). client_gets t (slice_get l k) u) (spelled-down t s) ∙ brings-down t u (server_packets s) k read

pub delivered-up : (c : Config) (s : List ServerEvent) (u : List ClientEvent) (k room : ℕ) → AllByRecursion (IsReadUp c s) (client_packets u)
    → server_gets c room (slice_get (client_datagrams c u) k) s ≡ given_up c room (slice_get (client_packets u) k) s
delivered-up c s u k room read = ap (λ (l : List (List ℕ)). server_gets c room (slice_get l k) s) (spelled-up c u) ∙ brings-up c s room (client_packets u) k read

-- ---- the packet of a datagram

pub record IsOfPacket {P : Type 0} (spell : P → List ℕ) (ps : List P) (k : ℕ) (bytes : List ℕ) : Type 0 where
  pub packet : P
  pub there : slice_get ps k ≡ Some packet
  pub spelled : spell packet ≡ bytes

packet-at : {P : Type 0} (spell : P → List ℕ) (ps : List P) (k : ℕ) (bytes : List ℕ) → slice_get (map spell ps) k ≡ Some bytes → IsOfPacket spell ps k bytes
packet-at spell [] k bytes e = absurd (none e)
  where
    none : None ≡ Some bytes → ⊥
    none e = cc
packet-at spell (p ∷ ps) zero bytes e = record { packet = p; there = refl; spelled = same e }
  where
    same : Some (spell p) ≡ Some bytes → spell p ≡ bytes
    same e = cc
packet-at spell (p ∷ ps) (suc k) bytes e = let it = packet-at spell ps k bytes e in record { packet = it.packet; there = it.there; spelled = it.spelled }

pub packet-down : (t : Terms) (s : List ServerEvent) (k : ℕ) (bytes : List ℕ) → slice_get (server_datagrams t s) k ≡ Some bytes → IsOfPacket (bytes_down t) (server_packets s) k bytes
packet-down t s k bytes e = packet-at (bytes_down t) (server_packets s) k bytes (sym (ap (λ (l : List (List ℕ)). slice_get l k) (spelled-down t s)) ∙ e)

pub packet-up : (c : Config) (u : List ClientEvent) (k : ℕ) (bytes : List ℕ) → slice_get (client_datagrams c u) k ≡ Some bytes → IsOfPacket (bytes_up c) (client_packets u) k bytes
packet-up c u k bytes e = packet-at (bytes_up c) (client_packets u) k bytes (sym (ap (λ (l : List (List ℕ)). slice_get l k) (spelled-up c u)) ∙ e)
