-- What a datagram of each version reads as: its header, and the packet with the numbers of its events as they stand there.
use Rattle.std.proofs.Common.{◌≡◌, ◌∙◌, ℕ, ◌+◌, ◌++◌, ◌==◌, if◌then◌else◌, Bool, false, List, [], length, replicate, Option, Ok, refl, sym, ap, append_assoc, arith}
use Rattle.std.proofs.Common.{lit<}
use Rattle.std.specs.Prelude.{IfSome}
use Rattle.tn_types.specs.declared.choices.PacketKind.{PacketKind}
use Rattle.tn_types.specs.declared.choices.PacketKind.TheVariants as kinds_of
use Rattle.bit_stream.specs.Bits.{bits_of, number, datagram}
use Rattle.bit_stream.specs.Laws.{padding}
use Rattle.bit_stream.proofs.Datagrams.{bits_of-datagram}
use Rattle.quantised_fields.specs.declared.kind.Kind.{Kind}
use Rattle.wire_format.specs.declared.wire.Wire.{Wire}
use Rattle.wire_format.specs.declared.header.Header.{Header}
use Rattle.wire_format.specs.declared.fault.BitsCause.TheVariants.{KindBits}
use Rattle.wire_format.specs.declared.client.ClientPacket.{ClientPacket}
use Rattle.wire_format.specs.declared.client.ClientPacket.TheVariants as up
use Rattle.wire_format.specs.declared.server.ServerPacket.{ServerPacket}
use Rattle.wire_format.specs.declared.server.ServerPacket.TheVariants as down
use Rattle.wire_format.specs.Header.{spell_header, read_head, IsHeader}
use Rattle.wire_format.specs.Ghosts.{IsKind}
use Rattle.wire_format.specs.Server.{spell_server, server_at, server_kind, server_head, behind_server_header, read_server, IsServer, AreOfHeld}
use Rattle.wire_format.specs.Client.{spell_client, client_at, read_client, IsClient}
use Rattle.wire_format.proofs.Formats.{IsWithin, a_number_within}
use Rattle.wire_format.proofs.HeaderFormat.{a_header}
use Rattle.wire_format.proofs.ServerFormat.{IsReadServer, a_server}
use Rattle.wire_format.proofs.ClientFormat.{a_client}
use Rattle.wire_format.proofs.Whole.{whole_again}
use Rattle.wire_logs.specs.Again.{IsWholeClient}
use Rattle.wire_logs.proofs.Numbers.{low_events, low-spelled, low-fit}

abbrev pub low_down : ℕ → ServerPacket → ServerPacket
low_down version (down.Ping head) = down.Ping head
low_down version (down.Body p) = down.Body (record p { events = low_events version p.events })

abbrev pub low_up : ℕ → ClientPacket → ClientPacket
low_up version (up.Ping head) = up.Ping head
low_up version (up.Body p) = up.Body (record p { events = low_events version p.events })

-- ---- the server's packets

spelled-down : (version : ℕ) (kinds : List Kind) (p : ServerPacket) → spell_server version kinds (low_down version p) ≡ spell_server version kinds p
spelled-down version kinds (down.Ping head) = refl
spelled-down version kinds (down.Body p) = rw (low-spelled version p.events) refl

fits-down : (version : ℕ) (kinds : List Kind) (p : ServerPacket) → IsServer 1 kinds p → IsServer version kinds (low_down version p)
fits-down version kinds (down.Ping head) fits = fits
fits-down version kinds (down.Body p) fits =
    record { head = fits.head; accepted = fits.accepted; control = fits.control; blocks = fits.blocks; events = low-fit version p.events fits.events; ghosts = fits.ghosts }

known-down : (version : ℕ) (held : ℕ → Option ℕ) (p : ServerPacket) → AreOfHeld version held p → AreOfHeld version held (low_down version p)
known-down version held (down.Ping head) known = known
known-down version held (down.Body p) known = known

pub read-down : (version : ℕ) (kinds : List Kind) (held : ℕ → Option ℕ) (p : ServerPacket) → ((slot : ℕ) → IfSome (held slot) (IsKind kinds)) → IsServer 1 kinds p → AreOfHeld version held p
    → read_server version kinds held (datagram (spell_server version kinds p)) ≡ Ok (low_down version p)
read-down version kinds held p of_table fits known =
    ap (λ (bits : List Bool). read_server version kinds held (datagram bits)) (sym (spelled-down version kinds p))
    ∙ whole_again (server_at version kinds held) (spell_server version kinds) (IsReadServer version kinds held) (a_server version kinds held of_table) (low_down version p)
    (record { spelled = fits-down version kinds p fits; known = known-down version held p known })

-- ---- the client's packets

spelled-up : (w : Wire) (p : ClientPacket) → spell_client w (low_up w.version p) ≡ spell_client w p
spelled-up w (up.Ping head) = refl
spelled-up w (up.Body p) = rw (low-spelled w.version p.events) refl

fits-up : (w : Wire) (p : ClientPacket) → IsWholeClient w p → IsClient w (low_up w.version p)
fits-up w (up.Ping head) fits = fits
fits-up w (up.Body p) fits = record { head = fits.head; first = omega (arith, fits.first); moves = fits.moves; events = low-fit w.version p.events fits.events }

pub read-up : (w : Wire) (p : ClientPacket) → IsWholeClient w p → read_client w (datagram (spell_client w p)) ≡ Ok (low_up w.version p)
read-up w p fits =
    ap (λ (bits : List Bool). read_client w (datagram bits)) (sym (spelled-up w p))
    ∙ whole_again (client_at w) (spell_client w) (IsClient w) (a_client w) (low_up w.version p) (fits-up w p fits)

-- ---- the header of a server's packet

abbrev pub kind_of : ServerPacket → PacketKind
kind_of (down.Ping head) = kinds_of.Ping
kind_of (down.Body p) = kinds_of.Body

kind-fits : (p : ServerPacket) → IsWithin 0 1 2 (server_kind p)
kind-fits (down.Ping head) = record { fits = lit< tt; enough = omega arith; few = omega arith }
kind-fits (down.Body p) = record { fits = lit< tt; enough = omega arith; few = omega arith }

head-fits : (kinds : List Kind) (p : ServerPacket) → IsServer 1 kinds p → IsHeader (server_head p)
head-fits kinds (down.Ping head) fits = fits
head-fits kinds (down.Body p) fits = fits.head

abbrev kind_number : ℕ → PacketKind
kind_number kind = if kind == 1 then kinds_of.Ping else kinds_of.Body

head-again : (kind : ℕ) (head : Header) (rest : List Bool) → IsWithin 0 1 2 kind → IsHeader head
    → read_head (datagram (number 2 kind ++ (spell_header head ++ rest))) ≡ Ok (kind_number kind, head)
head-again kind head rest within fits =
    let pad = replicate (padding (number 2 kind ++ (spell_header head ++ rest))) false in
    let all : bits_of (datagram (number 2 kind ++ (spell_header head ++ rest))) ≡ number 2 kind ++ (spell_header head ++ (rest ++ pad)) =
    bits_of-datagram (number 2 kind ++ (spell_header head ++ rest)) ∙ append_assoc (number 2 kind) (spell_header head ++ rest) pad
    ∙ ap (λ (t : List Bool). number 2 kind ++ t) (append_assoc (spell_header head) rest pad) in
    let first = (a_number_within KindBits 0 1 2).again kind 0 (spell_header head ++ (rest ++ pad)) within in
    let second = a_header.again head (0 + length (number 2 kind)) (rest ++ pad) fits in
    rw (all, first, second) refl

pub read-head : (version : ℕ) (kinds : List Kind) (p : ServerPacket) → IsServer 1 kinds p → read_head (datagram (spell_server version kinds p)) ≡ Ok (kind_of p, server_head p)
read-head version kinds (down.Ping head) fits =
    head-again 1 head [] (kind-fits (down.Ping head)) (head-fits kinds (down.Ping head) fits)
read-head version kinds (down.Body p) fits =
    head-again 0 p.head (behind_server_header version kinds (down.Body p)) (kind-fits (down.Body p)) (head-fits kinds (down.Body p) fits)
