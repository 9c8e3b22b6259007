-- What whole datagrams of the server are: read as they are spelled, where each held kind is one of the table.
use Rattle.std.proofs.Common.{◌≡◌, ◌<◌, ◌≤◌, sym, ap, ◌∙◌, Result, Ok, Err, Option, Some, None, List, [], ◌∷◌, length, ℕ, zero, suc, refl, arith}
use Rattle.std.specs.List.{AllByRecursion}
use Rattle.wire_format.specs.declared.ghosts.GhostItem.{GhostItem}
use Rattle.wire_format.specs.declared.ghosts.GhostItem.TheVariants.{Kill, Create, Update}
use Rattle.wire_format.specs.declared.server.ServerPacket.TheVariants.{Ping, Body}
use Rattle.std.specs.Prelude.{IfOk, IfSome, replicate}
use mathlib.Core.Path.{fun_ext}
use Rattle.tn_types.specs.Bytes.{AreBytes}
use Rattle.bit_stream.specs.Bits.{datagram}
use Rattle.quantised_fields.specs.declared.kind.Kind.{Kind}
use Rattle.tn_types.specs.declared.choices.PacketKind.{PacketKind}
use Rattle.wire_format.specs.declared.server.ServerBody.{ServerBody}
use Rattle.wire_format.specs.declared.server.ServerPacket.{ServerPacket}
use Rattle.wire_format.specs.declared.fault.BitsFault.{BitsFault}
use Rattle.wire_format.specs.Reading.{IsWhole}
use Rattle.wire_format.specs.Ghosts.{IsKind, IsOfHeld, AreOfTable, held_in, none_held}
use Rattle.wire_format.specs.Server.{spell_server, server_at, server_meant, read_server, IsServer, AreOfHeld}
use Rattle.wire_format.proofs.ServerFormat.{IsReadServer, a_server}
use Rattle.wire_format.proofs.Formats.{IsFormat}
use Rattle.wire_format.proofs.Whole.{whole_takes, whole_again}

pub kind_of_table : (kinds : List Kind) (held : Option ℕ) → length kinds ≤ 16 → IfSome held (λ kind. kind < length kinds) → IfSome held (IsKind kinds)
kind_of_table kinds None few h = tt
kind_of_table kinds (Some kind) few h = (omega (arith, few, h), h)

module _ (version : ℕ) (kinds : List Kind) (held : ℕ → Option ℕ) (few : length kinds ≤ 16) (of_table : AreOfTable kinds held) where
  format : IsFormat (server_at version kinds held) (spell_server version kinds) (IsReadServer version kinds held)
  format = a_server version kinds held (λ slot. kind_of_table kinds (held slot) few (of_table slot))

  pub server_found : (bytes : List ℕ) (r : Result ServerPacket BitsFault) → AreBytes bytes → r ≡ read_server version kinds held bytes
      → IfOk r (λ p. IsServer version kinds p × AreOfHeld version held p × (bytes ≡ datagram (spell_server version kinds p)))
  server_found bytes (Ok p) fits e =
      let f = whole_takes (server_at version kinds held) (spell_server version kinds) (IsReadServer version kinds held) format bytes p fits (sym e) in
      (f.0.spelled, f.0.known, f.1)
  server_found bytes (Err f) fits e = tt

  pub server_only : (bytes : List ℕ) (r : Result ServerPacket BitsFault) → r ≡ read_server version kinds held bytes
      → (p : ServerPacket) → IsServer version kinds p → AreOfHeld version held p → bytes ≡ datagram (spell_server version kinds p) → r ≡ Ok p
  server_only bytes r read p fits known e =
      read ∙ ap (read_server version kinds held) e
      ∙ whole_again (server_at version kinds held) (spell_server version kinds) (IsReadServer version kinds held) format p (record { spelled = fits; known = known })

  pub server_filled : (bytes : List ℕ) (r : Result PacketKind BitsFault) (body : ServerBody) → AreBytes bytes → IsWhole server_meant r body (read_server version kinds held bytes)
      → IfOk r (λ kind. IsServer version kinds (server_meant kind body) × AreOfHeld version held (server_meant kind body))
  server_filled bytes (Ok kind) body fits e =
      let f = whole_takes (server_at version kinds held) (spell_server version kinds) (IsReadServer version kinds held) format bytes (server_meant kind body) fits e in
      (f.0.spelled, f.0.known)
  server_filled bytes (Err f) body fits e = tt

-- a list of no kinds
none_at : (many slot : ℕ) → held_in (replicate many None) slot ≡ none_held slot
none_at zero slot = refl
none_at (suc many) zero = refl
none_at (suc many) (suc slot) = none_at many slot

pub none-held : (many : ℕ) → held_in (replicate many None) ≡ none_held
none-held many = fun_ext (none_at many)

-- in version 1 no slot is asked for its kind
of_one : (held : ℕ → Option ℕ) (gs : List GhostItem) → AllByRecursion (IsOfHeld 1 held) gs
of_one held [] = tt
of_one held (Kill slot ∷ gs) = (tt, of_one held gs)
of_one held (Create slot kind block ls ∷ gs) = (tt, of_one held gs)
of_one held (Update slot kind mask ls ∷ gs) = ((λ v. absurd (cc v)), of_one held gs)

pub of_version_one : (held : ℕ → Option ℕ) (p : ServerPacket) → AreOfHeld 1 held p
of_version_one held (Ping head) = tt
of_version_one held (Body p) = of_one held p.ghosts

pub without_known : (A B C : ServerPacket → Type 0) (r : Result ServerPacket BitsFault) → IfOk r (λ p. A p × B p × C p) → IfOk r (λ p. A p × C p)
without_known A B C (Ok p) h = (h.0, h.2)
without_known A B C (Err e) h = tt
