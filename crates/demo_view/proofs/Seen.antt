-- What the ghosts of a packet meet at a viewer, by what came; what a packet leaves that was read; and how many events came.
use Rattle.std.proofs.Common.{◌≡◌, ℕ, ◌+◌, ◌*◌, ◌<◌, ◌≤◌, Bool, true, false, nat_le, if◌then◌else◌, List, [], ◌++◌, Option, Some, None, Ok, Err, Result, refl, sym, ◌∙◌, ap, subst, arith}
use Rattle.std.specs.Prelude.{reverse, max, OnOk, OnErr}
use Rattle.std.specs.List.{AllByRecursion}
use Rattle.std.specs.Option.{option_or}
use Rattle.std.proofs.lemmas.Bool.Decides.{nat_tests}
use Rattle.quantised_fields.specs.declared.kind.Kind.{Kind}
use Rattle.wire_format.specs.declared.ghosts.GhostItem.{GhostItem}
use Rattle.wire_format.specs.declared.ghosts.GhostItem.TheVariants.{Kill, Create, Update}
use Rattle.wire_format.specs.declared.server.ServerBody.{ServerBody}
use Rattle.wire_format.specs.declared.fault.BitsFault.{BitsFault}
use Rattle.wire_format.specs.declared.server.ServerPacket.{ServerPacket}
use Rattle.wire_format.specs.declared.server.ServerPacket.TheVariants.{Body}
use Rattle.wire_format.specs.Ghosts.{IsGhost, slot_named}
use Rattle.wire_format.specs.Server.{IsServerBody, read_server}
use Rattle.notify_window.specs.Log.{arrival_of}
use Rattle.notify_window.specs.declared.Arrival.TheVariants.{Fresh, Old}
use Rattle.datablocks.specs.Holding.{after_all}
use Rattle.ghost_client.specs.declared.copy.GhostCopy.{GhostCopy}
use Rattle.ghost_client.specs.declared.fault.GhostFault.{GhostFault}
use Rattle.ghost_client.specs.Copies.{copy_of}
use Rattle.ghost_client.specs.State.{copy_in}
use Rattle.ghost_client.specs.Faults.{item_fault}
use Rattle.tn_types.specs.Checks.{Checked, first_fault}
use Rattle.stream_manager.specs.declared.fault.ClientFault.{ClientFault}
use Rattle.stream_manager.specs.Faults.{checked_packet, without_packet}
use Rattle.stream_manager.specs.Wire.{map_ok, whole_down, whole_server_body}
use Rattle.stream_manager.specs.Client.{kind_at, held_word, control_fault, ghosts_refused, ghosts_check}
use Rattle.stream_manager.specs.ClientCalls.{held_bits}
use Rattle.stream_manager.specs.Packets.{took, blocks_seen, ghosts_seen, delivered_to}
use Rattle.stream_manager.proofs.Came.{weaker, takes-all, held-same, faults-same, control-same}
use Rattle.stream_manager.proofs.Clients.{numbered}
use Rattle.demo_view.specs.declared.fault.ViewFault.{ViewFault}
use Rattle.demo_view.specs.Viewing.{ViewTerms, as_client, config_of, count_delivered, packet_view, viewed_packet, reading, whole_view, taken_by}
use Rattle.demo_view.specs.Stands.{ViewerState, StandsFor, terms_of}
use Rattle.demo_view.specs.Calls.{Takes, made_whole}

module _ (version : ℕ) (kinds : List Kind) (p : ServerBody) (fits : IsServerBody version kinds p) where
  placed-one : (item : GhostItem) → IsGhost kinds item → slot_named item < 256
  placed-one (Kill slot) is = omega arith
  placed-one (Create slot kind block levels) is = omega (arith, is.0)
  placed-one (Update slot kind mask levels) is = omega (arith, is.0)

  placed : AllByRecursion (λ (x : GhostItem). slot_named x < 256) p.ghosts
  placed = weaker (IsGhost kinds) (λ (x : GhostItem). slot_named x < 256) placed-one p.ghosts fits.ghosts.each

  module _ (v : ViewerState) (packets : List ServerPacket) (s : StandsFor v packets) where
    abbrev came : ℕ → Option GhostCopy
    came = copy_of (ghosts_seen packets)

    abbrev word : ℕ
    word = held_bits (after_all v.blocks p.blocks)

    -- the ghosts' own faults by the copies are those by what came
    faults-told : first_fault (item_fault (copy_in v.copies.slots) word) [] p.ghosts ≡ first_fault (item_fault came (held_word (reverse p.blocks ++ blocks_seen packets))) [] p.ghosts
    faults-told =
        faults-same (copy_in v.copies.slots) came s.copies.copies p.ghosts [] word placed
        ∙ ap (λ (w : ℕ). first_fault (item_fault came w) [] p.ghosts) (held-same (after_all v.blocks p.blocks) (reverse p.blocks ++ blocks_seen packets) (takes-all p.blocks v.blocks (blocks_seen packets) (numbered version kinds p fits) s.blocks))

    -- a fault of the ghosts is refused
    pub ghosts-refused : (fault : GhostFault) → Some fault ≡ first_fault (item_fault (copy_in v.copies.slots) word) [] p.ghosts → ghosts_refused (Some fault) ≡ ghosts_check (took packets) p
    ghosts-refused fault is = ap (λ (f : Option GhostFault). ghosts_refused (option_or f (control_fault came p.control))) (is ∙ faults-told)

    -- without one, what the control slot meets
    pub ghosts-passed : None ≡ first_fault (item_fault (copy_in v.copies.slots) word) [] p.ghosts → ghosts_refused (control_fault (copy_in v.copies.slots) p.control) ≡ ghosts_check (took packets) p
    ghosts-passed is =
        ap ghosts_refused (control-same (copy_in v.copies.slots) came s.copies.copies p.control fits.control)
        ∙ ap (λ (f : Option GhostFault). ghosts_refused (option_or f (control_fault came p.control))) (is ∙ faults-told)

-- what a packet leaves that was read: taken, or refused
pub arrived : (p : ServerPacket) (check : Checked ClientFault) (result : Checked ViewFault) (G : Result ServerPacket ClientFault → Type 0)
    → as_client result ≡ without_packet (checked_packet p check) → OnOk result (G (Ok p)) → OnErr result ((e : ClientFault) → G (Err e)) → G (checked_packet p check)
arrived p (Ok u) (Ok w) G is ok err = ok
arrived p (Ok u) (Err f) G is ok err = cc
arrived p (Err e) (Ok w) G is ok err = cc
arrived p (Err e) (Err f) G is ok err = err e

-- a data packet that is fresh raises the horizon
pub horizon-grows : (seq horizon count : ℕ) → arrival_of false seq horizon ≡ Fresh → count ≤ 31 → 31 * horizon + count ≤ 31 * max horizon seq
horizon-grows seq horizon count fresh few = go (nat_le seq horizon) refl fresh
  where
    go : (b : Bool) → nat_le seq horizon ≡ b → (if b then Old seq horizon else Fresh) ≡ Fresh → 31 * horizon + count ≤ 31 * max horizon seq
    go true t is = cc
    go false t is = let l : horizon < seq = grind (arith, nat_tests) in omega (arith, few, l)

-- ---- a data packet that was read, and that nothing refuses

module _ (v : ViewerState) (bytes : List ℕ) (packets : List ServerPacket) (s : StandsFor v packets) (p : ServerBody)
    (read : read_server v.version v.copies.kinds (kind_at (took packets)) bytes ≡ Ok (Body p))
    (passes : Ok tt ≡ packet_view (terms_of v) packets (Body (made_whole v p))) where
  was-taken : whole_view (terms_of v) bytes packets ≡ Ok (Body (made_whole v p))
  was-taken =
      let t : ViewTerms = terms_of v in
      let is : reading t packets bytes ≡ Ok (Body (made_whole v p)) =
      ap (map_ok (whole_down (config_of t) (count_delivered packets))) read
      ∙ ap (λ (n : ℕ). let r : Result ServerPacket BitsFault = Ok (Body (whole_server_body (config_of t) n p)) in r) (sym s.events.delivered) in
      ap (viewed_packet t packets) is ∙ ap (checked_packet (Body (made_whole v p))) (sym passes)

  module _ (w : ViewerState) (takes : Takes v (made_whole v p) w) where
    pub taken-stands : StandsFor w (taken_by packets (whole_view (terms_of v) bytes packets))
    taken-stands = subst (λ (r : Result ServerPacket ClientFault). StandsFor w (taken_by packets r)) (sym was-taken) (takes.stands packets s)

    pub taken-handed : delivered_to (taken_by packets (whole_view (terms_of v) bytes packets)) ≡ delivered_to packets ++ w.events.ready
    taken-handed = ap (λ (r : Result ServerPacket ClientFault). delivered_to (taken_by packets r)) was-taken ∙ takes.handed packets s
