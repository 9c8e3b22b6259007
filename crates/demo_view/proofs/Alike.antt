-- A viewer of what a client took takes what the client takes.
use Rattle.std.proofs.Common.{◌≡◌, ℕ, not, ◌&&◌, ◌==◌, nat_le, List, [], ◌++◌, Ok, Err, Result, refl, sym, ◌∙◌, ap, if◌then◌else◌}
use Rattle.std.specs.Prelude.{reverse}
use Rattle.quantised_fields.specs.declared.kind.Kind.{Kind}
use Rattle.tn_types.specs.declared.choices.PacketKind.{PacketKind}
use Rattle.tn_types.specs.PacketKinds.{is_ping}
use Rattle.wire_format.specs.declared.fault.BitsFault.{BitsFault}
use Rattle.wire_format.specs.declared.header.Header.{Header}
use Rattle.wire_format.specs.declared.blocks.BlockItem.{BlockItem}
use Rattle.wire_format.specs.declared.events.EventItem.{EventItem}
use Rattle.wire_format.specs.declared.ghosts.GhostItem.{GhostItem}
use Rattle.wire_format.specs.declared.server.ServerBody.{ServerBody}
use Rattle.wire_format.specs.declared.server.ServerPacket.{ServerPacket}
use Rattle.wire_format.specs.declared.server.ServerPacket.TheVariants.{Ping, Body}
use Rattle.wire_format.specs.Header.{read_head}
use Rattle.wire_format.specs.Events.{is_low}
use Rattle.wire_format.specs.Server.{read_server}
use Rattle.tn_types.specs.Checks.{Checked, then_check}
use Rattle.event_manager.specs.Receiving.{run_of, take_answer}
use Rattle.ghost_client.specs.Copies.{copy_of}
use Rattle.ghost_client.specs.State.{kind_held}
use Rattle.stream_manager.specs.declared.config.Config.{Config}
use Rattle.stream_manager.specs.declared.fault.HeadFault.{HeadFault}
use Rattle.stream_manager.specs.declared.fault.HeadFault.TheVariants.{WrongClient, Old}
use Rattle.stream_manager.specs.declared.fault.ClientFault.{ClientFault}
use Rattle.stream_manager.specs.Faults.{head_at_client, events_at_client, checked_packet, checked_then}
use Rattle.stream_manager.specs.Wire.{map_ok, whole_down, read_down}
use Rattle.stream_manager.specs.End.{Seen, seen, came_of, client_or_old, ack_answer}
use Rattle.stream_manager.specs.Server.{seen_ping, seen_body}
use Rattle.stream_manager.specs.Client.{ClientEvent, client_end, blocks_came, ghosts_came, blocks_check, moves_check, ghosts_fault, ghosts_refused, held_word, head_check, head_first, first_look, body_check, packet_check, packet_answer, read_at, whole_answer, client_answer, took_at_client, arriving}
use Rattle.stream_manager.specs.Packets.{packets_at, took, events_seen, ghosts_seen}
use Rattle.stream_manager.proofs.Packets.{shows-alike}
use Rattle.demo_view.specs.Viewing.{ViewTerms, config_of, head_view, body_view, packet_view, viewed_packet, reading, whole_view, view_of, taken_by, taking}
use Rattle.demo_view.specs.Laws.{TakesWithClient, view_terms}

-- of two checks of which none refuses, the first doesn't
first-passes : (first later : Checked HeadFault) → head_at_client (then_check first later) ≡ Ok tt → head_at_client first ≡ Ok tt
first-passes (Ok u) later e = refl
first-passes (Err d) later e = cc

both-pass : {E : Type 0} (first later : Checked E) → then_check first later ≡ Ok tt → (first ≡ Ok tt) × (later ≡ Ok tt)
both-pass (Ok u) later e = (refl, e)
both-pass (Err d) later e = cc

both-then : {P E : Type 0} (first : Checked E) (next : Result P E) (p : P) → checked_then first next ≡ Ok p → (first ≡ Ok tt) × (next ≡ Ok p)
both-then (Ok u) next p e = (refl, e)
both-then (Err d) next p e = cc

module _ (c : Config) (kinds : List Kind) (log : List ClientEvent) where
  abbrev t : ViewTerms
  t = view_terms c kinds

  -- ---- the header

  abbrev by-horizon : Seen → ℕ → Checked HeadFault
  by-horizon p h =
      if not (p.head.client == c.client) then Err (WrongClient p.head.client) else if not p.ping && nat_le p.head.seq h then Err (Old p.head.seq h) else Ok tt

  same-head : (p : Seen) → client_or_old c.client (client_end (took (packets_at log))) p ≡ client_or_old c.client (client_end log) p
  same-head p = ap (by-horizon p) (shows-alike log).horizon

  head-passes : (p : Seen) → head_check c p log ≡ Ok tt → head_view t (packets_at log) p ≡ Ok tt
  head-passes p e = ap head_at_client (same-head p) ∙ first-passes (client_or_old c.client (client_end log) p) (ack_answer (client_end log) p) e

  same-look : (r : Result (PacketKind × Header) BitsFault) → first_look (config_of t) (took (packets_at log)) r ≡ first_look c log r
  same-look (Ok found) = ap head_at_client (same-head (seen (is_ping found.0) found.1 []))
  same-look (Err e) = refl

  same-first : (bytes : List ℕ) → head_first (config_of t) (took (packets_at log)) bytes ≡ head_first c log bytes
  same-first bytes = ap (λ (r : Checked ClientFault). if is_low c.version then r else Ok tt) (same-look (read_head bytes))

  -- ---- what is read

  -- by what came
  abbrev read_by : List GhostItem → List EventItem → List ℕ → Result ServerPacket BitsFault
  read_by ghosts events bytes = read_down (config_of t) kinds (λ (slot : ℕ). kind_held (copy_of ghosts slot)) (run_of events) bytes

  same-terms : (delivered : ℕ) (r : Result ServerPacket BitsFault) → map_ok (whole_down (config_of t) delivered) r ≡ map_ok (whole_down c delivered) r
  same-terms delivered (Ok (Ping head)) = refl
  same-terms delivered (Ok (Body p)) = refl
  same-terms delivered (Err e) = refl

  same-reading : (bytes : List ℕ) → reading t (packets_at log) bytes ≡ read_at c kinds log bytes
  same-reading bytes =
      ap (λ (l : List GhostItem). read_by l (events_seen (packets_at log)) bytes) (shows-alike log).ghosts
      ∙ ap (λ (l : List EventItem). read_by (ghosts_came log) l bytes) (shows-alike log).events
      ∙ same-terms (run_of (came_of (client_end log))) (read_server c.version kinds (λ (slot : ℕ). kind_held (copy_of (ghosts_came log) slot)) bytes)

  -- ---- what stands behind the header

  -- by what came
  abbrev behind : List BlockItem → List EventItem → List GhostItem → ServerBody → Checked ClientFault
  behind blocks events ghosts p =
      then_check (blocks_check blocks p.blocks)
      (then_check (events_at_client (take_answer (run_of events) p.events)) (ghosts_refused (ghosts_fault (copy_of ghosts) (held_word (reverse p.blocks ++ blocks)) p.ghosts p.control)))

  body-same : (p : ServerBody) → body_view (packets_at log) p ≡ behind (blocks_came log) (came_of (client_end log)) (ghosts_came log) p
  body-same p =
      ap (λ (l : List BlockItem). behind l (events_seen (packets_at log)) (ghosts_seen (packets_at log)) p) (shows-alike log).blocks
      ∙ ap (λ (l : List EventItem). behind (blocks_came log) l (ghosts_seen (packets_at log)) p) (shows-alike log).events
      ∙ ap (λ (l : List GhostItem). behind (blocks_came log) (came_of (client_end log)) l p) (shows-alike log).ghosts

  packet-passes : (p : ServerPacket) → packet_check c log p ≡ Ok tt → packet_view t (packets_at log) p ≡ Ok tt
  packet-passes (Ping head) e = head-passes (seen_ping head) e
  packet-passes (Body p) e =
      let parts = both-pass (head_check c (seen_body p) log) (body_check log p) e in
      let rest = both-pass (moves_check log p.accepted) (behind (blocks_came log) (came_of (client_end log)) (ghosts_came log) p) parts.1 in
      ap (λ (r : Checked ClientFault). then_check r (body_view (packets_at log) p)) (head-passes (seen_body p) parts.0) ∙ body-same p ∙ rest.1

  -- ---- taking

  checked : (p q : ServerPacket) (check : Checked ClientFault) → packet_check c log q ≡ check → checked_packet q check ≡ Ok p → (packet_check c log q ≡ Ok tt) × (q ≡ p)
  checked p q (Ok u) is e = (is, cc)
  checked p q (Err f) is e = cc

  pub views-with-client : (bytes : List ℕ) → TakesWithClient c kinds log bytes
  views-with-client bytes p e =
      let both = both-then (head_first c log bytes) (whole_answer c kinds log bytes) p e in
      go both.0 (read_at c kinds log bytes) refl both.1
    where
      go : head_first c log bytes ≡ Ok tt → (r : Result ServerPacket BitsFault) → read_at c kinds log bytes ≡ r → packet_answer c log r ≡ Ok p → view_of t bytes (packets_at log) ≡ Ok p
      go first (Err f) is e = cc
      go first (Ok q) is e =
          let k = checked p q (packet_check c log q) refl e in
          ap (λ (r : Checked ClientFault). checked_then r (whole_view t bytes (packets_at log))) (same-first bytes ∙ first)
          ∙ ap (viewed_packet t (packets_at log)) (same-reading bytes ∙ is)
          ∙ ap (checked_packet q) (packet-passes q k.0)
          ∙ ap (λ (x : ServerPacket). let r : Result ServerPacket ClientFault = Ok x in r) k.1

  -- so both have taken the same packets then
  pub takes-with-client : (bytes : List ℕ) (p : ServerPacket) → client_answer c kinds log bytes ≡ Ok p → taking t bytes (packets_at log) ≡ packets_at (arriving c kinds bytes log)
  takes-with-client bytes p e =
      ap (taken_by (packets_at log)) (views-with-client bytes p e) ∙ ap (λ (r : Result ServerPacket ClientFault). packets_at (took_at_client log r)) (sym e)
