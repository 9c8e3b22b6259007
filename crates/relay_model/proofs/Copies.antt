-- The packets that a client of a connection takes: each was read, and no ghost of it has a fault by the copies before it.
use Rattle.std.proofs.Common.{◌≡◌, ◌∙◌, ℕ, ◌≤◌, Bool, true, false, List, [], ◌∷◌, ◌++◌, length, Option, Some, None, Result, Ok, Err, if◌then◌else◌, refl, sym, ap, subst, arith}
use Rattle.std.specs.Prelude.{IfSome, slice_get, reverse}
use Rattle.std.specs.Result.{is_ok}
use Rattle.std.specs.List.{AllByRecursion}
use Rattle.std.proofs.lemmas.Bool.Decides.{nat_tests}
use Rattle.tn_types.specs.Checks.{Checked, then_check, first_fault}
use Rattle.tn_types.specs.declared.choices.Class.{Class}
use Rattle.tn_types.specs.declared.choices.Class.TheVariants.{Guaranteed, Loose}
use Rattle.tn_types.specs.declared.limits.TheConstants.{MAX_SLOTS}
use Rattle.tn_types.specs.declared.moves.MoveBits.{MoveBits}
use Rattle.notify_window.specs.declared.SendState.{SendState}
use Rattle.notify_window.specs.declared.SendState.TheVariants.{Held, Worn, Room}
use Rattle.bit_stream.specs.Bits.{bits_of}
use Rattle.bit_stream.specs.Reading.{end_at}
use Rattle.bit_stream.specs.declared.reader.PaddingFault.{PaddingFault}
use Rattle.quantised_fields.specs.declared.kind.Kind.{Kind}
use Rattle.quantised_fields.specs.Kinds.{table_fault}
use Rattle.wire_format.specs.declared.fault.BitsFault.{BitsFault}
use Rattle.wire_format.specs.declared.ghosts.GhostItem.{GhostItem}
use Rattle.wire_format.specs.declared.server.ServerPacket.{ServerPacket}
use Rattle.wire_format.specs.declared.server.ServerPacket.TheVariants.{Ping, Body}
use Rattle.wire_format.specs.Ghosts.{IsKind, IsGhost}
use Rattle.wire_format.specs.Reading.{padding_as_fault}
use Rattle.wire_format.specs.Server.{server_at, read_server, IsServer}
use Rattle.wire_format.proofs.Formats.{bind_ok}
use Rattle.wire_format.proofs.ServerFormat.{a_server}
use Rattle.ghost_client.specs.declared.copy.GhostCopy.{GhostCopy}
use Rattle.ghost_client.specs.declared.fault.GhostFault.{GhostFault}
use Rattle.ghost_client.specs.Copies.{copy_of}
use Rattle.ghost_client.specs.State.{kind_held as kind_in_slot}
use Rattle.ghost_client.specs.Faults.{item_fault}
use Rattle.stream_manager.specs.declared.config.Config.{Config}
use Rattle.stream_manager.specs.declared.fault.ClientFault.{ClientFault}
use Rattle.event_manager.specs.Receiving.{run_of}
use Rattle.stream_manager.specs.End.{with_event, events_answer, came_of}
use Rattle.stream_manager.specs.Faults.{checked_packet, checked_then, events_at_client}
use Rattle.stream_manager.specs.Limits.{Terms}
use Rattle.stream_manager.specs.Wire.{map_ok, whole_down}
use Rattle.stream_manager.specs.Server.{server_datagrams, seen_body}
use Rattle.stream_manager.specs.Client as client
use Rattle.stream_manager.specs.Client.{ClientEvent, client_end, ghosts_came, ghosts_in, kind_at, held_word, blocks_came, control_fault, ghosts_refused, ghosts_check, body_check, packet_check, packet_answer, whole_answer, client_answer, took_at_client, posted_at_client, sampled_answer, client_state}
use Rattle.stream_manager.specs.Packets.{packets_at}
use Rattle.stream_manager.proofs.Packets.{shows-alike}
use Rattle.pair_core.specs.History.{PairStep, Show, Hide, Near, Post, ClientPost, Sample, Pack, ClientPack, Down, Up, Raw, history, client_posts, client_samples, client_gets}
use Rattle.relay_model.specs.Laws.{IsCopy, IsChange, AreChanges, TakenAreChanges}
use Rattle.relay_model.proofs.Taken.{first_of, taken_all}

-- ---- what was read

few_kinds : (kinds : List Kind) → table_fault kinds ≡ None → length kinds ≤ 16
few_kinds kinds none = grind (arith, nat_tests)

abbrev Fit : List Kind → (ℕ → Option GhostCopy) → Type 0
Fit kinds copies = (slot : ℕ) (copy : GhostCopy) → copies slot ≡ Some copy → IsCopy kinds copy

padded : (x y : ServerPacket) (r : Result (Unit {0}) PaddingFault) → padding_as_fault x r ≡ Ok y → x ≡ y
padded x y (Ok u) e = cc (e)
padded x y (Err d) e = absurd (cc)

module _ (kinds : List Kind) (table : table_fault kinds ≡ None) (log : List ClientEvent) (fit : Fit kinds (copy_of (ghosts_came log))) where
  kind_held : (slot : ℕ) → IfSome (kind_at log slot) (IsKind kinds)
  kind_held slot = by (copy_of (ghosts_came log) slot) refl
    where
      by : (o : Option GhostCopy) → copy_of (ghosts_came log) slot ≡ o → IfSome (kind_in_slot o) (IsKind kinds)
      by None e = tt
      by (Some copy) e =
          let lt = (fit slot copy e).range.kind in
          let few = few_kinds kinds table in
          (omega (arith, lt, few), lt)

  read_fits : (version : ℕ) (bytes : List ℕ) (p : ServerPacket) → read_server version kinds (kind_at log) bytes ≡ Ok p → IsServer version kinds p
  read_fits version bytes p e =
      let a = bind_ok (server_at version kinds (kind_at log) (record { place = 0; rest = bits_of bytes })) (λ y. padding_as_fault y.0 (end_at y.1)) p e in
      let f = (a_server version kinds (kind_at log) kind_held).takes (record { place = 0; rest = bits_of bytes }) a.0 a.1 in
      subst (IsServer version kinds) (padded a.0.0 p (end_at a.0.1) a.2) f.1.spelled

  ghosts_fit : (version : ℕ) (p : ServerPacket) → IsServer version kinds p → AllByRecursion (IsGhost kinds) (ghosts_in p)
  ghosts_fit version (Ping head) is = tt
  ghosts_fit version (Body p) is = is.ghosts.each

-- ---- what was not refused

same_ghosts : (c : Config) (delivered : ℕ) (p : ServerPacket) → ghosts_in (whole_down c delivered p) ≡ ghosts_in p
same_ghosts c delivered (Ping head) = refl
same_ghosts c delivered (Body p) = refl

then_last : {E : Type 0} (a b : Checked E) → then_check a b ≡ Ok tt → b ≡ Ok tt
then_last (Ok u) b e = e
then_last (Err d) b e = absurd (cc)

not_refused : (f : Option GhostFault) → ghosts_refused f ≡ Ok tt → f ≡ None
not_refused None e = refl
not_refused (Some f) e = absurd (cc)

unfaulty : (c : Config) (log : List ClientEvent) (p : ServerPacket) → packet_check c log p ≡ Ok tt
    → (held : ℕ) × (first_fault (item_fault (copy_of (ghosts_came log)) held) [] (ghosts_in p) ≡ None)
unfaulty c log (Ping head) e = (0, refl)
unfaulty c log (Body p) e =
    let ghosts =
    then_last (events_at_client (events_answer (client_end log) p.events)) (ghosts_check log p)
    (then_last (client.blocks_check (blocks_came log) p.blocks) (then_check (events_at_client (events_answer (client_end log) p.events)) (ghosts_check log p))
    (then_last (client.moves_check log p.accepted) _ (then_last (client.head_check c (seen_body p) log) (body_check log p) e))) in
    (held_word (reverse p.blocks ++ blocks_came log), first_of _ (control_fault (copy_of (ghosts_came log)) p.control) (not_refused _ ghosts))

checked : (p q : ServerPacket) (r : Checked ClientFault) → checked_packet p r ≡ Ok q → (p ≡ q) × (r ≡ Ok tt)
checked p q (Ok u) e = (cc (e), refl)
checked p q (Err d) e = absurd (cc)

second : (r : Checked ClientFault) (next : Result ServerPacket ClientFault) (p : ServerPacket) → checked_then r next ≡ Ok p → next ≡ Ok p
second (Ok u) next p e = e
second (Err d) next p e = absurd (cc)

-- a packet that bytes spell and that nothing refuses
record WasRead (c : Config) (log : List ClientEvent) (read : Result ServerPacket BitsFault) (delivered : ℕ) (p : ServerPacket) : Type 0 where
  pub found : ServerPacket
  pub here : read ≡ Ok found
  pub is : whole_down c delivered found ≡ p
  pub passes : packet_check c log p ≡ Ok tt

was_read : (c : Config) (log : List ClientEvent) (read : Result ServerPacket BitsFault) (delivered : ℕ) (p : ServerPacket)
    → packet_answer c log (map_ok (whole_down c delivered) read) ≡ Ok p → WasRead c log read delivered p
was_read c log (Ok q) delivered p e =
    let both = checked (whole_down c delivered q) p (packet_check c log (whole_down c delivered q)) e in
    record { found = q; here = refl; is = both.0; passes = subst (λ (x : ServerPacket). packet_check c log x ≡ Ok tt) both.0 both.1 }
was_read c log (Err d) delivered p e = absurd (cc)

-- ---- a packet that is taken

module _ (c : Config) (kinds : List Kind) (table : table_fault kinds ≡ None) (log : List ClientEvent) where
  abbrev came : ℕ → Option GhostCopy
  came = copy_of (ghosts_came log)

  taken_is : (bytes : List ℕ) (p : ServerPacket) → client_answer c kinds log bytes ≡ Ok p → Fit kinds came → ((slot : ℕ) → MAX_SLOTS ≤ slot → came slot ≡ None)
      → IsChange kinds came (copy_of (ghosts_came (client.Took p ∷ log)))
  taken_is bytes p e fit within =
      let answer = second (client.head_first c log bytes) (whole_answer c kinds log bytes) p e in
      let r = was_read c log (read_server c.version kinds (kind_at log) bytes) (run_of (came_of (client_end log))) p answer in
      let fits = ghosts_fit kinds table log fit c.version r.found (read_fits kinds table log fit c.version bytes r.found r.here) in
      let same : ghosts_in r.found ≡ ghosts_in p = sym (same_ghosts c (run_of (came_of (client_end log))) r.found) ∙ ap ghosts_in r.is in
      let none = unfaulty c log p r.passes in
      taken_all kinds none.0 (ghosts_came log) (ghosts_in p) fit within none.1 (subst (AllByRecursion (IsGhost kinds)) same fits)

-- ---- over all steps

module _ (t : Terms) (table : table_fault t.kinds ≡ None) where
  pub record Kept (log : List ClientEvent) : Type 0 where
    pub changes : AreChanges t.kinds (packets_at log)
    pub fit : Fit t.kinds (copy_of (ghosts_came log))
    pub within : (slot : ℕ) → MAX_SLOTS ≤ slot → copy_of (ghosts_came log) slot ≡ None

  takes : (log : List ClientEvent) (bytes : List ℕ) (a : Result ServerPacket ClientFault) → client_answer t.config t.kinds log bytes ≡ a → Kept log → Kept (took_at_client log a)
  takes log bytes (Err e) is h = h
  takes log bytes (Ok p) is h =
      let change = taken_is t.config t.kinds table log bytes p is h.fit h.within in
      let old = (shows-alike log).ghosts in
      let new = (shows-alike (client.Took p ∷ log)).ghosts in
      record {
        changes = (
          subst (λ (z : List GhostItem × List GhostItem). IsChange t.kinds (copy_of z.0) (copy_of z.1)) (sym (λ j. (old j, new j))) change,
          h.changes,
        );
        fit = change.fits;
        within = change.within;
      }

  gets : (log : List ClientEvent) (o : Option (List ℕ)) → Kept log → Kept (client_gets t o log)
  gets log None h = h
  gets log (Some bytes) h = takes log bytes (client_answer t.config t.kinds log bytes) refl h

  -- what takes no packet
  more : (log new : List ClientEvent) → packets_at new ≡ packets_at log → ghosts_came new ≡ ghosts_came log → Kept log → Kept new
  more log new packets ghosts h = record {
    changes = subst (AreChanges t.kinds) (sym packets) h.changes;
    fit = subst (λ (l : List GhostItem). Fit t.kinds (copy_of l)) (sym ghosts) h.fit;
    within = subst (λ (l : List GhostItem). (slot : ℕ) → MAX_SLOTS ≤ slot → copy_of l slot ≡ None) (sym ghosts) h.within;
  }

  posts : (class : Class) (v : List ℕ) (log : List ClientEvent) → Kept log → Kept (client_posts t.config class v log)
  posts Loose v log h = more log (client.Posted Loose v ∷ log) refl refl h
  posts Guaranteed v log h = by (is_ok (posted_at_client t.config log))
    where
      by : (b : Bool) → Kept (if b then client.Posted Guaranteed v ∷ log else log)
      by true = more log (client.Posted Guaranteed v ∷ log) refl refl h
      by false = h

  samples : (m : MoveBits) (log : List ClientEvent) → Kept log → Kept (client_samples t.config m log)
  samples m log h = by (is_ok (sampled_answer t.config m log))
    where
      by : (b : Bool) → Kept (if b then client.Sampled m ∷ log else log)
      by true = more log (client.Sampled m ∷ log) refl refl h
      by false = h

  packs : (log : List ClientEvent) → Kept log → Kept (with_event (client.packing t.config log) log)
  packs log h = by (client_state t.config log)
    where
      by : (s : SendState) → Kept (with_event (client.pack_event t.config log s) log)
      by Held = more log (client.Pinged (client.client_ping t.config log) ∷ log) refl refl h
      by Worn = h
      by Room = more log (client.Packed (client.client_body t.config log) ∷ log) refl refl h

  pub all_kept : (steps : List PairStep) → Kept (history t steps).client
  all_kept [] = record { changes = tt; fit = λ slot copy e. absurd (cc); within = λ slot le. refl }
  all_kept (Show kind block level control ∷ steps) = all_kept steps
  all_kept (Hide n ∷ steps) = all_kept steps
  all_kept (Near n level ∷ steps) = all_kept steps
  all_kept (Post class v ∷ steps) = all_kept steps
  all_kept (ClientPost class v ∷ steps) = posts class v (history t steps).client (all_kept steps)
  all_kept (Sample m ∷ steps) = samples m (history t steps).client (all_kept steps)
  all_kept (Pack drains reads ∷ steps) = all_kept steps
  all_kept (ClientPack ∷ steps) = packs (history t steps).client (all_kept steps)
  all_kept (Down k ∷ steps) =
      gets (history t steps).client (slice_get (server_datagrams t (history t steps).server) k) (all_kept steps)
  all_kept (Up k room ∷ steps) = all_kept steps
  all_kept (Raw bytes room ∷ steps) = all_kept steps

pub taken_are_changes : TakenAreChanges
taken_are_changes t steps table = (all_kept t table steps).changes
