-- What each line of a match does at a client's end is what its telling says.
use Rattle.std.proofs.Common.{◌≡◌, ℕ, Bool, true, false, cond, List, ◌∷◌, map, Option, Some, None, refl, sym, ap, ◌∙◌, subst}
use Rattle.std.specs.Prelude.{Result, Ok, Err, is_ok, ◌&&◌, if◌then◌else◌, slice_get}
use Rattle.tn_types.specs.declared.choices.Class.{Class}
use Rattle.tn_types.specs.declared.choices.Class.TheVariants.{Guaranteed, Loose}
use Rattle.tn_types.specs.declared.moves.MoveBits.{MoveBits}
use Rattle.bit_stream.specs.WorldMoves.{bits_of}
use Rattle.notify_window.specs.declared.SendState.{SendState}
use Rattle.notify_window.specs.declared.SendState.TheVariants.{Held, Worn, Room}
use Rattle.move_manager.specs.declared.faults.MoveFault.{MoveFault}
use Rattle.client_scope.specs.world_scope.Scope.{visible_list}
use Rattle.client_scope.specs.declared.period.Near.{Near as NearPeriod}
use Rattle.client_scope.specs.Changes.{hides, nears, shows}
use Rattle.client_scope.specs.Scans.{shown}
use Rattle.world_sim.specs.Worlds.{next}
use Rattle.match_script.specs.declared.types.BodyLine.{BodyLine}
use Rattle.match_script.specs.declared.types.BodyLine.TheVariants as script
use Rattle.match_script.specs.declared.types.Head.{Head}
use Rattle.match_report.specs.declared.told.EventTold.{EventTold}
use Rattle.match_report.specs.declared.told.Way.TheVariants as way
use Rattle.match_report.specs.declared.told.Told.TheVariants as told_as
use Rattle.match_laws.specs.pair_core.stream_manager.End.{with_event}
use Rattle.match_laws.specs.pair_core.stream_manager.wire_format.declared.server.ServerPacket.{ServerPacket}
use Rattle.match_laws.specs.pair_core.stream_manager.declared.fault.ClientFault.{ClientFault}
use Rattle.match_laws.specs.pair_core.stream_manager.Faults.{without_packet}
use Rattle.match_laws.specs.pair_core.stream_manager.Limits.{Terms}
use Rattle.match_laws.specs.pair_core.stream_manager.Client as client
use Rattle.match_laws.specs.pair_core.stream_manager.Client.{ClientEvent, client_answer, took_at_client, client_state, pack_event, posted_at_client, sampled_answer}
use Rattle.match_laws.specs.pair_core.stream_manager.Server.{server_datagrams}
use Rattle.match_laws.specs.pair_core.History.{History, history, client_gets}
use Rattle.match_laws.specs.pair_core.Answers.{brought_down, came_down}
use Rattle.match_laws.specs.client_seat.Told.{brought_told, handed_down}
use Rattle.match_laws.specs.Report.{told_after}
use Rattle.own_lists.specs.Own.{OwnItem, Line, Scan, Tick, OwnShow, OwnWrite}
use Rattle.own_lists.specs.Course.{Course}
use Rattle.own_lists.specs.Kept.{kept, journal, put}
use Rattle.own_lists.specs.Past.{Past, client_terms, after, scan_item, own_show, own_writes, taken_from, moves_of}
use Rattle.own_lists.proofs.Meeting.{scan_journal}
use Rattle.own_lists.proofs.KeptValues.{wrote_course}
use Rattle.match_laws.proofs.Grown.{put_own}
use Rattle.match_laws.proofs.ClientEnd.{at_end, scan_quiet, named_case}
use Rattle.predict_lines.specs.declared.changes.EndChange.TheVariants.{Came, Sampled, Nothing}
use Rattle.predict_lines.specs.Lines.{end_of}
use Rattle.predict_lines.specs.Changes.{TellsNothing, IsChange, change_of, is_taken, is_sampled}

-- ---- what a prediction does not hear of

pub nothing : (old new : List ClientEvent) → new ≡ old → TellsNothing old new
nothing old new e = subst (λ (x : List ClientEvent). TellsNothing old x) (sym e) (record { told = refl; base = refl; pending = refl })

posts : (ok : Bool) (class_payload : ClientEvent) (log : List ClientEvent) → TellsNothing log (class_payload ∷ log) → TellsNothing log (if ok then class_payload ∷ log else log)
posts true e log h = h
posts false e log h = nothing log log refl

module _ (t : Terms) where
  -- ---- items of an own list

  abbrev Quiet : List OwnItem → List OwnItem → Type 0
  Quiet old new = TellsNothing (at_end t (journal t old)) (at_end t (journal t new))

  same_items : (items : List OwnItem) → Quiet items items
  same_items items = nothing (at_end t (journal t items)) (at_end t (journal t items)) refl

  tick_quiet : (writes : List OwnWrite) (taken : ℕ) (items : List OwnItem) → Quiet items (Tick writes taken ∷ items)
  tick_quiet writes taken items =
      nothing (at_end t (journal t items)) (at_end t (journal t (Tick writes taken ∷ items)))
      (ap (λ (k : Course). at_end t k.steps) (wrote_course t writes (kept t items)))

  scan_item_quiet : (hides : List ℕ) (nears : List NearPeriod) (shows : List OwnShow) (items : List OwnItem)
      → Quiet items (Scan hides nears shows ∷ items)
  scan_item_quiet hides nears shows items =
      nothing (at_end t (journal t items)) (at_end t (journal t (Scan hides nears shows ∷ items)))
      (ap (at_end t) (scan_journal hides nears shows (kept t items)) ∙ scan_quiet t hides nears (map (λ (s : OwnShow). s.how) shows) (journal t items))

  client_post_quiet : (c : ℕ) (class : Class) (payload : List ℕ) (items : List OwnItem)
      → Quiet items (Line (script.ClientPost c class payload) ∷ items)
  client_post_quiet c Guaranteed payload items =
      let log = at_end t (journal t items) in
      posts (is_ok (posted_at_client t.config log)) (client.Posted Guaranteed payload) log (record { told = refl; base = refl; pending = refl })
  client_post_quiet c Loose payload items = record { told = refl; base = refl; pending = refl }

  made_quiet : (log : List ClientEvent) (state : SendState) → TellsNothing log (with_event (pack_event t.config log state) log)
  made_quiet log Held = record { told = refl; base = refl; pending = refl }
  made_quiet log Worn = record { told = refl; base = refl; pending = refl }
  made_quiet log Room = record { told = refl; base = refl; pending = refl }

  client_pack_quiet : (c : ℕ) (items : List OwnItem) → Quiet items (Line (script.ClientPack c) ∷ items)
  client_pack_quiet c items = let log = at_end t (journal t items) in made_quiet log (client_state t.config log)

  -- ---- a datagram comes

  by_answer : (c k : ℕ) (events : List EventTold) (log : List ClientEvent) (r : Result ServerPacket ClientFault)
      → IsChange (if is_taken (brought_told way.Down c k events (came_down (without_packet r))) then Came else Nothing) log (took_at_client log r)
  by_answer c k events log (Ok p) = (p, refl)
  by_answer c k events log (Err fault) = nothing log log refl

  pub brought_is : (c k : ℕ) (events : List EventTold) (h : History) (o : Option (List ℕ))
      → IsChange (if is_taken (brought_told way.Down c k events (brought_down t h k o)) then Came else Nothing) h.client (client_gets t o h.client)
  brought_is c k events h None = nothing h.client h.client refl
  brought_is c k events h (Some bytes) = by_answer c k events h.client (client_answer t.config t.kinds h.client bytes)

  -- ---- a move is sampled

  pub sampled_is : (c : ℕ) (m : MoveBits) (log : List ClientEvent) (r : Result ℕ MoveFault)
      → IsChange (if is_sampled (told_as.Moved c r) then Sampled m else Nothing) log (if is_ok r then client.Sampled m ∷ log else log)
  sampled_is c m log (Ok n) = refl
  sampled_is c m log (Err fault) = nothing log log refl

-- ---- lines

pub line_changes : (head : Head) (past : List BodyLine) (c : ℕ) (line : BodyLine)
    → IsChange (change_of c line (told_after head past line)) (end_of head past c) (end_of head (line ∷ past) c)
line_changes head past c line = by_line line
  where
    p : Past
    p = after head past

    t : Terms
    t = client_terms head c

    own : List OwnItem
    own = p.own c

    quiet : (d : ℕ) (item : OwnItem) → Quiet t own (item ∷ own) → TellsNothing (at_end t (journal t own)) (at_end t (journal t (put p.own d (item ∷ p.own d) c)))
    quiet d item h = put_own (Quiet t) p.own item c d h (same_items t own)

    by_line : (line : BodyLine) → IsChange (change_of c line (told_after head past line)) (end_of head past c) (end_of head (line ∷ past) c)
    by_line script.Tick = tick_quiet t (own_writes (next p.world (moves_of head p)) (shown (p.scans c))) (taken_from head p c) own
    by_line (script.Scan d) =
        let scans = visible_list p.world d ∷ p.scans d in
        quiet d (scan_item p.world d scans) (scan_item_quiet t (hides scans) (nears scans) (map (own_show p.world d) (shows scans)) own)
    by_line (script.Post d class payload) = quiet d (Line (script.Post d class payload)) (same_items t own)
    by_line (script.ClientPost d class payload) = quiet d (Line (script.ClientPost d class payload)) (client_post_quiet t d class payload own)
    by_line (script.Pack d) = quiet d (Line (script.Pack d)) (same_items t own)
    by_line (script.ClientPack d) = quiet d (Line (script.ClientPack d)) (client_pack_quiet t d own)
    by_line (script.Down d k) =
        named_case (λ same put_here e.
        IsChange (if same && is_taken (told_after head past (script.Down e k)) then Came else Nothing) (at_end t (journal t own))
        (at_end t (journal t (cond put_here (Line (script.Down e k) ∷ p.own e) own)))) c d
        (let h = history t (journal t own) in brought_is t c k (handed_down t (journal t own) k) h (slice_get (server_datagrams t h.server) k))
        (λ e. same_items t own)
    by_line (script.Up d k) = quiet d (Line (script.Up d k)) (same_items t own)
    by_line (script.Raw d bytes) = quiet d (Line (script.Raw d bytes)) (same_items t own)
    by_line (script.Move d m) =
        named_case (λ same put_here e.
        IsChange (if same && is_sampled (told_after head past (script.Move e m)) then Sampled (bits_of m) else Nothing) (at_end t (journal t own))
        (at_end t (journal t (cond put_here (Line (script.Move e m) ∷ p.own e) own)))) c d
        (let log = at_end t (journal t own) in sampled_is t c (bits_of m) log (sampled_answer t.config (bits_of m) log))
        (λ e. same_items t own)
    by_line (script.Show d) = quiet d (Line (script.Show d)) (same_items t own)
    by_line script.World = same_items t own
