-- What a relay stands for when a line of its match is done.
use Rattle.std.proofs.Common.{◌≡◌, ◌∙◌, ℕ, ◌+◌, ◌<◌, ◌≤◌, List, ◌∷◌, ◌++◌, drop, length, get_or, Option, Some, None, sym, ap, subst, arith, inl, inr}
use Rattle.std.proofs.lemmas.Bool.{cases_lt}
use Rattle.wire_format.specs.declared.server.ServerPacket.{ServerPacket}
use Rattle.wire_format.specs.declared.ghosts.GhostItem.{GhostItem}
use Rattle.ghost_client.specs.declared.copy.GhostCopy.{GhostCopy}
use Rattle.ghost_client.specs.Copies.{copy_of}
use Rattle.ghost_client.specs.State.{State, copy_in}
use Rattle.ghost_client.specs.StandsFor.{StandsFor as CopiesStandFor}
use Rattle.match_script.specs.declared.types.BodyLine.{BodyLine}
use Rattle.match_script.specs.declared.types.Head.{Head}
use Rattle.match_script.specs.declared.types.Script.{Script}
use Rattle.match_report.specs.declared.told.EventTold.{EventTold}
use Rattle.relay_report.specs.match_engine.client_seat.Stands.{SeatState}
use Rattle.relay_report.specs.match_engine.match_laws.Report.{told_after}
use Rattle.relay_report.specs.match_engine.Match.{MatchState, StandsFor as MatchStandsFor}
use Rattle.relay_report.proofs.Below.match_engine.Lent.{kinds_are, pair_stands}
use Rattle.own_lists.specs.pair_core.Stands.{PairState}
use Rattle.own_lists.specs.pair_core.stream_manager.Client.{ghosts_came}
use Rattle.own_lists.specs.pair_core.stream_manager.Packets.{ghosts_seen, delivered_to}
use Rattle.own_lists.specs.pair_core.stream_manager.Limits.{Terms}
use Rattle.own_lists.specs.Past.{client_terms}
use Rattle.relay_report.specs.match_engine.match_laws.Values.{steps_of}
use Rattle.event_manager.specs.Posted.{guaranteed_of}
use Rattle.relay_model.proofs.Copies.{all_kept}
use Rattle.world_rules.specs.Kinds.{match_kinds}
use Rattle.stream_manager.proofs.Packets.{shows-alike}
use Rattle.relay_script.specs.declared.entries.Entry.{Entry}
use Rattle.relay_script.specs.declared.entries.Entry.TheVariants.{OfMatch}
use Rattle.relay_model.specs.Watching.{WatchEvent, Took, packets_in, copy_at}
use Rattle.relay_board.specs.Changes.{BoardState, killed_between, changed_between}
use Rattle.relay_spectator.specs.declared.spectator.Spectator.{Spectator}
use Rattle.relay_spectator.specs.Spectators.{Follows, IsToldOf, AreMet, payloads_of}
use Rattle.relay_spectator.proofs.Posting.{payloads_are}
use Rattle.relay_report.specs.Met.{match_past, end_of, taken_by, spectator_terms, met}
use Rattle.relay_report.proofs.Newly.{one_more}
use Rattle.relay_node.specs.Node.{NodeState, Stands, events_taken, MayTakeAll, TakeAll}
use Rattle.relay_node.proofs.Lines.{TakesPacket, LineTakes, line_takes}
use Rattle.relay_node.proofs.Meeting.{table_none, IsMet, line_met, met_packets, are_met}

-- ---- the connection that a match lends

module _ (m : MatchState) (past : List BodyLine) (c : ℕ) (stands : MatchStandsFor m past) (below : c < m.script.head.clients) where
  module _ (p : PairState) (is : (d : SeatState) → p ≡ (get_or m.game.seats c d).pair) where
    -- its copies are those of the packets that the client took
    pub copies_are : (slot : ℕ) → slot < 256 → copy_in p.client.copies.slots slot ≡ copy_of (ghosts_seen (taken_by m.script.head c past)) slot
    copies_are slot lt =
        let log = end_of m.script.head c past in
        let came : CopiesStandFor p.client.copies (ghosts_came log) = (pair_stands m past c stands below p is).client.copies in
        came.copies slot lt ∙ ap (λ (items : List GhostItem). copy_of items slot) (sym (shows-alike log).ghosts)

-- no slot beyond the last has a copy, by what packets leave
pub none_seen : (head : Head) (c : ℕ) (past : List BodyLine) (slot : ℕ) → 256 ≤ slot → copy_of (ghosts_seen (taken_by head c past)) slot ≡ None
none_seen head c past slot le =
    ap (λ (items : List GhostItem). copy_of items slot) (shows-alike (end_of head c past)).ghosts
    ∙ (all_kept (client_terms head c) table_none (steps_of head past c)).within slot le

pub all_copies : (head : Head) (c : ℕ) (past : List BodyLine) (copies : State) → ((slot : ℕ) → slot < 256 → copy_in copies.slots slot ≡ copy_of (ghosts_seen (taken_by head c past)) slot)
    → ((slot : ℕ) → 256 ≤ slot → copy_in copies.slots slot ≡ None) → (slot : ℕ) → copy_in copies.slots slot ≡ copy_of (ghosts_seen (taken_by head c past)) slot
all_copies head c past copies below beyond slot = elim (cases_lt slot 256) [
  | inl lt ↦ below slot lt
  | inr le ↦ beyond slot le ∙ sym (none_seen head c past slot le)
]

-- what a match lends of a relay that stands for these lines
module _ (n : NodeState) (past : List Entry) (stands : Stands n past) (lent : PairState) (is : (d : SeatState) → lent ≡ (get_or n.game.game.seats n.relay d).pair)
    (copies : State) (of : copies ≡ lent.client.copies) where
  pub now_kinds : copies.kinds ≡ match_kinds
  now_kinds = ap (λ (x : State). x.kinds) of ∙ kinds_are n.game (match_past past) n.relay stands.game stands.below lent is

  pub now_seen : ((slot : ℕ) → 256 ≤ slot → copy_in copies.slots slot ≡ None) → (slot : ℕ)
      → copy_in copies.slots slot ≡ copy_of (ghosts_seen (taken_by n.game.script.head n.relay (match_past past))) slot
  now_seen beyond =
      all_copies n.game.script.head n.relay (match_past past) copies
      (λ slot lt. ap (λ (x : State). copy_in x.slots slot) of ∙ copies_are n.game (match_past past) n.relay stands.game stands.below lent is slot lt) beyond

-- ---- a line is done

module _ (old : NodeState) (past : List Entry) (stands : Stands old past) (few : length past + 2 < 4000000) (line : BodyLine) where
  abbrev head : Head
  head = old.game.script.head

  abbrev c : ℕ
  c = old.relay

  abbrev older : List ServerPacket
  older = taken_by old.game.script.head old.relay (match_past past)

  abbrev newer : List ServerPacket
  newer = taken_by old.game.script.head old.relay (line ∷ match_past past)

  pub record AreSeen (slots : List (Option GhostCopy)) : Type 0 where
    pub each : (slot : ℕ) → copy_in slots slot ≡ copy_of (ghosts_seen newer) slot

  abbrev pub Met : List Spectator → Type 0
  Met spectators = (s : ℕ) (d : Spectator) → s < length spectators
      → Follows (get_or spectators s d) (spectator_terms old.game.script.head s) (met old.game.script.head old.relay s (OfMatch line ∷ past))

  module _ (game : MatchState) (done : MatchStandsFor game (line ∷ match_past past)) (same : game.script ≡ old.game.script) where
    played : (board : BoardState) (spectators : List Spectator) → AreSeen board.slots → Met spectators
        → Stands (record { relay = old.relay; game = game; board = board; spectators = spectators }) (OfMatch line ∷ past)
    played board spectators seen met_all = record {
      game = done;
      below = subst (λ (x : Script). old.relay < x.head.clients) (sym same) stands.below;
      board = subst (λ (x : Script). (slot : ℕ) → copy_in board.slots slot ≡ copy_of (ghosts_seen (taken_by x.head old.relay (line ∷ match_past past))) slot) (sym same) seen.each;
      spectators = subst (λ (x : Script). (s : ℕ) (d : Spectator) → s < length spectators
          → Follows (get_or spectators s d) (spectator_terms x.head s) (met x.head old.relay s (OfMatch line ∷ past))) (sym same) met_all;
      few = omega (arith, few);
    }

    below_now : old.relay < game.script.head.clients
    below_now = subst (λ (x : Script). old.relay < x.head.clients) (sym same) stands.below

    -- the copies that the match lends are those of the packets that the client took
    module _ (lent : PairState) (is : (d : SeatState) → lent ≡ (get_or game.game.seats old.relay d).pair) (copies : State) (of : copies ≡ lent.client.copies) where
      pub lent_kinds : copies.kinds ≡ match_kinds
      lent_kinds = ap (λ (x : State). x.kinds) of ∙ kinds_are game (line ∷ match_past past) old.relay done below_now lent is

      pub lent_seen : ((slot : ℕ) → 256 ≤ slot → copy_in copies.slots slot ≡ None) → AreSeen copies.slots
      lent_seen beyond = record {
        each = all_copies old.game.script.head old.relay (line ∷ match_past past) copies
            (λ slot lt. ap (λ (x : State). copy_in x.slots slot) of
            ∙ copies_are game (line ∷ match_past past) old.relay done below_now lent is slot lt
            ∙ ap (λ (x : Script). copy_of (ghosts_seen (taken_by x.head old.relay (line ∷ match_past past))) slot) same)
            beyond;
      }

    -- nothing was taken
    pub quiet : events_taken old.relay line (told_after head (match_past past) line) ≡ None
        → Stands (record { relay = old.relay; game = game; board = old.board; spectators = old.spectators }) (OfMatch line ∷ past)
    quiet e =
        let is = subst (λ (o : Option (List EventTold)). IsMet o older newer) e (line_met head old.relay (match_past past) line) in
        played old.board old.spectators
        (record { each = λ slot. stands.board slot ∙ ap (λ (l : List ServerPacket). copy_of (ghosts_seen l) slot) (sym is.packets) })
        (λ s d lt. subst (λ (l : List WatchEvent). Follows (get_or old.spectators s d) (spectator_terms head s) (l ++ met head old.relay s past)) (sym is.event) (stands.spectators s d lt))

    -- a packet was taken
    module _ (news : List EventTold) (e : events_taken old.relay line (told_after head (match_past past) line) ≡ Some news) where
      took : TakesPacket news (end_of head old.relay (match_past past)) (end_of head old.relay (line ∷ match_past past))
      took = subst (λ (o : Option (List EventTold)). LineTakes o (end_of head old.relay (match_past past)) (end_of head old.relay (line ∷ match_past past))) e (line_takes head (match_past past) old.relay line)

      abbrev p : ServerPacket
      p = took.packet

      module _ (s : ℕ) where
        abbrev t : Terms
        t = spectator_terms old.game.script.head s

        abbrev events : List WatchEvent
        events = met old.game.script.head old.relay s past

        met_now : met head old.relay s (OfMatch line ∷ past) ≡ Took p ∷ events
        met_now = ap (λ (l : List WatchEvent). l ++ events) (one_more p older newer took.taken)

        packets_before : older ≡ packets_in events
        packets_before = sym (met_packets head old.relay s past)

        packets_now : newer ≡ p ∷ packets_in events
        packets_now = took.taken ∙ ap (λ (l : List ServerPacket). p ∷ l) packets_before

        are : AreMet t (Took p ∷ events)
        are = subst (AreMet t) met_now (are_met head old.relay s (OfMatch line ∷ past) (omega (arith, few)))

        before : (slot : ℕ) → copy_in old.board.slots slot ≡ copy_at events slot
        before slot = stands.board slot ∙ ap (λ (l : List ServerPacket). copy_of (ghosts_seen l) slot) packets_before

        behind : (copies : State) → AreSeen copies.slots → (slot : ℕ) → copy_in copies.slots slot ≡ copy_at (Took p ∷ events) slot
        behind copies seen slot = seen.each slot ∙ ap (λ (l : List ServerPacket). copy_of (ghosts_seen l) slot) packets_now

        told : (board : BoardState) (copies : State) → copies.kinds ≡ match_kinds → AreSeen copies.slots
            → board.killed ≡ killed_between (copy_in old.board.slots) (copy_in copies.slots)
            → board.changed ≡ changed_between copies.kinds (copy_in old.board.slots) (copy_in copies.slots)
            → IsToldOf t p events board.killed board.changed news
        told board copies kinds seen killed changed = record {
          kills = killed ∙ (λ j. killed_between (λ slot. before slot j) (λ slot. behind copies seen slot j));
          changes = changed ∙ (λ j. changed_between (kinds j) (λ slot. before slot j) (λ slot. behind copies seen slot j));
          delivers = ap payloads_of took.news ∙ payloads_are (drop (length (delivered_to older)) (delivered_to newer))
              ∙ (λ j. guaranteed_of (drop (length (delivered_to (packets_before j))) (delivered_to (packets_now j))));
        }

      module _ (board : BoardState) (copies : State) (kinds : copies.kinds ≡ match_kinds) (seen : AreSeen copies.slots)
          (killed : board.killed ≡ killed_between (copy_in old.board.slots) (copy_in copies.slots))
          (changed : board.changed ≡ changed_between copies.kinds (copy_in old.board.slots) (copy_in copies.slots)) where
        pub may_all : MayTakeAll old.spectators board.killed board.changed news
        may_all s d lt = record {
          terms = spectator_terms head s;
          packet = p;
          events = met head old.relay s past;
          follows = stands.spectators s d lt;
          told = told s board copies kinds seen killed changed;
          met = are s;
        }

        pub taken : (spectators : List Spectator) → length spectators ≡ length old.spectators → ((slot : ℕ) → copy_in board.slots slot ≡ copy_in copies.slots slot)
            → TakeAll old.spectators board.killed board.changed news spectators
            → Stands (record { relay = old.relay; game = game; board = board; spectators = spectators }) (OfMatch line ∷ past)
        taken spectators count slots takes =
            played board spectators (record { each = λ slot. slots slot ∙ seen.each slot })
            (λ s d lt. let below : s < length old.spectators = omega (arith, lt, count) in
            subst (Follows (get_or spectators s d) (spectator_terms head s)) (sym (met_now s))
            (takes s d below (spectator_terms head s) p (met head old.relay s past) (stands.spectators s d below) (told s board copies kinds seen killed changed) (are s)))
