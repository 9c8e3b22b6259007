-- What a spectator meets by the lines of a relay script: packets as the relay's client took them, of which each makes such a change of the
-- copies as may be shown on, and no more of all than there are lines.
use Rattle.std.proofs.Common.{◌≡◌, ◌∙◌, ℕ, ◌-◌, ◌<◌, ◌≤◌, ◌==◌, Bool, true, false, List, [], ◌∷◌, ◌++◌, map, take, length, Option, Some, None, if◌then◌else◌, refl, sym, ap, subst, arith, length-append}
use Rattle.quantised_fields.specs.Kinds.{table_fault}
use Rattle.wire_format.specs.declared.server.ServerPacket.{ServerPacket}
use Rattle.world_rules.specs.Kinds.{match_kinds}
use Rattle.match_script.specs.declared.types.BodyLine.{BodyLine}
use Rattle.match_script.specs.declared.types.BodyLine.TheVariants as script
use Rattle.match_script.specs.declared.types.Head.{Head}
use Rattle.match_report.specs.declared.told.EventTold.{EventTold}
use Rattle.relay_report.specs.match_engine.match_laws.Report.{told_after}
use Rattle.relay_report.specs.match_engine.match_laws.Values.{steps_of}
use Rattle.own_lists.specs.Past.{client_terms}
use Rattle.relay_script.specs.declared.entries.Entry.{Entry}
use Rattle.relay_script.specs.declared.entries.Entry.TheVariants.{OfMatch, OfRelay}
use Rattle.relay_script.specs.declared.types.RelayLine.{RelayLine}
use Rattle.relay_script.specs.declared.types.RelayLine.TheVariants.{Scan, Pack, ClientPack, Down, Up, Show}
use Rattle.relay_model.specs.Watching.{WatchEvent, Took, Scans, Own, packets_in}
use Rattle.relay_model.specs.Laws.{AreSpectators, AreChanges}
use Rattle.relay_model.proofs.Changes.{copies_by_changes}
use Rattle.relay_model.proofs.Copies.{taken_are_changes}
use Rattle.relay_spectator.specs.Spectators.{AreMet}
use Rattle.relay_report.specs.Met.{match_past, end_of, taken_by, newly, spectator_terms, asked_of, met}
use Rattle.relay_report.proofs.Newly.{no_more, one_more}
use Rattle.relay_node.specs.Node.{events_taken}
use Rattle.relay_node.proofs.Lines.{LineTakes, line_takes}

pub table_none : table_fault match_kinds ≡ None
table_none = refl

-- ---- what is new

-- a line of the match is met as a packet, or not at all
pub record IsOne (p : ServerPacket) (older newer : List ServerPacket) (new : List WatchEvent) : Type 0 where
  pub packets : newer ≡ p ∷ older
  pub event : new ≡ Took p ∷ []

pub record IsNo (older newer : List ServerPacket) (new : List WatchEvent) : Type 0 where
  pub packets : newer ≡ older
  pub event : new ≡ []

abbrev pub IsMet : Option (List EventTold) → List ServerPacket → List ServerPacket → Type 0
IsMet None older newer = IsNo older newer (newly older newer)
IsMet (Some events) older newer = (p : ServerPacket) × IsOne p older newer (newly older newer)

module _ (head : Head) (c : ℕ) where
  by_taking : (o : Option (List EventTold)) (past : List BodyLine) (line : BodyLine) → LineTakes o (end_of head c past) (end_of head c (line ∷ past))
      → IsMet o (taken_by head c past) (taken_by head c (line ∷ past))
  by_taking None past line e = record { packets = e; event = no_more (taken_by head c past) (taken_by head c (line ∷ past)) e }
  by_taking (Some events) past line t = (t.packet, record { packets = t.taken; event = one_more t.packet (taken_by head c past) (taken_by head c (line ∷ past)) t.taken })

  pub line_met : (past : List BodyLine) (line : BodyLine)
      → IsMet (events_taken c line (told_after head past line)) (taken_by head c past) (taken_by head c (line ∷ past))
  line_met past line = by_taking (events_taken c line (told_after head past line)) past line (line_takes head past c line)

  -- ---- by all lines

  module _ (s : ℕ) where
    asked_packets : (line : RelayLine) (events : List WatchEvent) → packets_in (asked_of s line ++ events) ≡ packets_in events
    asked_packets (Scan d) events = by (d == s)
      where
        by : (b : Bool) → packets_in ((if b then Scans ∷ [] else []) ++ events) ≡ packets_in events
        by true = refl
        by false = refl
    asked_packets (Pack d) events = own (d == s) (script.Pack d)
      where
        own : (b : Bool) (line : BodyLine) → packets_in ((if b then Own line ∷ [] else []) ++ events) ≡ packets_in events
        own true line = refl
        own false line = refl
    asked_packets (ClientPack d) events = own (d == s) (script.ClientPack d)
      where
        own : (b : Bool) (line : BodyLine) → packets_in ((if b then Own line ∷ [] else []) ++ events) ≡ packets_in events
        own true line = refl
        own false line = refl
    asked_packets (Down d k) events = own (d == s) (script.Down d k)
      where
        own : (b : Bool) (line : BodyLine) → packets_in ((if b then Own line ∷ [] else []) ++ events) ≡ packets_in events
        own true line = refl
        own false line = refl
    asked_packets (Up d k) events = own (d == s) (script.Up d k)
      where
        own : (b : Bool) (line : BodyLine) → packets_in ((if b then Own line ∷ [] else []) ++ events) ≡ packets_in events
        own true line = refl
        own false line = refl
    asked_packets (Show d) events = refl

    line_packets : (o : Option (List EventTold)) (older newer : List ServerPacket) (events : List WatchEvent) → IsMet o older newer → packets_in events ≡ older
        → packets_in (newly older newer ++ events) ≡ newer
    line_packets None older newer events is e = ap (λ (l : List WatchEvent). packets_in (l ++ events)) is.event ∙ e ∙ sym is.packets
    line_packets (Some news) older newer events is e =
        ap (λ (l : List WatchEvent). packets_in (l ++ events)) (is.1).event ∙ ap (λ (l : List ServerPacket). is.0 ∷ l) e ∙ sym (is.1).packets

    pub met_packets : (past : List Entry) → packets_in (met head c s past) ≡ taken_by head c (match_past past)
    met_packets [] = refl
    met_packets (OfMatch line ∷ past) =
        line_packets (events_taken c line (told_after head (match_past past) line)) (taken_by head c (match_past past)) (taken_by head c (line ∷ match_past past)) (met head c s past)
        (line_met (match_past past) line) (met_packets past)
    met_packets (OfRelay line ∷ past) = asked_packets line (met head c s past) ∙ met_packets past

    -- ---- how many

    few_new : (o : Option (List EventTold)) (older newer : List ServerPacket) → IsMet o older newer → length (newly older newer) ≤ 1
    few_new None older newer is = let e = ap (λ (l : List WatchEvent). length l) is.event in omega (arith, e)
    few_new (Some news) older newer is = let e = ap (λ (l : List WatchEvent). length l) (is.1).event in omega (arith, e)

    one_or_none : (b : Bool) (event : WatchEvent) → length (if b then event ∷ [] else []) ≤ 1
    one_or_none true event = omega arith
    one_or_none false event = omega arith

    few_asked : (line : RelayLine) → length (asked_of s line) ≤ 1
    few_asked (Scan d) = one_or_none (d == s) Scans
    few_asked (Pack d) = one_or_none (d == s) (Own (script.Pack d))
    few_asked (ClientPack d) = one_or_none (d == s) (Own (script.ClientPack d))
    few_asked (Down d k) = one_or_none (d == s) (Own (script.Down d k))
    few_asked (Up d k) = one_or_none (d == s) (Own (script.Up d k))
    few_asked (Show d) = omega arith

    pub few_met : (past : List Entry) → length (met head c s past) ≤ length past
    few_met [] = omega arith
    few_met (OfMatch line ∷ past) =
        let new = newly (taken_by head c (match_past past)) (taken_by head c (line ∷ match_past past)) in
        omega (
          arith,
          length-append new (met head c s past),
          few_met past,
          few_new (events_taken c line (told_after head (match_past past) line)) (taken_by head c (match_past past)) (taken_by head c (line ∷ match_past past)) (line_met (match_past past) line),
        )
    few_met (OfRelay line ∷ past) = omega (arith, length-append (asked_of s line) (met head c s past), few_met past, few_asked line)

    -- ---- whose lines

    took_own : (packets : List ServerPacket) (events : List WatchEvent) → AreSpectators events → AreSpectators (map Took packets ++ events)
    took_own [] events h = h
    took_own (p ∷ packets) events h = took_own packets events h

    asked_own : (line : RelayLine) (events : List WatchEvent) → AreSpectators events → AreSpectators (asked_of s line ++ events)
    asked_own (Scan d) events h = by (d == s)
      where
        by : (b : Bool) → AreSpectators ((if b then Scans ∷ [] else []) ++ events)
        by true = h
        by false = h
    asked_own (Pack d) events h = by (d == s)
      where
        by : (b : Bool) → AreSpectators ((if b then Own (script.Pack d) ∷ [] else []) ++ events)
        by true = (tt, h)
        by false = h
    asked_own (ClientPack d) events h = by (d == s)
      where
        by : (b : Bool) → AreSpectators ((if b then Own (script.ClientPack d) ∷ [] else []) ++ events)
        by true = (tt, h)
        by false = h
    asked_own (Down d k) events h = by (d == s)
      where
        by : (b : Bool) → AreSpectators ((if b then Own (script.Down d k) ∷ [] else []) ++ events)
        by true = (tt, h)
        by false = h
    asked_own (Up d k) events h = by (d == s)
      where
        by : (b : Bool) → AreSpectators ((if b then Own (script.Up d k) ∷ [] else []) ++ events)
        by true = (tt, h)
        by false = h
    asked_own (Show d) events h = h

    pub own_met : (past : List Entry) → AreSpectators (met head c s past)
    own_met [] = tt
    own_met (OfMatch line ∷ past) =
        let older = taken_by head c (match_past past) in
        let newer = taken_by head c (line ∷ match_past past) in
        took_own (take (length newer - length older) newer) (met head c s past) (own_met past)
    own_met (OfRelay line ∷ past) = asked_own line (met head c s past) (own_met past)

    -- ---- copies

    pub are_met : (past : List Entry) → length past < 4000000 → AreMet (spectator_terms head s) (met head c s past)
    are_met past few = record {
      table = table_none;
      copies = copies_by_changes match_kinds (met head c s past)
          (subst (AreChanges match_kinds) (sym (met_packets past)) (taken_are_changes (client_terms head c) (steps_of head (match_past past) c) table_none));
      own = own_met past;
      few = (let le = few_met past in omega (arith, le, few));
    }
