-- What a relay stands for when a line of the relay is done, and what the line tells.
use Rattle.std.proofs.Common.{◌≡◌, ◌≢◌, ◌∙◌, ℕ, ◌+◌, ◌<◌, ◌==◌, true, false, List, [], ◌∷◌, ◌++◌, length, get_or, set, Option, Some, None, refl, sym, ap, subst, arith, inl, inr}
use Rattle.std.proofs.lemmas.Bool.{cases_eq}
use Rattle.std.proofs.lemmas.Bool.Decides.{nat_tests}
use Rattle.std.proofs.lemmas.List.{get_or-set_same, get_or-set_other, length-set}
use Rattle.match_script.specs.declared.types.BodyLine.{BodyLine}
use Rattle.match_script.specs.declared.types.BodyLine.TheVariants as script
use Rattle.match_script.specs.declared.types.Head.{Head}
use Rattle.match_report.specs.declared.told.Told.{Told}
use Rattle.match_script.specs.Named.{client_named}
use Rattle.relay_script.specs.declared.entries.Entry.{Entry}
use Rattle.relay_script.specs.declared.entries.Entry.TheVariants.{OfRelay}
use Rattle.relay_script.specs.declared.types.RelayLine.{RelayLine}
use Rattle.relay_script.specs.declared.types.RelayLine.TheVariants.{Scan, Pack, ClientPack, Down, Up, Show}
use Rattle.relay_model.specs.Watching.{WatchEvent, Scans, Own}
use Rattle.relay_spectator.specs.declared.spectator.Spectator.{Spectator}
use Rattle.wire_format.specs.declared.server.ServerPacket.{ServerPacket}
use Rattle.ghost_client.specs.Copies.{copy_of}
use Rattle.ghost_client.specs.State.{State, copy_in}
use Rattle.own_lists.specs.pair_core.stream_manager.Packets.{ghosts_seen}
use Rattle.world_rules.specs.Kinds.{match_kinds}
use Rattle.relay_spectator.specs.Spectators.{Follows, AreMet, AreShown, IsAsked, line_tells, MayDo, Does, TellsLine, MayScan, ScansOf, TellsScan, MayShow, TellsShow, Stays as StaysAs}
use Rattle.relay_report.specs.Met.{match_past, taken_by, spectator_terms, asked_of, met}
use Rattle.relay_report.specs.Report.{named, told_of}
use Rattle.relay_node.specs.Node.{NodeState, Stands, plain_of}
use Rattle.relay_node.proofs.Meeting.{met_packets, are_met}

-- ---- what a line is to the spectator that it names, and to others

same_number : (d : ℕ) → (d == d) ≡ true
same_number d = grind (arith, nat_tests)

other_number : (d s : ℕ) → s ≢ d → (d == s) ≡ false
other_number d s apart = grind (arith, nat_tests)

not_asked : (s : ℕ) (line : RelayLine) → s ≢ named line → asked_of s line ≡ []
not_asked s (Scan d) apart = rw (other_number d s apart) refl
not_asked s (Pack d) apart = rw (other_number d s apart) refl
not_asked s (ClientPack d) apart = rw (other_number d s apart) refl
not_asked s (Down d k) apart = rw (other_number d s apart) refl
not_asked s (Up d k) apart = rw (other_number d s apart) refl
not_asked s (Show d) apart = refl

pub scan_asked : (d : ℕ) → asked_of d (Scan d) ≡ Scans ∷ []
scan_asked d = rw (same_number d) refl

some_line : (a b : BodyLine) → ◌≡◌ {A = Option BodyLine} (Some a) (Some b) → a ≡ b
some_line a b e = cc (e)

-- the plain form of a line
pub record IsPlain (line : RelayLine) (plain : BodyLine) : Type 0 where
  pub asked : asked_of (named line) line ≡ Own plain ∷ []
  pub is_asked : IsAsked plain
  pub names : client_named plain ≡ Some (named line)
  pub tells : (head : Head) (events : List WatchEvent) → line_tells (spectator_terms head (named line)) events plain ≡ Some (told_of (spectator_terms head (named line)) events line)

pub is_plain : (line : RelayLine) (plain : BodyLine) → plain_of line ≡ Some plain → IsPlain line plain
is_plain (Scan d) plain e = absurd (cc)
is_plain (Show d) plain e = absurd (cc)
is_plain (Pack d) plain e =
    subst (IsPlain (Pack d)) (some_line (script.Pack d) plain e) (record { asked = rw (same_number d) refl; is_asked = tt; names = refl; tells = λ head events. refl })
is_plain (ClientPack d) plain e =
    subst (IsPlain (ClientPack d)) (some_line (script.ClientPack d) plain e) (record { asked = rw (same_number d) refl; is_asked = tt; names = refl; tells = λ head events. refl })
is_plain (Down d k) plain e =
    subst (IsPlain (Down d k)) (some_line (script.Down d k) plain e) (record { asked = rw (same_number d) refl; is_asked = tt; names = refl; tells = λ head events. refl })
is_plain (Up d k) plain e =
    subst (IsPlain (Up d k)) (some_line (script.Up d k) plain e) (record { asked = rw (same_number d) refl; is_asked = tt; names = refl; tells = λ head events. refl })

-- ---- a line is done

module _ (old : NodeState) (past : List Entry) (stands : Stands old past) (few : length past + 2 < 4000000) (line : RelayLine) where
  abbrev at : ℕ
  at = named line

  abbrev events : List WatchEvent
  events = met old.game.script.head old.relay (named line) past

  -- what its spectator meets
  pub may : (event : WatchEvent) → asked_of (named line) line ≡ event ∷ [] → AreMet (spectator_terms old.game.script.head (named line)) (event ∷ events)
  may event e =
      subst (λ (l : List WatchEvent). AreMet (spectator_terms old.game.script.head (named line)) (l ++ events)) e
      (are_met old.game.script.head old.relay (named line) (OfRelay line ∷ past) (omega (arith, few)))

  -- the spectator that the line names
  pub follows_at : (d : Spectator) → d ≡ get_or old.spectators (named line) d → named line < length old.spectators
      → Follows d (spectator_terms old.game.script.head (named line)) events
  follows_at d is lt = subst (λ (x : Spectator). Follows x (spectator_terms old.game.script.head (named line)) events) (sym is) (stands.spectators (named line) d lt)

  pub relayed : (new : Spectator) → named line < length old.spectators
      → Follows new (spectator_terms old.game.script.head (named line)) (asked_of (named line) line ++ events)
      → Stands (record { relay = old.relay; game = old.game; board = old.board; spectators = set old.spectators (named line) new }) (OfRelay line ∷ past)
  relayed new lt follows = record {
    game = stands.game;
    below = stands.below;
    board = stands.board;
    spectators = λ s d below. by s d (let e = length-set old.spectators (named line) new in omega (arith, below, e));
    few = omega (arith, few);
  }
    where
      by : (s : ℕ) (d : Spectator) → s < length old.spectators
          → Follows (get_or (set old.spectators (named line) new) s d) (spectator_terms old.game.script.head s) (asked_of s line ++ met old.game.script.head old.relay s past)
      by s d below = elim (cases_eq s (named line)) [
        | inl same ↦
            (let here : get_or (set old.spectators (named line) new) s d ≡ new = ap (λ (n : ℕ). get_or (set old.spectators (named line) new) n d) same ∙ get_or-set_same old.spectators (named line) new d lt in
            subst (λ (x : Spectator). Follows x (spectator_terms old.game.script.head s) (asked_of s line ++ met old.game.script.head old.relay s past)) (sym here)
            (subst (λ (n : ℕ). Follows new (spectator_terms old.game.script.head n) (asked_of n line ++ met old.game.script.head old.relay n past)) (sym same) follows))
        | inr apart ↦
            (let here : get_or (set old.spectators (named line) new) s d ≡ get_or old.spectators s d = get_or-set_other old.spectators (named line) s new d apart in
            subst (λ (x : Spectator). Follows x (spectator_terms old.game.script.head s) (asked_of s line ++ met old.game.script.head old.relay s past)) (sym here)
            (subst (λ (l : List WatchEvent). Follows (get_or old.spectators s d) (spectator_terms old.game.script.head s) (l ++ met old.game.script.head old.relay s past)) (sym (not_asked s line apart))
            (stands.spectators s d below)))
      ]

  -- ---- a line that its connection does by itself

  module _ (plain : BodyLine) (e : plain_of line ≡ Some plain) (d : Spectator) (is : d ≡ get_or old.spectators (named line) d) (lt : named line < length old.spectators) where
    pub plain_may : MayDo d plain
    plain_may = record {
      terms = spectator_terms old.game.script.head (named line);
      events = events;
      follows = follows_at d is lt;
      met = may (Own plain) (is_plain line plain e).asked;
    }

    pub plain_named : client_named plain ≡ Some d.number
    plain_named = (is_plain line plain e).names ∙ ap (λ (n : ℕ). Some n) (follows_at d is lt).number

    pub plain_done : (new : Spectator) → Does d plain new
        → Stands (record { relay = old.relay; game = old.game; board = old.board; spectators = set old.spectators (named line) new }) (OfRelay line ∷ past)
    plain_done new does =
        relayed new lt
        (subst (λ (l : List WatchEvent). Follows new (spectator_terms old.game.script.head (named line)) (l ++ events)) (sym (is_plain line plain e).asked)
        (does (spectator_terms old.game.script.head (named line)) events (follows_at d is lt) (may (Own plain) (is_plain line plain e).asked)))

    pub plain_told : (told : Told) → TellsLine d plain told → told ≡ told_of (spectator_terms old.game.script.head (named line)) events line
    plain_told told tells =
        given told (told_of (spectator_terms old.game.script.head (named line)) events line)
        (tells (spectator_terms old.game.script.head (named line)) events (follows_at d is lt) (may (Own plain) (is_plain line plain e).asked)
        ∙ (is_plain line plain e).tells old.game.script.head events)
      where
        given : (a b : Told) → ◌≡◌ {A = Option Told} (Some a) (Some b) → a ≡ b
        given a b k = cc (k)

-- ---- a scan

module _ (old : NodeState) (past : List Entry) (stands : Stands old past) (few : length past + 2 < 4000000) (s : ℕ) (copies : State)
    (kinds : copies.kinds ≡ match_kinds) (seen : (slot : ℕ) → copy_in copies.slots slot ≡ copy_of (ghosts_seen (taken_by old.game.script.head old.relay (match_past past))) slot)
    (d : Spectator) (is : d ≡ get_or old.spectators s d) (lt : s < length old.spectators) where
  abbrev scan_events : List WatchEvent
  scan_events = met old.game.script.head old.relay s past

  shown : AreShown (spectator_terms old.game.script.head s) scan_events copies
  shown = record {
    kinds = kinds;
    slots = λ j slot. (seen slot ∙ ap (λ (l : List ServerPacket). copy_of (ghosts_seen l) slot) (sym (met_packets old.game.script.head old.relay s past))) j;
  }

  scan_met : AreMet (spectator_terms old.game.script.head s) (Scans ∷ scan_events)
  scan_met = may old past stands few (Scan s) Scans (scan_asked s)

  pub scan_may : MayScan d copies
  scan_may = record {
    terms = spectator_terms old.game.script.head s;
    events = scan_events;
    follows = follows_at old past stands few (Scan s) d is lt;
    shown = shown;
    met = scan_met;
  }

  pub scan_done : (new : Spectator) → ScansOf d copies new
      → Stands (record { relay = old.relay; game = old.game; board = old.board; spectators = set old.spectators s new }) (OfRelay (Scan s) ∷ past)
  scan_done new scans =
      relayed old past stands few (Scan s) new lt
      (subst (λ (l : List WatchEvent). Follows new (spectator_terms old.game.script.head s) (l ++ scan_events)) (sym (scan_asked s))
      (scans (spectator_terms old.game.script.head s) scan_events (follows_at old past stands few (Scan s) d is lt) shown scan_met))

  pub scan_told : (told : Told) → TellsScan d copies told → told ≡ told_of (spectator_terms old.game.script.head s) scan_events (Scan s)
  scan_told told tells = tells (spectator_terms old.game.script.head s) scan_events (follows_at old past stands few (Scan s) d is lt) shown scan_met

-- ---- a line that shows

module _ (old : NodeState) (past : List Entry) (stands : Stands old past) (few : length past + 2 < 4000000) (s : ℕ)
    (d : Spectator) (is : d ≡ get_or old.spectators s d) (lt : s < length old.spectators) where
  pub show_may : MayShow d
  show_may = record {
    terms = spectator_terms old.game.script.head s;
    events = met old.game.script.head old.relay s past;
    follows = follows_at old past stands few (Show s) d is lt;
  }

  pub show_told : (told : Told) → TellsShow d told → told ≡ told_of (spectator_terms old.game.script.head s) (met old.game.script.head old.relay s past) (Show s)
  show_told told tells = tells (spectator_terms old.game.script.head s) (met old.game.script.head old.relay s past) (follows_at old past stands few (Show s) d is lt)

-- nothing changes
pub show_done : (old : NodeState) (past : List Entry) → Stands old past → length past + 2 < 4000000 → (s : ℕ) → Stands old (OfRelay (Show s) ∷ past)
show_done old past stands few s = record {
  game = stands.game;
  below = stands.below;
  board = stands.board;
  spectators = stands.spectators;
  few = omega (arith, few);
}

-- a spectator that met the same stands in the place of another
pub given_back : (old : NodeState) (past : List Entry) → Stands old past → (at : ℕ) (d new : Spectator) → d ≡ get_or old.spectators at d → at < length old.spectators
    → StaysAs d new → Stands (record { relay = old.relay; game = old.game; board = old.board; spectators = set old.spectators at new }) past
given_back old past stands at d new is lt stays = record {
  game = stands.game;
  below = stands.below;
  board = stands.board;
  spectators = λ s x below. by s x (let e = length-set old.spectators at new in omega (arith, below, e));
  few = stands.few;
}
  where
    by : (s : ℕ) (x : Spectator) → s < length old.spectators
        → Follows (get_or (set old.spectators at new) s x) (spectator_terms old.game.script.head s) (met old.game.script.head old.relay s past)
    by s x below = elim (cases_eq s at) [
      | inl same ↦
          (let here : get_or (set old.spectators at new) s x ≡ new = ap (λ (n : ℕ). get_or (set old.spectators at new) n x) same ∙ get_or-set_same old.spectators at new x lt in
          let was : get_or old.spectators s d ≡ d = ap (λ (n : ℕ). get_or old.spectators n d) same ∙ sym is in
          subst (λ (y : Spectator). Follows y (spectator_terms old.game.script.head s) (met old.game.script.head old.relay s past)) (sym here)
          (stays (spectator_terms old.game.script.head s) (met old.game.script.head old.relay s past)
          (subst (λ (y : Spectator). Follows y (spectator_terms old.game.script.head s) (met old.game.script.head old.relay s past)) was (stands.spectators s d below))))
      | inr apart ↦
          (let here : get_or (set old.spectators at new) s x ≡ get_or old.spectators s x = get_or-set_other old.spectators at s new x apart in
          subst (λ (y : Spectator). Follows y (spectator_terms old.game.script.head s) (met old.game.script.head old.relay s past)) (sym here) (stands.spectators s x below))
    ]

-- a line that has no plain form and is no scan shows
pub is_show : (line : RelayLine) → plain_of line ≡ None → ((s : ℕ) → line ≡ Scan s → ⊥) → line ≡ Show (named line)
is_show (Scan s) e f = absurd (f s refl)
is_show (Show s) e f = refl
is_show (Pack s) e f = absurd (cc)
is_show (ClientPack s) e f = absurd (cc)
is_show (Down s k) e f = absurd (cc)
is_show (Up s k) e f = absurd (cc)
