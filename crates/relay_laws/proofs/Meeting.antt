-- What a spectator meets by the lines of a relay script: one event of each line, or none; packets as the relay's client took them.
use Rattle.std.proofs.Common.{◌≡◌, ◌∙◌, ℕ, ◌+◌, ◌*◌, ◌<◌, ◌≤◌, ◌==◌, Bool, true, false, List, [], ◌∷◌, ◌++◌, length, Option, Some, None, is_some, if◌then◌else◌, refl, sym, ap, subst, arith, inl, inr, ◌⊎◌}
use Rattle.tn_types.specs.declared.limits.TheConstants.{MAX_SLOTS, MAX_SHOWS}
use Rattle.quantised_fields.specs.declared.kind.Kind.{Kind}
use Rattle.quantised_fields.specs.Kinds.{table_fault}
use Rattle.wire_format.specs.declared.server.ServerPacket.{ServerPacket}
use Rattle.ghost_client.specs.declared.copy.GhostCopy.{GhostCopy}
use Rattle.world_rules.specs.Kinds.{match_kinds}
use Rattle.match_script.specs.declared.types.BodyLine.{BodyLine}
use Rattle.match_script.specs.declared.types.BodyLine.TheVariants as script
use Rattle.match_script.specs.declared.types.Head.{Head}
use Rattle.match_laws.specs.Values.{steps_of}
use Rattle.own_lists.specs.Past.{client_terms}
use Rattle.relay_script.specs.declared.entries.Entry.{Entry}
use Rattle.relay_script.specs.declared.entries.Entry.TheVariants.{OfMatch, OfRelay}
use Rattle.relay_script.specs.declared.types.RelayLine.{RelayLine}
use Rattle.relay_script.specs.declared.types.RelayLine.TheVariants.{Scan, Pack, ClientPack, Down, Up, Show}
use Rattle.relay_model.specs.Watching.{WatchEvent, Took, Scans, Own, packets_in, is_unwatched, begun_below, watched, copy_at}
use Rattle.relay_model.specs.Items.{items_of}
use Rattle.relay_model.specs.Laws.{IsCopy, AreCopies, IsSpectators, AreSpectators, AreChanges}
use Rattle.relay_model.proofs.Changes.{copies_by_changes}
use Rattle.relay_model.proofs.Copies.{taken_are_changes}
use Rattle.relay_model.proofs.Following.{Holds, follow}
use Rattle.relay_report.specs.Met.{match_past, taken_by, spectator_terms, asked_of, met}
use Rattle.relay_report.proofs.Newly.{no_more, one_more}
use Rattle.relay_laws.proofs.Places.{AreEntries}
use Rattle.relay_laws.proofs.Taking.{Brings, line_brings_one}

pub table_none : table_fault match_kinds ≡ None
table_none = refl

-- ---- what copies are

pub fit_at : (kinds : List Kind) (events : List WatchEvent) → AreCopies kinds events → (at : ℕ) (copy : GhostCopy) → copy_at events at ≡ Some copy → IsCopy kinds copy
fit_at kinds [] h at copy e = absurd (cc)
fit_at kinds (Took p ∷ events) h at copy e = (h.0).fits at copy e
fit_at kinds (Scans ∷ events) h at copy e = fit_at kinds events h at copy e
fit_at kinds (Own line ∷ events) h at copy e = fit_at kinds events h at copy e

-- ---- what is watched

-- a period that watches a slot now, and had begun before, watched it then
pub kept_watch : (event : WatchEvent) (events : List WatchEvent) (at n : ℕ) → n < (watched events).shows
    → (watched (event ∷ events)).period at ≡ Some n → (watched events).period at ≡ Some n
kept_watch (Took p) events at n lt e = by (copy_at (Took p ∷ events) at) e
  where
    by : (o : Option GhostCopy) → (if is_some o then (watched events).period at else None) ≡ Some n → (watched events).period at ≡ Some n
    by None f = absurd (cc)
    by (Some copy) f = f
kept_watch (Own line) events at n lt e = e
kept_watch Scans events at n lt e = by (is_unwatched (copy_at events) (watched events) at) e
  where
    given : (a b : ℕ) → ◌≡◌ {A = Option ℕ} (Some a) (Some b) → a ≡ b
    given a b f = cc (f)

    by : (b : Bool) → (if b then Some ((watched events).shows + begun_below (copy_at events) (watched events) at) else (watched events).period at) ≡ Some n
        → (watched events).period at ≡ Some n
    by true f =
        let same = given ((watched events).shows + begun_below (copy_at events) (watched events) at) n f in
        absurd (omega (arith, lt, same))
    by false f = f

module _ (head : Head) (c s : ℕ) where
  abbrev taken : List Entry → List ServerPacket
  taken past = taken_by head c (match_past past)

  -- an event by which a spectator meets these packets after those
  abbrev IsMet : WatchEvent → List ServerPacket → List ServerPacket → Type 0
  IsMet (Took p) older newer = newer ≡ p ∷ older
  IsMet Scans older newer = newer ≡ older
  IsMet (Own line) older newer = IsSpectators line × (newer ≡ older)

  -- what a line adds: nothing, or this
  record AddsNone (entry : Entry) (past : List Entry) : Type 0 where
    pub event : met head c s (entry ∷ past) ≡ met head c s past
    pub packets : taken (entry ∷ past) ≡ taken past

  record AddsOne (entry : Entry) (past : List Entry) : Type 0 where
    pub event : WatchEvent
    pub is : met head c s (entry ∷ past) ≡ event ∷ met head c s past
    pub meets : IsMet event (taken past) (taken (entry ∷ past))

  abbrev Adds : Entry → List Entry → Type 0
  Adds entry past = AddsNone entry past ⊎ AddsOne entry past

  of_match : (line : BodyLine) (past : List Entry) → Brings (taken past) (taken (OfMatch line ∷ past)) → Adds (OfMatch line) past
  of_match line past (inl e) = inl (record {
    event = ap (λ (l : List WatchEvent). l ++ met head c s past) (no_more (taken past) (taken (OfMatch line ∷ past)) e);
    packets = e;
  })
  of_match line past (inr one) = inr (record {
    event = Took one.0;
    is = ap (λ (l : List WatchEvent). l ++ met head c s past) (one_more one.0 (taken past) (taken (OfMatch line ∷ past)) one.1);
    meets = one.1;
  })

  asked : (line : RelayLine) (past : List Entry) (b : Bool) (event : WatchEvent) → IsMet event (taken past) (taken past)
      → asked_of s line ≡ (if b then event ∷ [] else []) → Adds (OfRelay line) past
  asked line past true event is e = inr (record { event = event; is = ap (λ (l : List WatchEvent). l ++ met head c s past) e; meets = is })
  asked line past false event is e = inl (record { event = ap (λ (l : List WatchEvent). l ++ met head c s past) e; packets = refl })

  adds : (entry : Entry) (past : List Entry) → Adds entry past
  adds (OfMatch line) past = of_match line past (line_brings_one head c (match_past past) line)
  adds (OfRelay (Scan d)) past = asked (Scan d) past (d == s) Scans refl refl
  adds (OfRelay (Pack d)) past = asked (Pack d) past (d == s) (Own (script.Pack d)) (tt, refl) refl
  adds (OfRelay (ClientPack d)) past = asked (ClientPack d) past (d == s) (Own (script.ClientPack d)) (tt, refl) refl
  adds (OfRelay (Down d k)) past = asked (Down d k) past (d == s) (Own (script.Down d k)) (tt, refl) refl
  adds (OfRelay (Up d k)) past = asked (Up d k) past (d == s) (Own (script.Up d k)) (tt, refl) refl
  adds (OfRelay (Show d)) past = inl (record { event = refl; packets = refl })

  -- ---- what holds of all that it meets

  record AreMetBy (events : List WatchEvent) (packets : List ServerPacket) (count : ℕ) : Type 0 where
    pub packets_are : packets_in events ≡ packets
    pub own : AreSpectators events
    pub few : length events ≤ count

  more_met : (event : WatchEvent) (events : List WatchEvent) (older newer : List ServerPacket) (count : ℕ) → IsMet event older newer
      → AreMetBy events older count → AreMetBy (event ∷ events) newer (count + 1)
  more_met (Took p) events older newer count is h = record {
    packets_are = ap (λ (l : List ServerPacket). p ∷ l) h.packets_are ∙ sym is;
    own = h.own;
    few = (let le = h.few in omega (arith, le));
  }
  more_met Scans events older newer count is h =
      record { packets_are = h.packets_are ∙ sym is; own = h.own; few = (let le = h.few in omega (arith, le)) }
  more_met (Own line) events older newer count is h =
      record { packets_are = h.packets_are ∙ sym is.1; own = (is.0, h.own); few = (let le = h.few in omega (arith, le)) }

  all_met : (past : List Entry) → AreMetBy (met head c s past) (taken past) (length past)
  all_met [] = record { packets_are = refl; own = tt; few = omega arith }
  all_met (entry ∷ past) = by (adds entry past) (all_met past)
    where
      by : Adds entry past → AreMetBy (met head c s past) (taken past) (length past)
          → AreMetBy (met head c s (entry ∷ past)) (taken (entry ∷ past)) (length (entry ∷ past))
      by (inl none) h = record {
        packets_are = ap packets_in none.event ∙ h.packets_are ∙ sym none.packets;
        own = subst AreSpectators (sym none.event) h.own;
        few = (let le = h.few in let e = ap (λ (l : List WatchEvent). length l) none.event in omega (arith, le, e));
      }
      by (inr one) h =
          let more = more_met one.event (met head c s past) (taken past) (taken (entry ∷ past)) (length past) one.meets h in
          record {
            packets_are = ap packets_in one.is ∙ more.packets_are;
            own = subst AreSpectators (sym one.is) more.own;
            few = (let le = more.few in let e = ap (λ (l : List WatchEvent). length l) one.is in omega (arith, le, e));
          }

  pub met_packets : (past : List Entry) → packets_in (met head c s past) ≡ taken past
  met_packets past = (all_met past).packets_are

  pub met_own : (past : List Entry) → AreSpectators (met head c s past)
  met_own past = (all_met past).own

  -- ---- periods that began

  more_shows : (event : WatchEvent) (events : List WatchEvent) → (watched events).shows ≤ (watched (event ∷ events)).shows
  more_shows (Took p) events = omega arith
  more_shows Scans events = omega arith
  more_shows (Own line) events = omega arith

  pub line_shows : (entry : Entry) (past : List Entry) → (watched (met head c s past)).shows ≤ (watched (met head c s (entry ∷ past))).shows
  line_shows entry past = by (adds entry past)
    where
      by : Adds entry past → (watched (met head c s past)).shows ≤ (watched (met head c s (entry ∷ past))).shows
      by (inl none) = let e = ap (λ (l : List WatchEvent). (watched l).shows) none.event in omega (arith, e)
      by (inr one) = let e = ap (λ (l : List WatchEvent). (watched l).shows) one.is in let le = more_shows one.event (met head c s past) in omega (arith, e, le)

  pub line_watch : (entry : Entry) (past : List Entry) (at n : ℕ) → n < (watched (met head c s past)).shows
      → (watched (met head c s (entry ∷ past))).period at ≡ Some n → (watched (met head c s past)).period at ≡ Some n
  line_watch entry past at n lt e = by (adds entry past)
    where
      by : Adds entry past → (watched (met head c s past)).period at ≡ Some n
      by (inl none) = sym (ap (λ (l : List WatchEvent). (watched l).period at) none.event) ∙ e
      by (inr one) =
          kept_watch one.event (met head c s past) at n lt (sym (ap (λ (l : List WatchEvent). (watched l).period at) one.is) ∙ e)

  -- ---- some of the older events are what older lines make it meet

  pub record Cut (past : List Entry) (earlier : List WatchEvent) : Type 0 where
    pub later_lines : List Entry
    pub lines : List Entry
    pub whole : later_lines ++ lines ≡ past
    pub met_is : met head c s lines ≡ earlier

  one_line : (entry : Entry) (past : List Entry) (earlier : List WatchEvent) → Cut past earlier → Cut (entry ∷ past) earlier
  one_line entry past earlier h =
      record { later_lines = entry ∷ h.later_lines; lines = h.lines; whole = ap (λ (l : List Entry). entry ∷ l) h.whole; met_is = h.met_is }

  rest_same : (x y : WatchEvent) (xs ys : List WatchEvent) → x ∷ xs ≡ y ∷ ys → xs ≡ ys
  rest_same x y xs ys e = cc (e)

  pub cut : (past : List Entry) (later earlier : List WatchEvent) → later ++ earlier ≡ met head c s past → Cut past earlier
  cut past [] earlier e = record { later_lines = []; lines = past; whole = refl; met_is = sym e }
  cut [] (x ∷ later) earlier e = absurd (cc)
  cut (entry ∷ past) (x ∷ later) earlier e =
      one_line entry past earlier (by (adds entry past) (cut past (x ∷ later) earlier) (cut past later earlier))
    where
      by : Adds entry past → (x ∷ later ++ earlier ≡ met head c s past → Cut past earlier) → (later ++ earlier ≡ met head c s past → Cut past earlier)
          → Cut past earlier
      by (inl none) same rest = same (e ∙ none.event)
      by (inr one) same rest = rest (rest_same x one.event (later ++ earlier) (met head c s past) (e ∙ one.is))

  -- ---- what a spectator's server is told may follow

  pub copies_are : (past : List Entry) → AreCopies match_kinds (met head c s past)
  copies_are past =
      copies_by_changes match_kinds (met head c s past)
      (subst (AreChanges match_kinds) (sym (met_packets past)) (taken_are_changes (client_terms head c) (steps_of head (match_past past) c) table_none))

  pub met_few : (past : List Entry) → AreEntries head past → MAX_SLOTS * length (met head c s past) < MAX_SHOWS
  met_few past h = let le = (all_met past).few in let few = h.few in omega (arith, le, few)

  pub holds : (past : List Entry) → AreEntries head past
      → Holds (spectator_terms head s) table_none (watched (met head c s past)) (copy_at (met head c s past)) (items_of (spectator_terms head s) (met head c s past))
  holds past h =
      follow (spectator_terms head s) table_none (met head c s past) (copies_are past) (met_own past)
      (let le = (all_met past).few in let few = h.few in omega (arith, le, few))
