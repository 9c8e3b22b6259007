-- What a spectator shows was so: what it shows was read of a value that the relay's copy showed, and that is shown for a value that the
-- object had.
use Rattle.std.proofs.Common.{◌≡◌, ◌∙◌, ℕ, ◌<◌, false, List, ◌++◌, Option, Some, sym, ap, subst, arith, append_assoc}
use Rattle.std.specs.Prelude.{ℤ, pos, reverse, slice_get, slice_index_or, option_map, unwrap_or}
use Rattle.std.specs.Option.{option_map_or}
use Rattle.std.proofs.lemmas.Option.{slice_get_within, get_or_from_slice_get}
use Rattle.quantised_fields.specs.declared.field.FieldSpec.{FieldSpec}
use Rattle.quantised_fields.specs.Levels.{level_of, shown_of}
use Rattle.ghost_model.specs.Ghosts.{slot}
use Rattle.ghost_masks.specs.Plan.{fields_of}
use Rattle.ghost_client.specs.declared.copy.GhostCopy.{GhostCopy}
use Rattle.ghost_client.specs.Copies.{copy_of}
use Rattle.ghost_client.specs.State.{field_value}
use Rattle.stream_manager.specs.Limits.{Terms}
use Rattle.stream_manager.specs.Packets.{ghosts_seen}
use Rattle.stream_manager.specs.Client.{ghosts_came}
use Rattle.stream_manager.proofs.Packets.{shows-alike}
use Rattle.pair_core.specs.History.{PairStep}
use Rattle.pair_copies.specs.pair_laws.Laws.{Always}
use Rattle.pair_copies.specs.Reads.{IsReadLevel, ShowsReads, AllShowReads}
use Rattle.pair_steps.specs.Steps.{shows_in, traits_in}
use Rattle.pair_steps.proofs.Journals.{kind_told}
use Rattle.world_rules.specs.Kinds.{match_kinds}
use Rattle.match_script.specs.declared.types.BodyLine.{BodyLine}
use Rattle.match_script.specs.declared.types.Head.{Head}
use Rattle.match_report.specs.declared.copies.FieldTold.{FieldTold}
use Rattle.client_seat.specs.Told.{holder_at, is_newest}
use Rattle.own_lists.specs.Kept.{Kept, kept, journal, undrained}
use Rattle.own_lists.specs.Past.{client_terms, kept_by, after}
use Rattle.own_lists.specs.Agreement.{OwnListsHold}
use Rattle.match_laws.specs.Laws.{EventsInOrder}
use Rattle.match_laws.specs.Values.{HadValue, CopiesShowValues, ghosts_then}
use Rattle.relay_script.specs.declared.entries.Entry.{Entry}
use Rattle.relay_model.specs.Watching.{WatchEvent, watched, copy_at}
use Rattle.relay_model.specs.Items.{shown_at, items_of}
use Rattle.relay_report.specs.Met.{past_of, match_past, end_of, spectator_terms, met}
use Rattle.match_laws.proofs.FieldsTold.{IsFieldOf}
use Rattle.relay_laws.specs.Moments.{RelayMoment}
use Rattle.relay_laws.specs.Shown.{IsShownField, ShowsHad, SpectatorsShowWhatWasSo}
use Rattle.relay_laws.proofs.Places.{AreEntries, are_entries, fewer_all, match_parts}
use Rattle.relay_laws.proofs.Meeting.{table_none, met_packets, met_own, holds, copies_are, fit_at, cut}
use Rattle.relay_laws.proofs.Lasting.{all_go}
use Rattle.relay_laws.proofs.Told.{WasShown}
use Rattle.relay_laws.proofs.Ever.{read_shown}
use Rattle.relay_laws.proofs.Match.{IsHonestAt, moment_of, honest_of_fewer, shows}
use Rattle.relay_laws.proofs.Fields.{again, is_sound_field, field_of, a_told, told_value, shows_some}
use Rattle.relay_laws.proofs.Delivering.{limits, meet, clean, fit}

one_copy : (a b : GhostCopy) → ◌≡◌ {A = Option GhostCopy} (Some a) (Some b) → a ≡ b
one_copy a b e = cc (e)

one_spec : (a b : FieldSpec) → ◌≡◌ {A = Option FieldSpec} (Some a) (Some b) → a ≡ b
one_spec a b e = cc (e)

module _ (head : Head) (c s : ℕ) where
  abbrev t : Terms
  t = spectator_terms head s

  abbrev events : List Entry → List WatchEvent
  events past = met head c s past

  abbrev steps : List Entry → List PairStep
  steps past = journal t (items_of t (events past))

  -- ---- at the relay, when its copy showed a value of the field

  -- the relay's copy in a slot that period n watched, and the value that it shows of a field that it has
  record IsSeen (past : List Entry) (n f : ℕ) (spec : FieldSpec) (kind : ℕ) (value : ℤ) : Type 0 where
    pub at : ℕ
    pub watches : (watched (events past)).period at ≡ Some n
    pub copy : GhostCopy
    pub there : copy_at (events past) at ≡ Some copy
    pub kind_is : copy.kind ≡ kind
    pub field : slice_get (fields_of match_kinds kind) f ≡ Some spec
    pub value_is : value ≡ shown_at match_kinds copy f

  -- it showed it for a value that the object had
  record WasSo (past : List Entry) (n f : ℕ) (spec : FieldSpec) (kind : ℕ) (value : ℤ) : Type 0 where
    pub at : ℕ
    pub watches : (watched (events past)).period at ≡ Some n
    pub period : ℕ
    pub holds : slot (ghosts_then (moment_of head (match_past past) c)) period ≡ Some at
    pub had_value : ℤ
    pub had : HadValue (moment_of head (match_past past) c) (record { period = period; kind = kind; field = f }) had_value
    pub value_is : value ≡ shown_of spec (level_of spec had_value)

  module _ (below : c < head.clients) (law : CopiesShowValues) where
    was_so : (past : List Entry) → AreEntries head past → IsHonestAt head c (match_past past) → (n f : ℕ) (spec : FieldSpec) (kind : ℕ) (value : ℤ)
        → IsSeen past n f spec kind value → WasSo past n f spec kind value
    was_so past h honest n f spec kind value seen =
        let lines = match_past past in
        let m = moment_of head lines c in
        let range = (fit_at match_kinds (events past) (copies_are head c s past) seen.at seen.copy seen.there).range in
        let field : slice_get (fields_of match_kinds seen.copy.kind) f ≡ Some spec =
        ap (λ (k : ℕ). slice_get (fields_of match_kinds k) f) seen.kind_is ∙ seen.field in
        let v = shows_some match_kinds seen.copy range f spec field in
        let k = kept_by head (after head lines) c in
        let mark = option_map_or (is_newest (client_terms head c) k.course.steps f) (holder_at (client_terms head c) k.course.steps (undrained k) seen.at) false in
        let here : copy_of (ghosts_came (end_of head c lines)) seen.at ≡ Some seen.copy =
        sym (ap (λ l. copy_of l seen.at) (ap ghosts_seen (met_packets head c s past) ∙ (shows-alike (end_of head c lines)).ghosts)) ∙ seen.there in
        let x = shows head c below past h law honest seen.at f seen.copy (a_told mark v.0) (record { here = here; shown = ap (option_map (a_told mark)) v.1 }) in
        let same : x.shown_for.spec ≡ spec = one_spec x.shown_for.spec spec (sym x.shown_for.field ∙ field) in
        record {
          at = seen.at;
          watches = seen.watches;
          period = x.n;
          holds = x.holds;
          had_value = x.value;
          had = subst (λ (k : ℕ). HadValue (moment_of head (match_past past) c) (record { period = x.n; kind = k; field = f }) x.value) seen.kind_is x.had;
          value_is = seen.value_is ∙ ap (λ (o : Option ℤ). unwrap_or o (pos 0)) v.1 ∙ x.shown_for.level ∙ (λ j. shown_of (same j) (level_of (same j) x.value));
        }

  -- ---- fewer lines

  module _ (past : List Entry) (h : AreEntries head past) where
    -- a value that was shown at some place among the events was shown behind some of the lines, by a copy of the same kind
    record SeenSooner (n f : ℕ) (spec : FieldSpec) (kind : ℕ) (value : ℤ) : Type 0 where
      pub later_lines : List Entry
      pub lines : List Entry
      pub whole : later_lines ++ lines ≡ past
      pub seen : IsSeen lines n f spec kind value

    seen_sooner : (n f : ℕ) (spec : FieldSpec) (kind : ℕ) (value : ℤ) → kind ≡ (traits_in (steps past) n).kind
        → slice_get (fields_of match_kinds kind) f ≡ Some spec → WasShown match_kinds (events past) n f value → SeenSooner n f spec kind value
    seen_sooner n f spec kind value kind_is field w =
        let o = cut head c s past w.later w.earlier w.whole in
        let entries = fewer_all head o.later_lines o.lines (subst (AreEntries head) (sym o.whole) h) in
        let watches : (watched (events o.lines)).period w.slot ≡ Some n = ap (λ l. (watched l).period w.slot) o.met_is ∙ w.watches in
        let there : copy_at (events o.lines) w.slot ≡ Some w.copy = ap (λ l. copy_at l w.slot) o.met_is ∙ w.there in
        let is = (holds head c s o.lines entries).watches.each w.slot n watches in
        let same : is.copy ≡ w.copy = one_copy is.copy w.copy (sym is.there ∙ there) in
        let lt : n < shows_in (journal t (items_of t w.earlier)) = subst (λ l. n < shows_in (journal t (items_of t l))) o.met_is is.shown in
        let lasts = (all_go t w.later w.earlier n lt).1 in
        let kinds : kind ≡ w.copy.kind =
        kind_is
        ∙ sym (ap (λ l. (traits_in (journal t (items_of t l)) n).kind) w.whole) ∙ lasts
        ∙ sym (ap (λ l. (traits_in (journal t (items_of t l)) n).kind) o.met_is)
        ∙ is.kind ∙ ap (λ (x : GhostCopy). x.kind) same in
        record {
          later_lines = o.later_lines;
          lines = o.lines;
          whole = o.whole;
          seen = record {
            at = w.slot;
            watches = watches;
            copy = w.copy;
            there = there;
            kind_is = sym kinds;
            field = field;
            value_is = w.shows;
          };
        }

  later_had : (past later lines : List Entry) → later ++ lines ≡ past → (period kind f : ℕ) (value : ℤ)
      → HadValue (moment_of head (match_past lines) c) (record { period = period; kind = kind; field = f }) value
      → HadValue (moment_of head (match_past past) c) (record { period = period; kind = kind; field = f }) value
  later_had past later lines whole period kind f value had = record {
    later = match_past later ++ had.later;
    earlier = had.earlier;
    whole = append_assoc (match_past later) had.later had.earlier
        ∙ ap (λ (l : List BodyLine). match_past later ++ l) had.whole
        ∙ sym (match_parts later lines)
        ∙ ap match_past whole;
    there = had.there;
  }

-- ---- what a spectator shows

module _ (values : CopiesShowValues) (reads : Always AllShowReads) (in_order : EventsInOrder) (own : OwnListsHold) (head : Head) (c s : ℕ)
    (below : c < head.clients) (few : s < 16) (past : List Entry) (h : AreEntries head past) (honest : IsHonestAt head c (match_past past)) where
  abbrev now : RelayMoment
  now = record { head = head; client = c; past = past; spectator = s }

  module _ (at f : ℕ) (copy : GhostCopy) (told : FieldTold) (is : IsShownField now at f copy told) where
    abbrev k : Kept
    k = kept (t head c s) (items_of (t head c s) (events head c s past))

    told_is : IsFieldOf match_kinds f copy told.value
    told_is =
        field_of match_kinds f copy told.value
        (told_value (field_value match_kinds f copy)
        (option_map_or (is_newest (t head c s) k.course.steps f) (holder_at (t head c s) k.course.steps (undrained k) at) false) told is.shown)

    shows_reads : ShowsReads (t head c s) (steps head c s past) at copy
    shows_reads =
        reads (t head c s) (steps head c s past) (limits head c s below few past h honest) (fit head c s below few past h honest in_order own)
        (meet head c s below few past h honest) (clean head c s below few past h honest in_order own) at copy is.here

    level : IsReadLevel (t head c s) (steps head c s past) copy.kind shows_reads.period f (slice_index_or copy.levels f 0)
    level = shows_reads.levels f (slice_get_within copy.levels f told_is.level told_is.at)

    sooner : SeenSooner head c s past h shows_reads.period f level.spec copy.kind level.value
    sooner =
        seen_sooner head c s past h shows_reads.period f level.spec copy.kind level.value
        (shows_reads.kind ∙ kind_told (t head c s) (steps head c s past) shows_reads.period) level.field
        (read_shown (t head c s) table_none (events head c s past) (met_own head c s past) (holds head c s past h).own shows_reads.period f level.value level.read)

    so : WasSo head c s sooner.lines shows_reads.period f level.spec copy.kind level.value
    so =
        was_so head c s below values sooner.lines (fewer_all head sooner.later_lines sooner.lines (subst (AreEntries head) (sym sooner.whole) h))
        (honest_of_fewer head c sooner.later_lines sooner.lines (subst (λ l. IsHonestAt head c (match_past l)) (sym sooner.whole) honest))
        shows_reads.period f level.spec copy.kind level.value sooner.seen

    -- one value is shown for the other
    for_it : told.value ≡ shown_of level.spec (level_of level.spec so.had_value)
    for_it =
        let same : told_is.spec ≡ level.spec = one_spec told_is.spec level.spec (sym told_is.field ∙ level.field) in
        let has : told_is.level ≡ level_of level.spec level.value = sym (get_or_from_slice_get copy.levels f told_is.level 0 told_is.at) ∙ level.level_is in
        told_is.shows ∙ (λ j. shown_of (same j) (has j))
        ∙ ap (λ (v : ℤ). shown_of level.spec (level_of level.spec v)) so.value_is
        ∙ ap (shown_of level.spec) (again level.spec so.had_value (is_sound_field match_kinds table_none copy.kind f level.spec level.field))

    pub shows_had : ShowsHad now at copy.kind f told.value
    shows_had = record {
      watch = shows_reads.period;
      holds = shows_reads.holds;
      n = so.period;
      stood = record {
        later = sooner.later_lines;
        earlier = sooner.lines;
        whole = sooner.whole;
        at = so.at;
        watches = so.watches;
        holds = so.holds;
      };
      value = so.had_value;
      had = later_had head c s past sooner.later_lines sooner.lines sooner.whole so.period copy.kind f so.had_value so.had;
      shown_for = record { spec = level.spec; field = level.field; level = for_it };
    }

pub spectators_show : CopiesShowValues → Always AllShowReads → EventsInOrder → OwnListsHold → SpectatorsShowWhatWasSo
spectators_show values reads in_order own r before placed s ranges is lt honest =
    let few = ranges.spectators in
    shows_had values reads in_order own r.script.head r.client s ranges.client (omega (arith, few, lt))
    (past_of r.script.body placed.behind (reverse before)) (are_entries r before placed ranges is) honest
