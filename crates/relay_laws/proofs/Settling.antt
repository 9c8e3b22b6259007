-- What a spectator shows of a field that is marked as settled is what the relay's copy shows of it now.
use Rattle.std.proofs.Common.{◌≡◌, ◌∙◌, ℕ, ◌<◌, Bool, true, false, List, length, Option, Some, sym, ap, subst, arith}
use Rattle.std.specs.Prelude.{ℤ, pos, reverse, slice_get, option_map, unwrap_or}
use Rattle.std.specs.Option.{option_map_or}
use Rattle.std.proofs.lemmas.Option.{slice_get_within, get_or_from_slice_get}
use Rattle.quantised_fields.specs.declared.field.FieldSpec.{FieldSpec}
use Rattle.quantised_fields.specs.Levels.{level_of, shown_of}
use Rattle.ghost_masks.specs.Plan.{fields_of}
use Rattle.ghost_client.specs.declared.copy.GhostCopy.{GhostCopy}
use Rattle.ghost_client.specs.Copies.{copy_of}
use Rattle.ghost_client.specs.State.{field_value}
use Rattle.stream_manager.specs.Packets.{ghosts_seen}
use Rattle.stream_manager.specs.Client.{ghosts_came}
use Rattle.stream_manager.proofs.Packets.{shows-alike}
use Rattle.pair_copies.specs.pair_laws.Laws.{Always}
use Rattle.pair_copies.specs.Reads.{ShowNewest}
use Rattle.world_rules.specs.Kinds.{match_kinds}
use Rattle.match_script.specs.declared.types.Head.{Head}
use Rattle.match_report.specs.declared.copies.FieldTold.{FieldTold}
use Rattle.client_seat.specs.Told.{holder_at, is_newest}
use Rattle.own_lists.specs.Kept.{Kept, kept, undrained}
use Rattle.own_lists.specs.Past.{client_terms, kept_by, after}
use Rattle.own_lists.specs.Agreement.{OwnListsHold}
use Rattle.match_laws.specs.Laws.{EventsInOrder}
use Rattle.match_laws.specs.Values.{ShowsNewest, CopiesShowValues, SettledIsNewest, IsShownField as IsShownInMatch}
use Rattle.match_laws.proofs.FieldsTold.{IsFieldOf}
use Rattle.match_laws.proofs.ValuesNewest.{newest_of}
use Rattle.relay_script.specs.declared.entries.Entry.{Entry}
use Rattle.relay_model.specs.Watching.{watched, copy_at}
use Rattle.relay_model.specs.Items.{shown_at, items_of}
use Rattle.relay_model.proofs.Stretches.{IsWatched, HasSlot}
use Rattle.relay_report.specs.Met.{past_of, match_past, end_of, met}
use Rattle.relay_laws.specs.Moments.{RelayMoment}
use Rattle.relay_laws.specs.Shown.{IsShownField}
use Rattle.relay_laws.specs.Settled.{ShowsTheRelays, SettledShowsTheRelays}
use Rattle.relay_laws.proofs.Places.{AreEntries, are_entries}
use Rattle.relay_laws.proofs.Meeting.{table_none, met_packets, met_own, met_few, holds, copies_are, fit_at}
use Rattle.relay_laws.proofs.Match.{IsHonestAt, moment_of, shows, shows_newest}
use Rattle.relay_laws.proofs.Fields.{again, is_sound_field, field_of, a_told, told_value, told_mark, shows_some}
use Rattle.relay_laws.proofs.Newest.{right}
use Rattle.relay_laws.proofs.Marked.{HasNewest, has_newest}
use Rattle.relay_laws.proofs.Delivering.{t, limits, meet, clean, fit}

one_spec : (a b : FieldSpec) → ◌≡◌ {A = Option FieldSpec} (Some a) (Some b) → a ≡ b
one_spec a b e = cc (e)

module _ (values : CopiesShowValues) (settled : SettledIsNewest) (newest : Always ShowNewest) (in_order : EventsInOrder) (own : OwnListsHold) (head : Head) (c s : ℕ)
    (below : c < head.clients) (few : s < 16) (past : List Entry) (h : AreEntries head past) (honest : IsHonestAt head c (match_past past)) where
  abbrev now : RelayMoment
  now = record { head = head; client = c; past = past; spectator = s }

  module _ (at f : ℕ) (copy : GhostCopy) (told : FieldTold) (is : IsShownField now at f copy told) (mark : told.settled ≡ true) where
    abbrev k : Kept
    k = kept (t head c s below few past h honest) (items_of (t head c s below few past h honest) (met head c s past))

    abbrev is_marked : Bool
    is_marked =
        option_map_or (is_newest (t head c s below few past h honest) k.course.steps f)
        (holder_at (t head c s below few past h honest) k.course.steps (undrained k) at) false

    told_is : IsFieldOf match_kinds f copy told.value
    told_is = field_of match_kinds f copy told.value (told_value (field_value match_kinds f copy) is_marked told is.shown)

    has : HasNewest (t head c s below few past h honest) table_none (items_of (t head c s below few past h honest) (met head c s past)) (holds head c s past h).own
        (newest (t head c s below few past h honest) k.course.steps (limits head c s below few past h honest)
        (fit head c s below few past h honest in_order own) (meet head c s below few past h honest) (clean head c s below few past h honest in_order own)) at copy f
    has =
        has_newest (t head c s below few past h honest) table_none (items_of (t head c s below few past h honest) (met head c s past)) (holds head c s past h).own
        (newest (t head c s below few past h honest) k.course.steps (limits head c s below few past h honest)
        (fit head c s below few past h honest in_order own) (meet head c s below few past h honest) (clean head c s below few past h honest in_order own))
        at copy f is.here (told_mark (field_value match_kinds f copy) is_marked told is.shown ∙ mark)

    place : HasSlot (watched (met head c s past)) has.n
    place = (holds head c s past h).watches.all has.n has.up.0 has.up.1

    there : IsWatched k.course.steps (copy_at (met head c s past)) place.slot has.n
    there = (holds head c s past h).watches.each place.slot has.n place.watches

    kind_is : there.copy.kind ≡ copy.kind
    kind_is = sym there.kind ∙ sym has.kind

    field : slice_get (fields_of match_kinds there.copy.kind) f ≡ Some has.spec
    field = ap (λ (x : ℕ). slice_get (fields_of match_kinds x) f) kind_is ∙ has.field

    within : f < length there.copy.levels
    within =
        let range = (fit_at match_kinds (met head c s past) (copies_are head c s past) place.slot there.copy there.there).range in
        let v = shows_some match_kinds there.copy range f has.spec field in
        let p = field_of match_kinds f there.copy v.0 v.1 in
        slice_get_within there.copy.levels f p.level p.at

    value_is : newest_of k.values has.n f ≡ shown_at match_kinds there.copy f
    value_is =
        (right (t head c s below few past h honest) table_none (met head c s past) (copies_are head c s past) (met_own head c s past) (met_few head c s past h)
        place.slot has.n there.copy place.watches there.there).each f within

    told_as : told.value ≡ shown_of has.spec (level_of has.spec (shown_at match_kinds there.copy f))
    told_as =
        let same : told_is.spec ≡ has.spec = one_spec told_is.spec has.spec (sym told_is.field ∙ has.field) in
        let level : told_is.level ≡ level_of has.spec (newest_of k.values has.n f) = sym (get_or_from_slice_get copy.levels f told_is.level 0 told_is.at) ∙ has.level in
        told_is.shows ∙ (λ j. shown_of (same j) (level j)) ∙ ap (λ (v : ℤ). shown_of has.spec (level_of has.spec v)) value_is

    here : copy_of (ghosts_came (end_of head c (match_past past))) place.slot ≡ Some there.copy
    here = sym (ap (λ l. copy_of l place.slot) (ap ghosts_seen (met_packets head c s past) ∙ (shows-alike (end_of head c (match_past past))).ghosts)) ∙ there.there

    same : (shown : FieldTold) → IsShownInMatch (moment_of head (match_past past) c) place.slot f there.copy shown → told.value ≡ shown.value
    same shown x =
        let m = kept_by head (after head (match_past past)) c in
        let mark_there = option_map_or (is_newest (client_terms head c) m.course.steps f) (holder_at (client_terms head c) m.course.steps (undrained m) place.slot) false in
        let value : field_value match_kinds f there.copy ≡ Some shown.value = told_value (field_value match_kinds f there.copy) mark_there shown x.shown in
        let is_so : shown_at match_kinds there.copy f ≡ shown.value = ap (λ (o : Option ℤ). unwrap_or o (pos 0)) value in
        let so = shows head c below past h values honest place.slot f there.copy shown x in
        let spec : so.shown_for.spec ≡ has.spec = one_spec so.shown_for.spec has.spec (sym so.shown_for.field ∙ field) in
        let for_it : shown.value ≡ shown_of has.spec (level_of has.spec so.value) = so.shown_for.level ∙ (λ j. shown_of (spec j) (level_of (spec j) so.value)) in
        told_as ∙ ap (λ (v : ℤ). shown_of has.spec (level_of has.spec v)) (is_so ∙ for_it)
        ∙ ap (shown_of has.spec) (again has.spec so.value (is_sound_field match_kinds table_none copy.kind f has.spec has.field)) ∙ sym for_it

    -- what the relay's copy shows of the field
    abbrev relay_mark : Bool
    relay_mark =
        let m = kept_by head (after head (match_past past)) c in
        option_map_or (is_newest (client_terms head c) m.course.steps f) (holder_at (client_terms head c) m.course.steps (undrained m) place.slot) false

    relay_value : (v : ℤ) × (field_value match_kinds f there.copy ≡ Some v)
    relay_value =
        shows_some match_kinds there.copy
        (fit_at match_kinds (met head c s past) (copies_are head c s past) place.slot there.copy there.there).range f has.spec field

    relay_shows : IsShownInMatch (moment_of head (match_past past) c) place.slot f there.copy (a_told relay_mark relay_value.0)
    relay_shows = record { here = here; shown = ap (option_map (a_told relay_mark)) relay_value.1 }

    pub shows_the_relays : ShowsTheRelays now at copy.kind f told.value
    shows_the_relays = record {
      watch = has.n;
      holds = has.holds;
      there = place.slot;
      watches = place.watches;
      copy = there.copy;
      same_kind = kind_is;
      shown = a_told relay_mark relay_value.0;
      is_shown = relay_shows;
      same = same (a_told relay_mark relay_value.0) relay_shows;
      newest = λ is_settled.
          subst (λ (v : ℤ). ShowsNewest (moment_of head (match_past past) c) place.slot copy.kind f v) (sym (same (a_told relay_mark relay_value.0) relay_shows))
          (subst (λ (n : ℕ). ShowsNewest (moment_of head (match_past past) c) place.slot n f relay_value.0) kind_is
          (shows_newest head c below past h settled honest place.slot f there.copy (a_told relay_mark relay_value.0) relay_shows is_settled));
    }

pub settled_shows : CopiesShowValues → SettledIsNewest → Always ShowNewest → EventsInOrder → OwnListsHold → SettledShowsTheRelays
settled_shows values settled newest in_order own r before placed s ranges is lt honest =
    let few = ranges.spectators in
    shows_the_relays values settled newest in_order own r.script.head r.client s ranges.client (omega (arith, few, lt))
    (past_of r.script.body placed.behind (reverse before)) (are_entries r before placed ranges is) honest
