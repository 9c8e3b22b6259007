-- What a report tells of a copy's fields: values that the object had, the newest of those that are settled; and what recovers.
use Rattle.std.proofs.Common.{◌≡◌, ℕ, ℤ, ◌<◌, true, false, List, [], ◌∷◌, Option, Some, None, length, refl, sym, ap, ◌∙◌, subst, inl, inr}
use Rattle.std.specs.Prelude.{◌⊎◌, map, slice_get, slice_index_or}
use Rattle.std.specs.Option.{option_map_or}
use Rattle.std.specs.List.{AllByRecursion, list_any}
use Rattle.std.proofs.lemmas.List.Elements.{All-from_recursion}
use Rattle.std.proofs.lemmas.Option.{slice_get-get_or, slice_get_within}
use Rattle.tn_types.specs.declared.choices.Drain.{Drain}
use Rattle.tn_types.specs.BitWords.{has_bit}
use Rattle.quantised_fields.specs.declared.field.FieldSpec.{FieldSpec}
use Rattle.quantised_fields.specs.Levels.{level_of}
use Rattle.ghost_model.specs.Ghosts.{GhostEvent, slot, carries, unjudged, is_due}
use Rattle.ghost_masks.specs.Plan.{kind_of, fields_of, is_slot}
use Rattle.ghost_client.specs.declared.copy.GhostCopy.{GhostCopy}
use Rattle.ghost_client.specs.Copies.{copy_of}
use Rattle.ghost_client.specs.State.{field_value}
use Rattle.stream_manager.specs.Limits.{Terms}
use Rattle.stream_manager.specs.Server.{ghost_log}
use Rattle.stream_manager.specs.Client.{ghosts_came}
use Rattle.client_seat.specs.pair_core.History.{PairStep, history}
use Rattle.client_seat.specs.pair_core.Conditions.{IsHonest}
use Rattle.client_seat.specs.pair_core.Conditions.{StepFits}
use Rattle.pair_copies.specs.pair_laws.Laws.{Always}
use Rattle.pair_copies.proofs.Below.pair_laws.Good.{AreGood}
use Rattle.pair_copies.specs.Reads.{AllShowReads, ShowNewest, IsNewest, last_read}
use Rattle.match_script.specs.declared.types.BodyLine.{BodyLine}
use Rattle.match_script.specs.declared.types.Head.{Head}
use Rattle.match_script.specs.declared.types.Script.{Script}
use Rattle.match_script.specs.Ranges.{HasRanges}
use Rattle.match_report.specs.declared.copies.FieldTold.{FieldTold}
use Rattle.world_rules.specs.Kinds.{match_kinds}
use Rattle.client_scope.specs.declared.period.ShownPeriod.{ShownPeriod}
use Rattle.client_scope.specs.Scans.{shown}
use Rattle.client_seat.specs.own_lists.pair_steps.Steps.{up_in, traits_in}
use Rattle.client_seat.specs.own_lists.Kept.{Kept, undrained}
use Rattle.client_seat.specs.own_lists.Past.{client_terms, kept_by, after}
use Rattle.client_seat.specs.own_lists.Agreement.{AreLines, OwnListsHold}
use Rattle.client_seat.proofs.Below.own_lists.Below.pair_steps.Journals.{up_to, kind_told}
use Rattle.client_seat.proofs.Below.own_lists.Meeting.{are_met}
use Rattle.client_seat.proofs.Below.own_lists.KeptValues.{own_fields}
use Rattle.client_seat.proofs.Below.own_lists.Standing.{IsShownIn, up_are_shown, mapped_all}
use Rattle.client_seat.specs.Told.{holder_at, is_newest}
use Rattle.match_laws.specs.Laws.{first, journal_of}
use Rattle.match_laws.specs.Values.{ClientMoment, HasValue, HadValue, IsShownField, IsShownFor, ShowsHad, ShowsNewest, IsRecovered, FieldsRecover, AllRecover, HasLevel, CopiesShowValues, SettledIsNewest, ChangesRecover}
use Rattle.match_laws.proofs.InOrder.{are_lines, terms_fit, are_good}
use Rattle.match_laws.proofs.FieldsTold.{field-of, shown-for, IsToldAs, told-as, found, slot-is, IsSettledIn, settled-in}
use Rattle.match_laws.proofs.ValuesNewest.{newest_of}
use Rattle.match_laws.proofs.ValuesTold.{IsTold, all_told}
use Rattle.match_laws.proofs.ValuesHad.{moment, spot, listed, agreed, has_newest, was_had}

good-fits : (t : Terms) (steps : List PairStep) → AreGood t steps → AllByRecursion StepFits steps
good-fits t [] good = tt
good-fits t (step ∷ steps) good = (good.0.ranges, good-fits t steps good.1)

-- ---- one client after some lines

module _ (own : OwnListsHold) (head : Head) (c : ℕ) (below : c < head.clients) (past : List BodyLine) (lines : AreLines head past) where
  abbrev t : Terms
  t = client_terms head c

  abbrev here_now : ClientMoment
  here_now = moment head past c

  abbrev k : Kept
  k = kept_by head (after head past) c

  abbrev steps : List PairStep
  steps = k.course.steps

  abbrev log : List GhostEvent
  log = ghost_log (history t steps).server

  kind-is : (kind n : ℕ) → kind ≡ kind_of log n → (traits_in steps n).kind ≡ kind
  kind-is kind n is = sym (kind_told t steps n) ∙ sym is

  pub had : AllShowReads t steps → (at : ℕ) (copy : GhostCopy) (f : ℕ) (told : FieldTold) → IsShownField here_now at f copy told
      → ShowsHad here_now at copy.kind f told.value
  had reads at copy f told is =
      let a = told-as (field_value match_kinds f copy)
      (option_map_or (is_newest t steps f) (holder_at t steps (undrained k) at) false) told is.shown in
      let p = field-of match_kinds f copy told.value a.value in
      let r = reads at copy is.here in
      let l = r.levels f (slice_get_within copy.levels f p.level p.at) in
      let h = was_had own head c below past lines r.period f l.value l.read in
      record {
        n = r.period;
        holds = r.holds;
        value = l.value;
        had = subst (λ kind. HadValue here_now (spot r.period kind f) l.value) (kind-is copy.kind r.period r.kind) h.had;
        shown_for = shown-for f copy told.value l.value l.spec l.field l.level_is a.value;
      }

  -- ---- the newest

  -- the client shows the last read of a field, which is the newest value, or doesn't yet
  abbrev IsKnown : ℕ → ℕ → Type 0
  IsKnown n f =
      (is_due log n f ≡ true) ⊎ ((has_bit (k.written n) f ≡ true) ⊎ ((list_any (carries n f) (unjudged log) ≡ true)
      ⊎ (IsNewest t steps n f × (last_read steps n f ≡ Some (newest_of k.values n f)))))

  newest-level : (n f : ℕ) → IsShownIn steps n → f < length (own_fields t steps n) → ShowNewest t steps → IsKnown n f
  newest-level n f up field newest = go (all_told t refl ((after head past).own c) (listed own head c below past lines) n f up field)
      (newest n f (up_to t steps n up.0 up.1))
    where
      go : IsTold t k n f → (is_due log n f ≡ true) ⊎ ((list_any (carries n f) (unjudged log) ≡ true) ⊎ IsNewest t steps n f)
          → IsKnown n f
      go (inl bit) there = inr (inl bit)
      go (inr (inl due)) there = inl due
      go (inr (inr last)) (inl due) = inl due
      go (inr (inr last)) (inr (inl carried)) = inr (inr (inl carried))
      go (inr (inr last)) (inr (inr here)) = inr (inr (inr (here, last)))

  -- the level that the copy has then
  record HasNewestLevel (n f : ℕ) (here : IsNewest t steps n f) : Type 0 where
    pub spec : FieldSpec
    pub field : slice_get (fields_of match_kinds here.copy.kind) f ≡ Some spec
    pub within : f < length here.copy.levels
    pub level : slice_index_or here.copy.levels f 0 ≡ level_of spec (newest_of k.values n f)

  level-is : (n f : ℕ) → f < length (own_fields t steps n) → (here : IsNewest t steps n f)
      → last_read steps n f ≡ Some (newest_of k.values n f) → HasNewestLevel n f here
  level-is n f field here last =
      let fields : length here.copy.levels ≡ length (own_fields t steps n) = here.fields
      ∙ ap (λ kind. length (fields_of match_kinds kind)) (sym (kind-is here.copy.kind n here.kind)) in
      let within : f < length here.copy.levels = subst (λ m. f < m) (sym fields) field in
      let l = here.level within in
      let same : l.value ≡ newest_of k.values n f = values-same (sym l.last ∙ last) in
      record { spec = l.spec; field = l.field; within = within; level = l.level_is ∙ ap (level_of l.spec) same }
    where
      values-same : {a b : ℤ} → Some a ≡ Some b → a ≡ b
      values-same {a} {b} e = cc

  -- ---- what is settled

  -- of a period that may be drained
  abbrev IsUpDrain : Drain → Type 0
  IsUpDrain d = IsShownIn steps d.n × (d.bits ≡ k.written d.n)

  all-up : (ns : List ℕ) → AllByRecursion (IsShownIn steps) ns
      → AllByRecursion IsUpDrain (map (λ n. record { n = n; bits = k.written n }) ns)
  all-up [] all = tt
  all-up (n ∷ ns) all = ((all.0, refl), all-up ns all.1)

  own-field : (d : Drain) (f : ℕ) → IsSettledIn t steps d f → f < length (own_fields t steps d.n)
  own-field d f s = subst (λ kind. f < length (fields_of match_kinds kind)) (kind_told t steps d.n) s.field

  pub settled : ShowNewest t steps → (at : ℕ) (copy : GhostCopy) (f : ℕ) (told : FieldTold) → IsShownField here_now at f copy told
      → told.settled ≡ true → ShowsNewest here_now at copy.kind f told.value
  settled newest at copy f told is mark = by-holder (holder_at t steps (undrained k) at) refl (a.mark ∙ mark)
    where
      a : IsToldAs (field_value match_kinds f copy) (option_map_or (is_newest t steps f) (holder_at t steps (undrained k) at) false) told
      a = told-as (field_value match_kinds f copy) (option_map_or (is_newest t steps f) (holder_at t steps (undrained k) at) false) told is.shown

      -- the copy is the one in the slot
      of-copy : (d : Drain) → IsUpDrain d → slot log d.n ≡ Some at → IsSettledIn t steps d f → (there : IsNewest t steps d.n f)
          → last_read steps d.n f ≡ Some (newest_of k.values d.n f)
          → ShowsNewest here_now at copy.kind f told.value
      of-copy d up holds s there last =
          let at_is : there.at ≡ at = slots-same (sym there.holds ∙ holds) in
          let same : there.copy ≡ copy = copies-same (sym there.here ∙ ap (λ x. copy_of (ghosts_came (history t steps).client) x) at_is
          ∙ is.here) in
          let l = level-is d.n f (own-field d f s) there last in
          let value : field_value match_kinds f there.copy ≡ Some told.value = ap (field_value match_kinds f) same ∙ a.value in
          record {
            n = d.n;
            holds = holds;
            value = newest_of k.values d.n f;
            has = subst (λ kind. HasValue here_now (spot d.n kind f) (newest_of k.values d.n f)) (kind-is there.copy.kind d.n there.kind
                ∙ ap (λ (x : GhostCopy). x.kind) same)
                (has_newest own head c below past lines d.n f up.0 (own-field d f s));
            shown_for = subst (λ (x : GhostCopy). IsShownFor x.kind f (newest_of k.values d.n f) told.value) same
                (shown-for f there.copy told.value (newest_of k.values d.n f) l.spec l.field l.level value);
          }
        where
          slots-same : {a b : ℕ} → Some a ≡ Some b → a ≡ b
          slots-same {a} {b} e = cc

          copies-same : {a b : GhostCopy} → Some a ≡ Some b → a ≡ b
          copies-same {a} {b} e = cc

      by-newest : (d : Drain) → IsUpDrain d → slot log d.n ≡ Some at → IsSettledIn t steps d f → IsKnown d.n f
          → ShowsNewest here_now at copy.kind f told.value
      by-newest d up holds s (inl due) = absurd (s.due due)
      by-newest d up holds s (inr (inl bit)) = absurd (s.written (subst (λ bits. has_bit bits f ≡ true) (sym up.1) bit))
      by-newest d up holds s (inr (inr (inl carried))) = absurd (s.carried carried)
      by-newest d up holds s (inr (inr (inr there))) = of-copy d up holds s there.0 there.1

      by-holder : (o : Option Drain) → holder_at t steps (undrained k) at ≡ o → option_map_or (is_newest t steps f) o false ≡ true
          → ShowsNewest here_now at copy.kind f told.value
      by-holder None is e = absurd (cc)
      by-holder (Some d) is e =
          let d_is = found IsUpDrain (λ x. is_slot at (slot log x.n)) (undrained k) d (all-up (up_in steps) (up_are_shown steps)) is in
          let s = settled-in t steps d f e in
          by-newest d d_is.0 (slot-is at (slot log d.n) d_is.1) s (newest-level d.n f d_is.0.0 (own-field d f s) newest)

  -- ---- recovery

  one-recovers : ShowNewest t steps → (n : ℕ) → IsShownIn steps n → FieldsRecover here_now n (kind_of log n)
  one-recovers newest n up f lt = record {
    value = newest_of k.values n f;
    has = subst (λ kind. HasValue here_now (spot n kind f) (newest_of k.values n f)) same
        (has_newest own head c below past lines n f up field);
    recovered = go (newest-level n f up field newest);
  }
    where
      same : (traits_in steps n).kind ≡ kind_of log n
      same = sym (kind_told t steps n)

      field : f < length (own_fields t steps n)
      field = subst (λ kind. f < length (fields_of match_kinds kind)) (kind_told t steps n) lt

      there : (here : IsNewest t steps n f) → last_read steps n f ≡ Some (newest_of k.values n f)
          → HasLevel here_now (spot n (kind_of log n) f) (newest_of k.values n f)
      there here last =
          let l = level-is n f field here last in
          record {
            at = here.at;
            holds = here.holds;
            copy = here.copy;
            here = here.here;
            same_kind = here.kind;
            spec = l.spec;
            field = subst (λ x. slice_get (fields_of match_kinds x) f ≡ Some l.spec) here.kind l.field;
            level = slice_get-get_or here.copy.levels f 0 l.within ∙ ap (λ (x : ℕ). Some x) l.level;
          }

      go : IsKnown n f → IsRecovered here_now (spot n (kind_of log n) f) (newest_of k.values n f)
      go (inl due) = inl due
      go (inr (inl bit)) = inr (inl bit)
      go (inr (inr (inl carried))) = inr (inr (inl carried))
      go (inr (inr (inr here))) = inr (inr (inr (there here.0 here.1)))

  all-recover : ShowNewest t steps → (ps : List ShownPeriod) → AllByRecursion (λ (p : ShownPeriod). IsShownIn steps p.n) ps
      → AllByRecursion (λ (p : ShownPeriod). FieldsRecover here_now p.n (kind_of log p.n)) ps
  all-recover newest [] up = tt
  all-recover newest (p ∷ ps) up = (one-recovers newest p.n up.0, all-recover newest ps up.1)

  pub recover : ShowNewest t steps → AllRecover here_now
  recover newest =
      let scans = (after head past).scans c in
      let up = subst (AllByRecursion (IsShownIn steps)) (agreed own head c below past lines).up (up_are_shown steps) in
      All-from_recursion (λ (p : ShownPeriod). FieldsRecover here_now p.n (kind_of log p.n)) (shown scans)
      (all-recover newest (shown scans) (mapped_all (IsShownIn steps) (λ (p : ShownPeriod). p.n) (shown scans) up))

-- ---- at every line

module _ (own : OwnListsHold) where
  -- what holds of every connection holds of an honest client's
  at-line : (P : Terms → List PairStep → Type 0) → Always P → (s : Script) (c n : ℕ) → HasRanges s → c < s.head.clients
      → IsHonest (journal_of s c n)
      → P (client_terms s.head c) (journal_of s c n)
  at-line P law s c n h l honest =
      let good = are_good own s c n h l honest in
      let items = (after s.head (first n s)).own c in
      law (client_terms s.head c) (journal_of s c n) (terms_fit s.head c h.head l)
      (good-fits (client_terms s.head c) (journal_of s c n) good)
      (are_met (client_terms s.head c) refl items (own s.head (first n s) c (are_lines s n h) l).0) honest

  pub copies_had : Always AllShowReads → CopiesShowValues
  copies_had law s c n h l honest at f copy told is =
      had own s.head c l (first n s) (are_lines s n h) (at-line AllShowReads law s c n h l honest) at copy f told is

  pub settled_newest : Always ShowNewest → SettledIsNewest
  settled_newest law s c n h l honest at f copy told is mark =
      settled own s.head c l (first n s) (are_lines s n h) (at-line ShowNewest law s c n h l honest) at copy f told is mark

  pub changes_recover : Always ShowNewest → ChangesRecover
  changes_recover law s c n h l honest = recover own s.head c l (first n s) (are_lines s n h) (at-line ShowNewest law s c n h l honest)
