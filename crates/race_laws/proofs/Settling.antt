-- A field that the text of a legal race marks as settled shows the newest value.
use Rattle.std.proofs.Common.{◌≡◌, ℕ, ℤ, ◌+◌, ◌-◌, ◌<◌, Bool, true, false, List, [], ◌∷◌, Option, Some, None, length, refl, sym, ap, ◌∙◌, subst, arith, inl, inr}
use Rattle.std.specs.Prelude.{◌⊎◌, map, slice_get, option_map, nat_lt, if◌then◌else◌}
use Rattle.std.specs.Option.{option_map_or}
use Rattle.std.specs.List.{AllByRecursion, list_any}
use Rattle.std.proofs.lemmas.Bool.{and_parts, lt-ltb}
use Rattle.std.proofs.lemmas.Option.{slice_get-get_or, slice_get_within}
use Rattle.tn_types.specs.declared.choices.Drain.{Drain}
use Rattle.tn_types.specs.declared.choices.Read.{Read}
use Rattle.tn_types.specs.BitWords.{has_bit}
use Rattle.dirty_lanes.specs.Words.{Words, mask_at}
use Rattle.ghost_model.specs.Ghosts.{GhostEvent, slot, carries, unjudged, is_due}
use Rattle.ghost_masks.specs.Plan.{kind_of, fields_of, is_slot}
use Rattle.ghost_client.specs.declared.copy.GhostCopy.{GhostCopy}
use Rattle.ghost_client.specs.Copies.{copy_of}
use Rattle.ghost_client.specs.State.{field_value}
use Rattle.stream_manager.specs.Limits.{Terms, AreTerms}
use Rattle.stream_manager.specs.Server.{ghost_log}
use Rattle.stream_manager.specs.Client.{ghosts_came}
use Rattle.pair_core.specs.History.{PairStep, history}
use Rattle.pair_copies.specs.pair_laws.Laws.{Always}
use Rattle.pair_copies.specs.Reads.{ShowNewest, IsNewest}
use Rattle.pair_copies.specs.Reads as copies
use Rattle.pair_steps.specs.Steps.{up_in}
use Rattle.pair_periods.proofs.Agreeing.{up-listed}
use Rattle.pair_steps.proofs.Journals.{up_to}
use Rattle.match_laws.proofs.Below.own_lists.Standing.{IsShownIn, up_are_shown}
use Rattle.match_script.specs.declared.types.Script.{Script}
use Rattle.match_report.specs.declared.copies.FieldTold.{FieldTold}
use Rattle.world_rules.specs.Kinds.{match_kinds}
use Rattle.match_laws.specs.client_seat.Told.{holder_at, is_newest}
use Rattle.match_laws.specs.Values.{IsShownFor}
use Rattle.match_laws.proofs.FieldsTold.{IsToldAs, told-as, found, slot-is, shown-for, IsSettledIn, settled-in}
use Rattle.match_laws.proofs.InOrder.{terms_fit}
use Rattle.legal_race.specs.race_history.History.{version_told, newest, fields_told}
use Rattle.legal_race.specs.race_reads.Reads.{object_of, ReadStands, IsCurrent, IsNewest as IsNewestRead, IsMarked, IsDue}
use Rattle.legal_race.specs.race_reads.Reads as races
use Rattle.legal_race.specs.race_reads.Legal.{reads_of, is_field_due, AreLegalReads, IsPeriodCurrent}
use Rattle.legal_race.proofs.Below.race_reads.Joining.{in_fields, told_object}
use Rattle.legal_race.specs.race_text.Showing.{word_of, left_of, left_over}
use Rattle.legal_race.specs.race_history.kept_pair.Kept.{terms_in}
use Rattle.legal_race.specs.race_history.declared.race.Race.{Race}
use Rattle.legal_race.specs.race_history.declared.race.RaceClient.{RaceClient}
use Rattle.legal_race.specs.Legal.{IsLegal}
use Rattle.race_laws.specs.Settled.{steps_of, IsShownField, HasNewest, ShowsNewest, SettledShowsNewest}
use Rattle.race_laws.proofs.LastReads.{last_of, version_is, value_is, last_holds}

-- ---- what is left in the words at the end

-- a period that is up, with the word of its object
abbrev IsLeft : Words → ℕ → List ℕ → List PairStep → Drain → Type 0
IsLeft words c objects steps d = IsShownIn steps d.n × (d.bits ≡ word_of words c (slice_get objects d.n))

all-left : (words : Words) (c : ℕ) (objects : List ℕ) (steps : List PairStep) (ns : List ℕ) → AllByRecursion (IsShownIn steps) ns
    → AllByRecursion (IsLeft words c objects steps) (map (left_of words c objects) ns)
all-left words c objects steps [] all = tt
all-left words c objects steps (n ∷ ns) all = ((all.0, refl), all-left words c objects steps ns all.1)

-- the word of an object that the words have
word-is : (words : Words) (c object : ℕ) → object < words.objects → word_of words c (Some object) ≡ mask_at words c object
word-is words c object lt = by (nat_lt object words.objects) (lt-ltb object words.objects lt)
  where
    by : (b : Bool) → b ≡ true → (if b then mask_at words c object else 0) ≡ mask_at words c object
    by b e = ap (λ x. if x then mask_at words c object else 0) e

-- ---- one client

module _ (s : Script) (race : Race) (c : ℕ) (client : RaceClient) (legal : IsLegal s race) (reads : AreLegalReads race.values race.words c (terms_in client.pair) client.pair.steps client.objects)
    (kinds : (terms_in client.pair).kinds ≡ match_kinds) where
  abbrev t : Terms
  t = terms_in client.pair

  abbrev steps : List PairStep
  steps = steps_of client

  abbrev log : List GhostEvent
  log = ghost_log (history t steps).server

  -- a read of the field stands, was the last one, and has this value
  record IsLastRead (n f : ℕ) (value : ℤ) : Type 0 where
    pub read : Read
    pub stands : ReadStands race.values client.objects read
    pub period : read.n ≡ n
    pub field : read.field ≡ f
    pub version_is : races.last_read (reads_of client.pair.steps) n f ≡ Some read.version
    pub value_is : read.value ≡ value

  last-read : (n f : ℕ) (value : ℤ) → copies.last_read steps n f ≡ Some value → IsLastRead n f value
  last-read n f value is = by (last_of (reads_of client.pair.steps) n f) refl (sym (value_is client.pair.steps n f) ∙ is)
    where
      by : (o : Option Read) → last_of (reads_of client.pair.steps) n f ≡ o → option_map (λ (r : Read). r.value) o ≡ Some value → IsLastRead n f value
      by None found e = absurd (cc)
      by (Some r) found e =
          let of = last_holds (ReadStands race.values client.objects) (reads_of client.pair.steps) n f r reads.stand found in
          record {
            read = r;
            stands = of.holds;
            period = of.period;
            field = of.field;
            version_is = version_is (reads_of client.pair.steps) n f ∙ ap (option_map (λ (x : Read). x.version)) found;
            value_is = cc;
          }

  -- a field that was read last with this value, and is neither marked nor due, has no newer one
  newest-value : (d : Drain) (f : ℕ) (value : ℤ) → IsLeft race.words c client.objects steps d → IsSettledIn t steps d f
      → copies.last_read steps d.n f ≡ Some value → HasNewest race.values client d.n f value
  newest-value d f value left settled is =
      by (up.each f (in_fields (fields_told race.values object) f (r.read.version - 1) r.read.value stands))
    where
      r : IsLastRead d.n f value
      r = last-read d.n f value is

      object : ℕ
      object = object_of client.objects d.n

      stands : version_told race.values object f (r.read.version - 1) ≡ Some r.read.value
      stands = (λ j. version_told race.values (object_of client.objects (sym r.period j)) (sym r.field j) (r.read.version - 1)) ∙ r.stands.value

      up : IsPeriodCurrent race.values race.words c t client.pair.steps client.objects d.n
      up = reads.current d.n (up-listed t steps d.n (up_to t steps d.n left.0.0 left.0.1))

      begun : slice_get client.objects d.n ≡ Some object
      begun = slice_get-get_or client.objects d.n 0 up.shown

      bits-are : d.bits ≡ mask_at race.words c object
      bits-are =
          let f-lt = in_fields (fields_told race.values object) f (r.read.version - 1) r.read.value stands in
          let o-lt = told_object race.values object f f-lt in
          let words = legal.word_objects in
          left.1 ∙ ap (word_of race.words c) begun ∙ word-is race.words c object (omega (arith, o-lt, words))

      by : IsCurrent race.values (mask_at race.words c object) (is_field_due t steps d.n f) (races.last_read (reads_of client.pair.steps) d.n f) object f
          → HasNewest race.values client d.n f value
      by (IsNewestRead e) =
          let same : Some r.read.version ≡ Some (newest race.values object f + 1) = sym r.version_is ∙ e in
          let version : r.read.version ≡ newest race.values object f + 1 = cc in
          let at : r.read.version - 1 ≡ newest race.values object f = omega (arith, version) in
          record {
            object = object;
            begun = begun;
            value_is = ap (version_told race.values object f) (sym at) ∙ stands ∙ ap (λ (v : ℤ). Some v) r.value_is;
          }
      by (IsMarked bit) = absurd (settled.written (ap (λ b. has_bit b f) bits-are ∙ bit))
      by (IsDue due) = absurd (settled.due (and_parts (nat_lt f (length (fields_of t.kinds (kind_of log d.n)))) (is_due log d.n f) due).1)

  -- the copy is the one in the slot of a period that is settled
  of-copy : (at f : ℕ) (copy : GhostCopy) (told : FieldTold) → IsShownField race c client at f copy told → field_value t.kinds f copy ≡ Some told.value
      → (d : Drain) → IsLeft race.words c client.objects steps d → slot log d.n ≡ Some at → IsSettledIn t steps d f → IsNewest t steps d.n f
      → ShowsNewest race.values client at copy.kind f told.value
  of-copy at f copy told is value d left holds settled there =
      let at_is : there.at ≡ at = slots-same (sym there.holds ∙ holds) in
      let same : there.copy ≡ copy = copies-same (sym there.here ∙ ap (λ x. copy_of (ghosts_came (history t steps).client) x) at_is ∙ is.here) in
      let within : f < length there.copy.levels =
      subst (λ m. f < m) (sym there.fields) (subst (λ kind. f < length (fields_of t.kinds kind)) (sym there.kind) settled.field) in
      let l = there.level within in
      let at_kinds : field_value match_kinds f there.copy ≡ Some told.value = ap (λ k. field_value k f there.copy) (sym kinds) ∙ ap (field_value t.kinds f) same ∙ value in
      let spec_is : slice_get (fields_of match_kinds there.copy.kind) f ≡ Some l.spec = ap (λ k. slice_get (fields_of k there.copy.kind) f) (sym kinds) ∙ l.field in
      record {
        n = d.n;
        holds = holds;
        value = l.value;
        has = newest-value d f l.value left settled l.last;
        shown_for = subst (λ (x : GhostCopy). IsShownFor x.kind f l.value told.value) same
            (shown-for f there.copy told.value l.value l.spec spec_is l.level_is at_kinds);
      }
    where
      slots-same : {a b : ℕ} → Some a ≡ Some b → a ≡ b
      slots-same {a} {b} e = cc

      copies-same : {a b : GhostCopy} → Some a ≡ Some b → a ≡ b
      copies-same {a} {b} e = cc

  shows : ShowNewest t steps → (at f : ℕ) (copy : GhostCopy) (told : FieldTold) → IsShownField race c client at f copy told
      → told.settled ≡ true → ShowsNewest race.values client at copy.kind f told.value
  shows law at f copy told is mark = by-holder (holder_at t steps left at) refl (a.mark ∙ mark)
    where
      left : List Drain
      left = left_over race.words c client.objects steps

      a : IsToldAs (field_value t.kinds f copy) (option_map_or (is_newest t steps f) (holder_at t steps left at) false) told
      a = told-as (field_value t.kinds f copy) (option_map_or (is_newest t steps f) (holder_at t steps left at) false) told is.shown

      by-newest : (d : Drain) → IsLeft race.words c client.objects steps d → slot log d.n ≡ Some at → IsSettledIn t steps d f
          → (is_due log d.n f ≡ true) ⊎ ((list_any (carries d.n f) (unjudged log) ≡ true) ⊎ IsNewest t steps d.n f)
          → ShowsNewest race.values client at copy.kind f told.value
      by-newest d is_left holds s (inl due) = absurd (s.due due)
      by-newest d is_left holds s (inr (inl carried)) = absurd (s.carried carried)
      by-newest d is_left holds s (inr (inr there)) = of-copy at f copy told is a.value d is_left holds s there

      by-holder : (o : Option Drain) → holder_at t steps left at ≡ o → option_map_or (is_newest t steps f) o false ≡ true
          → ShowsNewest race.values client at copy.kind f told.value
      by-holder None at_none e = absurd (cc)
      by-holder (Some d) at_some e =
          let d_is = found (IsLeft race.words c client.objects steps) (λ x. is_slot at (slot log x.n)) left d
          (all-left race.words c client.objects steps (up_in steps) (up_are_shown steps)) at_some in
          by-newest d d_is.0 (slot-is at (slot log d.n) d_is.1) (settled-in t steps d f e)
          (law d.n f (up_to t steps d.n d_is.0.0.0 d_is.0.0.1))

-- ---- each client of a legal race

pub settled_shows_newest : Always ShowNewest → SettledShowsNewest
settled_shows_newest law s race c client ranges legal there honest at f copy told is mark =
    let own = legal.each c client there in
    let below : c < s.head.clients = (let lt = slice_get_within race.clients c client there in let many = legal.clients in omega (arith, lt, many)) in
    let limits = subst AreTerms (sym own.terms) (terms_fit s.head c ranges.head below) in
    let replays = own.replays in
    shows s race c client legal own.reads (ap (λ (x : Terms). x.kinds) own.terms)
    (law (terms_in client.pair) (steps_of client) limits replays.fit replays.met honest) at f copy told is mark
