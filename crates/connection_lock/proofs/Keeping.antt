-- What each kind of step keeps of a locked connection.
use Rattle.std.proofs.Common.{◌≡◌, ◌⊎◌, inl, inr, ⊎_elim, ℕ, zero, suc, ◌<◌, ◌≤◌, Bool, true, false, not, cond, ◌&&◌, ◌||◌, ◌==◌, List, [], ◌∷◌, ◌++◌, length, filter, Option, Some, None, refl, sym, ap, ◌∙◌, subst, arith, length-append}
use Rattle.std.specs.Prelude.{slice_get, slice_index}
use Rattle.std.specs.Option.{option_and_then}
use Rattle.std.specs.List.{AllZip}
use Rattle.std.proofs.lemmas.Bool.{eq-eqb, ne_eqb, cases_eq, or_right}
use Rattle.std.proofs.lemmas.List.{get_or_append_left, length-reverse}
use Rattle.std.proofs.Math.Seq.{get_or-append_seam}
use Rattle.tn_types.specs.BitWords.{has_bit}
use Rattle.tn_types.specs.declared.choices.Drain.{Drain}
use Rattle.tn_types.specs.declared.choices.Read.{Read}
use Rattle.quantised_fields.specs.declared.kind.Kind.{Kind}
use Rattle.quantised_fields.specs.Kinds.{table_fault}
use Rattle.ghost_model.specs.Legal.{IsUp}
use Rattle.ghost_masks.specs.Plan.{kind_of, fields_of, fields_in}
use Rattle.dirty_lanes.specs.declared.view.ReadField.{ReadField}
use Rattle.dirty_lanes.specs.declared.view.PackStep.{PackStep}
use Rattle.dirty_lanes.specs.Views.{owes, reads, a_drain}
use Rattle.stream_manager.specs.Limits.{Terms}
use Rattle.stream_manager.specs.Server.{ghost_log}
use Rattle.kept_pair.specs.pair_core.History.{PairStep, Show, Hide, Near, Post, ClientPost, Sample, Pack, ClientPack, Down, Up, Raw, history}
use Rattle.kept_pair.specs.pair_core.Conditions.{IsMet, AreMet}
use Rattle.kept_pair.proofs.Below.pair_core.LegalLogs.{IsLegalLog}
use Rattle.lane_periods.specs.Periods.{PeriodList, has, has_object, spec_at, field_count, ArePeriods}
use Rattle.lane_periods.specs.Periods as periods
use Rattle.lane_periods.specs.Views.{IsTheRead, is_read, owes_of, is_drained}
use Rattle.lane_periods.specs.Reading.{zip_append}
use Rattle.lane_periods.proofs.Numbers.{or-cases, and-both, has-more, has-fewer, has-its-object}
use Rattle.pair_periods.specs.pair_steps.Steps.{shows_in, is_hidden_in, traits_in, IsNoPack}
use Rattle.pair_periods.specs.Agreement.{Agree, server_log, is_due_after, HasField}
use Rattle.pair_periods.proofs.Below.pair_steps.Journals.{shows_told, kind_told, up_from, up_to}
use Rattle.pair_periods.proofs.Agreeing.{up-listed, listed-up, agree-show, agree-hide, agree-quiet}
use Rattle.pair_periods.proofs.Below.pair_steps.Due.{step_due}
use Rattle.pair_periods.proofs.Due.{pack_due}
use Rattle.dirty_lanes.specs.declared.view.PackView.{PackView}
use Rattle.stream_manager.specs.Stands.{ConnState, ClientState}
use Rattle.stream_manager.specs.Stands as stands
use Rattle.kept_pair.specs.pair_core.Calls.{KeepsAtServer}
use Rattle.kept_pair.specs.Kept.{KeptState, terms_in, newest_first}
use Rattle.kept_pair.proofs.Replaying.{newest-more}
use Rattle.race_messages.specs.declared.message.Message.{Message}
use Rattle.connection_lock.specs.Taking.{Progress, MayTake, Takes, TakesAll}
use Rattle.connection_lock.specs.Rule.{reads_told, AreReadsOf, OwedIsDue, IsLocked, AreLocked, progress_of, IsQuiet as IsQuietPair}
use Rattle.connection_lock.specs.Turns.{TakesLocked}

-- ---- reads

each-more : (R Q : ReadField → Read → Type 0) → ((x : ReadField) (r : Read) → R x r → Q x r) → (xs : List ReadField) (rs : List Read) → AllZip R xs rs → AllZip Q xs rs
each-more R Q f [] [] h = tt
each-more R Q f [] (r ∷ rs) h = absurd h
each-more R Q f (x ∷ xs) [] h = absurd h
each-more R Q f (x ∷ xs) (r ∷ rs) h = (f x r h.0, each-more R Q f xs rs h.1)

reads-no_pack : (step : PairStep) (past : List PairStep) → IsNoPack step → reads_told (step ∷ past) ≡ reads_told past
reads-no_pack (Pack drained read) past none = absurd none
reads-no_pack step past none = refl

spec-more : (table : List Kind) (kinds more : List ℕ) (n f : ℕ) → (o : Option ℕ) → slice_get kinds n ≡ o → slice_get (kinds ++ more) n ≡ o ⊎ (o ≡ None)
spec-more table [] more n f o e = inr (sym e)
spec-more table (x ∷ xs) more zero f o e = inl e
spec-more table (x ∷ xs) more (suc n) f o e = spec-more table xs more n f o e

own-more : (table : List Kind) (kinds more : List ℕ) (r : Read) (objects : List ℕ) (x : ReadField) (h : IsTheRead objects kinds table x r) → spec_at table (kinds ++ more) r.n r.field ≡ Some h.spec
own-more table kinds more r objects x h =
    ⊎_elim
    (λ (same : slice_get (kinds ++ more) r.n ≡ slice_get kinds r.n). ap (option_and_then (λ k. option_and_then (λ (kind : Kind). slice_get kind.fields r.field) (slice_get table k))) same ∙ h.own)
    (λ (none : slice_get kinds r.n ≡ None).
    absurd (let e = sym (ap (option_and_then (λ k. option_and_then (λ (kind : Kind). slice_get kind.fields r.field) (slice_get table k))) none) ∙ h.own in cc))
    (spec-more table kinds more r.n r.field (slice_get kinds r.n) refl)

is-more : (objects kinds : List ℕ) (o k : ℕ) (table : List Kind) (x : ReadField) (r : Read) → IsTheRead objects kinds table x r → IsTheRead (objects ++ o ∷ []) (kinds ++ k ∷ []) table x r
is-more objects kinds o k table x r t = record {
  spec = t.spec;
  shown = omega (arith, t.shown, length-append objects (o ∷ []));
  object = t.object ∙ sym (get_or_append_left objects (o ∷ []) 0 r.n t.shown);
  field = t.field;
  version = t.version;
  own = own-more table kinds (k ∷ []) r objects x t;
  value = t.value;
}

-- ---- fields

some-same : (a b : ℕ) → Some a ≡ Some b → a ≡ b
some-same a b e = cc

pub fields-counted : (table : List Kind) (kinds : List ℕ) (n k : ℕ) → slice_get kinds n ≡ Some k → field_count table kinds n ≡ length (fields_of table k)
fields-counted table kinds n k e = ap (λ o. periods.fields_in (option_and_then (slice_get table) o)) e ∙ by (slice_get table k)
  where
    by : (o : Option Kind) → periods.fields_in o ≡ length (fields_in o)
    by None = refl
    by (Some x) = refl

-- ---- a step that leaves the periods as they are

module _ (t : Terms) (objects : ℕ) (past : List PairStep) (view : List PackStep) (p : PeriodList) (k : IsLocked t objects past view p) (step : PairStep) (after : Agree (step ∷ past) p) where
  same-count : shows_in (step ∷ past) ≡ shows_in past
  same-count = sym after.count ∙ k.agree.count

  pub same-up : (n : ℕ) → IsUp (ghost_log (server_log t (step ∷ past))) n → IsUp (ghost_log (server_log t past)) n
  same-up n up = listed-up t past n (subst (λ l. has n l ≡ true) (sym after.up ∙ k.agree.up) (up-listed t (step ∷ past) n up))

  same-kind : (n : ℕ) → n < shows_in past → kind_of (ghost_log (server_log t (step ∷ past))) n ≡ kind_of (ghost_log (server_log t past)) n
  same-kind n lt =
      kind_told t (step ∷ past) n
      ∙ some-same (traits_in (step ∷ past) n).kind (traits_in past n).kind (sym (after.kinds n (omega (arith, lt, same-count))) ∙ k.agree.kinds n lt)
      ∙ sym (kind_told t past n)

  pub same-field : (n f : ℕ) → IsUp (ghost_log (server_log t (step ∷ past))) n → HasField t (step ∷ past) n f → HasField t past n f
  same-field n f up field = subst (λ x. f < length (fields_of t.kinds x)) (same-kind n (up_from t past n (same-up n up)).0) field

  pub locked-same : IsNoPack step → IsLocked t objects (step ∷ past) view p
  locked-same none = record {
    agree = after;
    table = k.table;
    there = k.there;
    read = subst (AllZip (IsTheRead p.objects p.kinds t.kinds) (reads view)) (sym (reads-no_pack step past none)) k.read;
    owed = λ n f up field owed. step_due n f t step (history t past) none (k.owed n f (same-up n up) (same-field n f up field) owed);
  }

-- ---- a show

module _ (t : Terms) (objects : ℕ) (past : List PairStep) (view : List PackStep) (p q : PeriodList) (k : IsLocked t objects past view p) (are : ArePeriods p.objects p.kinds p.up) (met : AreMet t past)
    (object kind block level : ℕ) (control : Bool) (bits : ℕ) (there : object < objects) (free : has_object p.objects p.up object ≡ false)
    (q_objects : q.objects ≡ p.objects ++ object ∷ []) (q_kinds : q.kinds ≡ p.kinds ++ kind ∷ []) (q_up : q.up ≡ p.up ++ length p.objects ∷ []) (q_table : q.table ≡ p.table) where
  abbrev Shown : List PairStep
  Shown = Show kind block level control ∷ past

  before : (n : ℕ) → n < length p.objects → slice_index q.objects n ≡ slice_index p.objects n
  before n lt = ap (λ l. slice_index l n) q_objects ∙ get_or_append_left p.objects (object ∷ []) 0 n lt

  last : slice_index q.objects (length p.objects) ≡ object
  last = ap (λ l. slice_index l (length p.objects)) q_objects ∙ get_or-append_seam p.objects object [] 0

  other-object : (n : ℕ) → has n p.up ≡ true → slice_index p.objects n ≡ object → ⊥
  other-object n h e = let is : has_object p.objects p.up object ≡ true = subst (λ o. has_object p.objects p.up o ≡ true) e (has-its-object p.objects n p.up h) in cc

  show-there : (n : ℕ) → has n q.up ≡ true → slice_index q.objects n < objects
  show-there n h =
      ⊎_elim (λ (x : has n p.up ≡ true). subst (λ o. o < objects) (sym (before n (are.shown n x))) (k.there n x))
      (λ (x : n ≡ length p.objects). subst (λ o. o < objects) (sym (ap (slice_index q.objects) x ∙ last)) there)
      (has-more n (length p.objects) p.up (subst (λ l. has n l ≡ true) q_up h))

  show-owed : OwedIsDue t Shown q.objects (a_drain object bits ∷ view)
  show-owed n f up field owed =
      ⊎_elim
      (λ (same : n ≡ shows_in past). ap (λ b. b || is_due_after t past n f) (eq-eqb n _ (same ∙ sym (shows_told t past))))
      (λ (apart : n ≡ shows_in past → ⊥).
      let told = up_from t Shown n up in
      let lt : n < shows_in past = omega (arith, told.0, apart) in
      let here : IsUp (ghost_log (server_log t past)) n = up_to t past n lt told.1 in
      let listed : has n p.up ≡ true = subst (λ l. has n l ≡ true) (sym k.agree.up) (up-listed t past n here) in
      let object_is : slice_index q.objects n ≡ slice_index p.objects n = before n (are.shown n listed) in
      let other : (object == slice_index p.objects n) ≡ false = ne_eqb object (slice_index p.objects n) (λ e. other-object n listed (sym e)) in
      let was : owes view (slice_index p.objects n) f ≡ true =
      sym (ap (λ b. (b && has_bit bits f) || owes view (slice_index p.objects n) f) other) ∙ subst (λ o. owes (a_drain object bits ∷ view) o f ≡ true) object_is owed in
      let same_kind : kind_of (ghost_log (server_log t Shown)) n ≡ kind_of (ghost_log (server_log t past)) n =
      kind_told t Shown n ∙ ap (λ b. (cond b (record { kind = kind; block = block; level = level; control = control }) (traits_in past n)).kind) (ne_eqb n (shows_in past) apart) ∙ sym (kind_told t past n) in
      step_due n f t (Show kind block level control) (history t past) tt (k.owed n f here (subst (λ x. f < length (fields_of t.kinds x)) same_kind field) was))
      (cases_eq n (shows_in past))

  pub locked-show : IsLocked t objects Shown (a_drain object bits ∷ view) q
  locked-show = record {
    agree = agree-show t past p q object kind block level control met k.agree are.long q_objects q_kinds q_up;
    table = q_table ∙ k.table;
    there = show-there;
    read = subst (λ (x : List ℕ × List ℕ). AreReadsOf x.0 x.1 t.kinds view past) (λ j. (sym q_objects j, sym q_kinds j))
        (each-more (IsTheRead p.objects p.kinds t.kinds) (IsTheRead (p.objects ++ object ∷ []) (p.kinds ++ kind ∷ []) t.kinds) (is-more p.objects p.kinds object kind t.kinds) (reads view) (reads_told past) k.read);
    owed = show-owed;
  }

-- ---- a hide

module _ (t : Terms) (objects : ℕ) (past : List PairStep) (view : List PackStep) (p q : PeriodList) (k : IsLocked t objects past view p) (m : ℕ)
    (q_objects : q.objects ≡ p.objects) (q_kinds : q.kinds ≡ p.kinds) (q_up : q.up ≡ filter (λ n. not (n == m)) p.up) (q_table : q.table ≡ p.table) where
  pub locked-hide : IsLocked t objects (Hide m ∷ past) view q
  locked-hide = record {
    agree = agree-hide past p q m k.agree q_objects q_kinds q_up;
    table = q_table ∙ k.table;
    there = λ n h. subst (λ l. slice_index l n < objects) (sym q_objects) (k.there n (has-fewer (λ x. not (x == m)) n p.up (subst (λ l. has n l ≡ true) q_up h)));
    read = subst (λ (x : List ℕ × List ℕ). AreReadsOf x.0 x.1 t.kinds view past) (λ j. (sym q_objects j, sym q_kinds j)) k.read;
    owed = λ n f up field owed.
        let told = up_from t (Hide m ∷ past) n up in
        k.owed n f (up_to t past n told.0 (none-of (m == n) (is_hidden_in past n) told.1)) field (subst (λ l. owes view (slice_index l n) f ≡ true) q_objects owed);
  }
    where
      none-of : (a b : Bool) → (a || b) ≡ false → b ≡ false
      none-of true b e = absurd (cc)
      none-of false b e = e

-- ---- a pack

module _ (t : Terms) (objects : ℕ) (past : List PairStep) (view mid new : List PackStep) (p : PeriodList) (k : IsLocked t objects past view p) (drains : List Drain) (rs : List Read)
    (table : table_fault t.kinds ≡ None) (legal : IsLegalLog t.kinds (history t past).server) (met : IsMet t past (Pack drains rs))
    (drained : (n f : ℕ) → f < field_count p.table p.kinds n → owes_of p.objects p.up mid n f ≡ true → (owes_of p.objects p.up view n f || is_drained drains n f) ≡ true)
    (paid : (n f : ℕ) → owes_of p.objects p.up new n f ≡ (owes_of p.objects p.up mid n f && not (is_read rs n f)))
    (added : List ReadField) (entered : reads new ≡ reads view ++ added) (each : AllZip (IsTheRead p.objects p.kinds p.table) added rs) where
  pack-agree : Agree (Pack drains rs ∷ past) p
  pack-agree = agree-quiet past (Pack drains rs) p tt k.agree

  pack-owed : OwedIsDue t (Pack drains rs ∷ past) p.objects new
  pack-owed n f up field owed =
      let here = same-up t objects past view p k (Pack drains rs) pack-agree n up in
      let own = same-field t objects past view p k (Pack drains rs) pack-agree n f up field in
      let listed : has n p.up ≡ true = subst (λ l. has n l ≡ true) (sym k.agree.up) (up-listed t past n here) in
      let now : owes_of p.objects p.up new n f ≡ true = (λ j. listed j && owed j) in
      let two = and-both (owes_of p.objects p.up mid n f) (not (is_read rs n f)) (sym (paid n f) ∙ now) in
      let kind : slice_get p.kinds n ≡ Some (kind_of (ghost_log (server_log t past)) n) = k.agree.kinds n (up_from t past n here).0 ∙ ap (λ x. Some x) (sym (kind_told t past n)) in
      let count : field_count p.table p.kinds n ≡ length (fields_of t.kinds (kind_of (ghost_log (server_log t past)) n)) =
      fields-counted p.table p.kinds n (kind_of (ghost_log (server_log t past)) n) kind ∙ ap (λ x. length (fields_of x (kind_of (ghost_log (server_log t past)) n))) k.table in
      let before = drained n f (subst (λ c. f < c) (sym count) own) two.0 in
      pack_due n f t past drains rs table legal met own (not-true (is_read rs n f) two.1)
      (⊎_elim
      (λ (x : owes_of p.objects p.up view n f ≡ true). ap (λ b. b || is_drained drains n f) (k.owed n f here own (and-both (has n p.up) (owes view (slice_index p.objects n) f) x).1))
      (λ (x : is_drained drains n f ≡ true). or_right (is_due_after t past n f) (is_drained drains n f) x)
      (or-cases (owes_of p.objects p.up view n f) (is_drained drains n f) before))
    where
      not-true : (b : Bool) → not b ≡ true → b ≡ false
      not-true true e = sym e
      not-true false e = refl

  pub locked-pack : IsLocked t objects (Pack drains rs ∷ past) new p
  locked-pack = record {
    agree = pack-agree;
    table = k.table;
    there = k.there;
    read = subst (λ (l : List ReadField). AllZip (IsTheRead p.objects p.kinds t.kinds) l (reads_told past ++ rs)) (sym entered)
        (zip_append (IsTheRead p.objects p.kinds t.kinds) (reads view) added (reads_told past) rs k.read (subst (λ (x : List Kind). AllZip (IsTheRead p.objects p.kinds x) added rs) k.table each));
    owed = pack-owed;
  }

-- ---- a message that is taken

shows-few : (past : List PairStep) → shows_in past ≤ length past
shows-few [] = omega arith
shows-few (Show kind block level control ∷ past) = let h = shows-few past in omega arith
shows-few (Hide n ∷ past) = let h = shows-few past in omega arith
shows-few (Near n level ∷ past) = let h = shows-few past in omega arith
shows-few (Post class v ∷ past) = let h = shows-few past in omega arith
shows-few (ClientPost class v ∷ past) = let h = shows-few past in omega arith
shows-few (Sample m ∷ past) = let h = shows-few past in omega arith
shows-few (Pack drains reads ∷ past) = let h = shows-few past in omega arith
shows-few (ClientPack ∷ past) = let h = shows-few past in omega arith
shows-few (Down n ∷ past) = let h = shows-few past in omega arith
shows-few (Up n room ∷ past) = let h = shows-few past in omega arith
shows-few (Raw bytes room ∷ past) = let h = shows-few past in omega arith

-- there are no more periods than steps
pub few-periods : (t : Terms) (objects : ℕ) (steps : List PairStep) (view : List PackStep) (p : PeriodList) → IsLocked t objects (newest_first steps) view p → length steps ≤ 65536 → length p.objects ≤ 65536
few-periods t objects steps view p k few = omega (arith, k.agree.count, shows-few (newest_first steps), length-reverse steps, few)

module _ (objects : ℕ) (k new : KeptState) (seat new_seat : PackView) (p q : PeriodList) (locked : AreLocked objects k seat p) (terms : terms_in new ≡ terms_in k)
    (keeps : KeepsAtServer k.pair new.pair) (step : PairStep) (kept : new.steps ≡ k.steps ++ step ∷ []) where
  pub past-more : newest_first new.steps ≡ step ∷ newest_first k.steps
  past-more = ap newest_first kept ∙ newest-more k.steps step

  pub quiet-still : IsQuietPair new
  quiet-still = record {
    client = ap (λ (c : ClientState). c.common.receiver.ready) keeps.client ∙ locked.1.client;
    server = ap (λ r. r.ready) keeps.server.ready ∙ locked.1.server;
  }

  pub still-locked : IsLocked (terms_in k) objects (step ∷ newest_first k.steps) new_seat.steps q → AreLocked objects new new_seat q
  still-locked l = (subst (λ (x : Terms × List PairStep). IsLocked x.0 objects x.1 new_seat.steps q) (λ j. (sym terms j, sym past-more j)) l, quiet-still)

pub passed-over : (objects : ℕ) (k : KeptState) (seat : PackView) (p : PeriodList) (m : Message) → AreLocked objects k seat p → (MayTake (terms_in k) objects (progress_of k seat p.objects) m → ⊥)
    → TakesLocked objects k seat p m k seat p
passed-over objects k seat p m locked none = record { takes = inr (none, refl); locked = locked; terms = refl; client = refl }

-- ---- what makes room changes nothing that the rule speaks of

module _ (objects : ℕ) (k new : KeptState) (seat : PackView) (p q : PeriodList) (steps : new.steps ≡ k.steps) (conn : new.pair.conn ≡ k.pair.conn) (client : new.pair.client ≡ k.pair.client)
    (same : q ≡ record p { has_room = q.has_room }) where
  roomy : (b : Bool) → IsLocked (terms_in k) objects (newest_first k.steps) seat.steps p → IsLocked (terms_in k) objects (newest_first k.steps) seat.steps (record p { has_room = b })
  roomy b l = record {
    agree = record { count = l.agree.count; up = l.agree.up; kinds = l.agree.kinds };
    table = l.table;
    there = l.there;
    read = l.read;
    owed = l.owed;
  }

  pub prepared-locked : AreLocked objects k seat p → AreLocked objects new seat q
  prepared-locked l = (
    subst (λ (x : ConnState × List PairStep × PeriodList). IsLocked (stands.terms_of x.0) objects (newest_first x.1) seat.steps x.2) (λ j. (sym conn j, sym steps j, sym same j)) (roomy q.has_room l.0),
    record {
      client = ap (λ (c : ClientState). c.common.receiver.ready) client ∙ l.1.client;
      server = ap (λ (c : ConnState). c.common.receiver.ready) conn ∙ l.1.server;
    },
  )

  pub prepared-progress : progress_of new seat q.objects ≡ progress_of k seat p.objects
  prepared-progress = (λ j. progress_of (record k { steps = steps j }) seat (same j).objects)

-- ---- messages one after another

pub takes-push : (t : Terms) (objects : ℕ) (old mid new : Progress) (ms : List Message) (m : Message) → TakesAll t objects old ms mid → Takes t objects mid m new → TakesAll t objects old (ms ++ m ∷ []) new
takes-push t objects old mid new [] m all one = (new, subst (λ x. Takes t objects x m new) all one, refl)
takes-push t objects old mid new (x ∷ ms) m all one = (all.0, all.1, takes-push t objects all.0 mid new ms m all.2 one)
