-- What is marked as settled in any own list has the level of the newest value that the list has.
use Rattle.std.proofs.Common.{◌≡◌, ◌∙◌, ℕ, ℤ, ◌<◌, ◌&&◌, Bool, true, false, not, List, [], ◌∷◌, length, map, Option, Some, None, nat_lt, refl, sym, ap, subst, inl, inr, ◌⊎◌}
use Rattle.std.specs.Prelude.{slice_get, slice_index_or}
use Rattle.std.specs.Option.{option_map_or}
use Rattle.std.specs.List.{AllByRecursion, list_any}
use Rattle.std.proofs.lemmas.Bool.{and_parts, eqb-true, ltb-true}
use Rattle.tn_types.specs.declared.choices.Drain.{Drain}
use Rattle.tn_types.specs.BitWords.{has_bit}
use Rattle.quantised_fields.specs.declared.field.FieldSpec.{FieldSpec}
use Rattle.quantised_fields.specs.Kinds.{table_fault}
use Rattle.quantised_fields.specs.Levels.{level_of}
use Rattle.ghost_model.specs.Phases.{is_live}
use Rattle.ghost_model.specs.Ghosts.{GhostEvent, slot, carries, unjudged, is_due, phase, is_settled}
use Rattle.ghost_masks.specs.Plan.{kind_of, fields_of, is_slot}
use Rattle.ghost_client.specs.declared.copy.GhostCopy.{GhostCopy}
use Rattle.ghost_client.specs.Copies.{copy_of}
use Rattle.stream_manager.specs.Limits.{Terms}
use Rattle.stream_manager.specs.Server.{ghost_log}
use Rattle.stream_manager.specs.Client.{ghosts_came}
use Rattle.pair_core.specs.History.{PairStep, history}
use Rattle.pair_copies.specs.Reads.{ShowNewest, IsNewest, last_read}
use Rattle.pair_steps.specs.Steps.{up_in, traits_in}
use Rattle.pair_steps.proofs.Journals.{up_to, kind_told}
use Rattle.client_seat.specs.Told.{holder_at, is_newest}
use Rattle.own_lists.specs.Own.{OwnItem}
use Rattle.own_lists.specs.Kept.{Kept, kept, undrained}
use Rattle.own_lists.specs.Conditions.{AreOwn}
use Rattle.own_lists.proofs.KeptValues.{own_fields}
use Rattle.own_lists.proofs.Standing.{IsShownIn, up_are_shown}
use Rattle.match_laws.proofs.ValuesNewest.{newest_of}
use Rattle.match_laws.proofs.ValuesTold.{IsTold, all_told}
use Rattle.match_laws.proofs.FieldsTold.{found}

not_false : (b : Bool) → not b ≡ true → b ≡ true → ⊥
not_false true n e = let never : false ≡ true = n in cc
not_false false n e = let never : false ≡ true = e in cc

slot_is : (at : ℕ) (o : Option ℕ) → is_slot at o ≡ true → o ≡ Some at
slot_is at None e = absurd (cc)
slot_is at (Some s) e = ap (λ (x : ℕ). Some x) (eqb-true s at e)

one_value : (a b : ℤ) → ◌≡◌ {A = Option ℤ} (Some a) (Some b) → a ≡ b
one_value a b e = cc (e)

one_slot : (a b : ℕ) → ◌≡◌ {A = Option ℕ} (Some a) (Some b) → a ≡ b
one_slot a b e = cc (e)

one_copy : (a b : GhostCopy) → ◌≡◌ {A = Option GhostCopy} (Some a) (Some b) → a ≡ b
one_copy a b e = cc (e)

module _ (t : Terms) (table : table_fault t.kinds ≡ None) (items : List OwnItem) (own : AreOwn t items) (newest : ShowNewest t (kept t items).course.steps) where
  abbrev k : Kept
  k = kept t items

  abbrev steps : List PairStep
  steps = (kept t items).course.steps

  abbrev log : List GhostEvent
  log = ghost_log (history t (kept t items).course.steps).server

  -- what a mark says of a period that may be drained
  record IsMarked (d : Drain) (f : ℕ) : Type 0 where
    field : f < length (fields_of t.kinds (kind_of log d.n))
    due : is_due log d.n f ≡ true → ⊥
    carried : list_any (carries d.n f) (unjudged log) ≡ true → ⊥
    written : has_bit d.bits f ≡ true → ⊥

  marked : (d : Drain) (f : ℕ) → is_newest t steps f d ≡ true → IsMarked d f
  marked d f e =
      let w = and_parts (nat_lt f (length (fields_of t.kinds (kind_of log d.n))) && is_settled log d.n f) (not (has_bit d.bits f)) e in
      let b = and_parts (nat_lt f (length (fields_of t.kinds (kind_of log d.n)))) (is_settled log d.n f) w.0 in
      let s = and_parts (is_live (phase log d.n) && not (is_due log d.n f)) (not (list_any (carries d.n f) (unjudged log))) b.1 in
      let u = and_parts (is_live (phase log d.n)) (not (is_due log d.n f)) s.0 in
      record {
        field = ltb-true f (length (fields_of t.kinds (kind_of log d.n))) b.0;
        due = not_false (is_due log d.n f) u.1;
        carried = not_false (list_any (carries d.n f) (unjudged log)) s.1;
        written = not_false (has_bit d.bits f) w.1;
      }

  -- the copy in the slot has the level of the newest value of a period that is up and holds the slot
  pub record HasNewest (at : ℕ) (copy : GhostCopy) (f : ℕ) : Type 0 where
    pub n : ℕ
    pub up : IsShownIn (kept t items).course.steps n
    pub holds : slot (ghost_log (history t (kept t items).course.steps).server) n ≡ Some at
    pub kind : copy.kind ≡ (traits_in (kept t items).course.steps n).kind
    pub spec : FieldSpec
    pub field : slice_get (fields_of t.kinds copy.kind) f ≡ Some spec
    pub within : f < length copy.levels
    pub level : slice_index_or copy.levels f 0 ≡ level_of spec (newest_of (kept t items).values n f)

  abbrev IsUpDrain : Drain → Type 0
  IsUpDrain d = IsShownIn steps d.n × (d.bits ≡ k.written d.n)

  all_up : (ns : List ℕ) → AllByRecursion (IsShownIn steps) ns → AllByRecursion IsUpDrain (map (λ n. record { n = n; bits = k.written n }) ns)
  all_up [] all = tt
  all_up (n ∷ ns) all = ((all.0, refl), all_up ns all.1)

  module _ (at : ℕ) (copy : GhostCopy) (f : ℕ) (there : copy_of (ghosts_came (history t (kept t items).course.steps).client) at ≡ Some copy) where
    of_copy : (d : Drain) → IsUpDrain d → slot log d.n ≡ Some at → f < length (own_fields t steps d.n) → (here : IsNewest t steps d.n f)
        → last_read steps d.n f ≡ Some (newest_of k.values d.n f) → HasNewest at copy f
    of_copy d up holds field here last =
        let at_is : here.at ≡ at = one_slot here.at at (sym here.holds ∙ holds) in
        let same : here.copy ≡ copy = one_copy here.copy copy (sym here.here ∙ ap (λ x. copy_of (ghosts_came (history t steps).client) x) at_is ∙ there) in
        let kind : here.copy.kind ≡ (traits_in steps d.n).kind = here.kind ∙ kind_told t steps d.n in
        let fields : length here.copy.levels ≡ length (own_fields t steps d.n) = here.fields ∙ ap (λ (x : ℕ). length (fields_of t.kinds x)) kind in
        let within : f < length here.copy.levels = subst (λ m. f < m) (sym fields) field in
        let l = here.level within in
        let value : l.value ≡ newest_of k.values d.n f = one_value l.value (newest_of k.values d.n f) (sym l.last ∙ last) in
        record {
          n = d.n;
          up = up.0;
          holds = holds;
          kind = ap (λ (x : GhostCopy). x.kind) (sym same) ∙ kind;
          spec = l.spec;
          field = ap (λ (x : GhostCopy). slice_get (fields_of t.kinds x.kind) f) (sym same) ∙ l.field;
          within = subst (λ (x : GhostCopy). f < length x.levels) same within;
          level = ap (λ (x : GhostCopy). slice_index_or x.levels f 0) (sym same) ∙ l.level_is ∙ ap (level_of l.spec) value;
        }

    by_drain : (d : Drain) → IsUpDrain d → slot log d.n ≡ Some at → IsMarked d f → HasNewest at copy f
    by_drain d up holds m =
        by (all_told t table items own d.n f up.0 field) (newest d.n f (up_to t steps d.n up.0.0 up.0.1))
      where
        field : f < length (own_fields t steps d.n)
        field = subst (λ (x : ℕ). f < length (fields_of t.kinds x)) (kind_told t steps d.n) m.field

        by : IsTold t k d.n f → (is_due log d.n f ≡ true) ⊎ ((list_any (carries d.n f) (unjudged log) ≡ true) ⊎ IsNewest t steps d.n f) → HasNewest at copy f
        by (inl bit) rest = absurd (m.written (subst (λ bits. has_bit bits f ≡ true) (sym up.1) bit))
        by (inr (inl due)) rest = absurd (m.due due)
        by (inr (inr last)) (inl due) = absurd (m.due due)
        by (inr (inr last)) (inr (inl carried)) = absurd (m.carried carried)
        by (inr (inr last)) (inr (inr here)) = of_copy d up holds field here last

    pub has_newest : option_map_or (is_newest t (kept t items).course.steps f) (holder_at t (kept t items).course.steps (undrained (kept t items)) at) false ≡ true
        → HasNewest at copy f
    has_newest e = by (holder_at t steps (undrained k) at) refl e
      where
        by : (o : Option Drain) → holder_at t steps (undrained k) at ≡ o → option_map_or (is_newest t steps f) o false ≡ true → HasNewest at copy f
        by None is e = absurd (cc)
        by (Some d) is e =
            let d_is = found IsUpDrain (λ x. is_slot at (slot log x.n)) (undrained k) d (all_up (up_in steps) (up_are_shown steps)) is in
            by_drain d d_is.0 (slot_is at (slot log d.n) d_is.1) (marked d f e)
