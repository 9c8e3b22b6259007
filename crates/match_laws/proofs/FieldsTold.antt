-- What is told of a field of a copy, read again: the level that it shows, and what its mark says.
use Rattle.std.proofs.Common.{◌≡◌, ℕ, ℤ, ◌<◌, ◌&&◌, Bool, true, false, cond, not, nat_lt, List, [], ◌∷◌, Option, Some, None, length, refl, sym, ap, ◌∙◌, subst}
use Rattle.std.specs.Prelude.{find, slice_get, slice_index_or, option_map}
use Rattle.std.specs.Option.{option_and_then}
use Rattle.std.specs.List.{AllByRecursion, list_any}
use Rattle.std.proofs.lemmas.Bool.{and_parts, eqb-true, ltb-true}
use Rattle.std.proofs.lemmas.Option.{get_or_from_slice_get}
use Rattle.tn_types.specs.declared.choices.Drain.{Drain}
use Rattle.tn_types.specs.BitWords.{has_bit}
use Rattle.quantised_fields.specs.declared.field.FieldSpec.{FieldSpec}
use Rattle.quantised_fields.specs.declared.kind.Kind.{Kind}
use Rattle.quantised_fields.specs.Levels.{level_of, shown_of}
use Rattle.ghost_model.specs.Phases.{is_live}
use Rattle.ghost_model.specs.Ghosts.{GhostEvent, phase, carries, unjudged, is_due, is_settled}
use Rattle.ghost_masks.specs.Plan.{kind_of, fields_of, fields_in, is_slot}
use Rattle.ghost_client.specs.declared.copy.GhostCopy.{GhostCopy}
use Rattle.ghost_client.specs.State.{field_value}
use Rattle.stream_manager.specs.Limits.{Terms}
use Rattle.stream_manager.specs.Server.{ghost_log}
use Rattle.client_seat.specs.pair_core.History.{PairStep, history}
use Rattle.match_report.specs.declared.copies.FieldTold.{FieldTold}
use Rattle.world_rules.specs.Kinds.{match_kinds}
use Rattle.client_seat.specs.Told.{is_newest}
use Rattle.match_laws.specs.Values.{IsShownFor}

-- ---- what is told of a field

-- what a told value is made of
pub record IsFieldOf (kinds : List Kind) (f : ℕ) (copy : GhostCopy) (value : ℤ) : Type 0 where
  pub spec : FieldSpec
  pub field : slice_get (fields_of kinds copy.kind) f ≡ Some spec
  pub level : ℕ
  pub at : slice_get copy.levels f ≡ Some level
  pub shows : value ≡ shown_of spec level

module _ (kinds : List Kind) (f : ℕ) (copy : GhostCopy) (value : ℤ) where
  by-level : (spec : FieldSpec) → slice_get (fields_of kinds copy.kind) f ≡ Some spec → (o : Option ℕ) → slice_get copy.levels f ≡ o
      → option_map (shown_of spec) o ≡ Some value → IsFieldOf kinds f copy value
  by-level spec field None at e = absurd (cc)
  by-level spec field (Some level) at e = record { spec = spec; field = field; level = level; at = at; shows = cc }

  by-spec : (fs : List FieldSpec) → fields_of kinds copy.kind ≡ fs → (o : Option FieldSpec) → slice_get fs f ≡ o
      → option_and_then (λ spec. option_map (shown_of spec) (slice_get copy.levels f)) o ≡ Some value → IsFieldOf kinds f copy value
  by-spec fs is None at e = absurd (cc)
  by-spec fs is (Some spec) at e = by-level spec (ap (λ (l : List FieldSpec). slice_get l f) is ∙ at) (slice_get copy.levels f) refl e

  by-kind : (o : Option Kind) → slice_get kinds copy.kind ≡ o
      → option_and_then (λ (kind : Kind). option_and_then (λ spec. option_map (shown_of spec) (slice_get copy.levels f))
      (slice_get kind.fields f)) o ≡ Some value
      → IsFieldOf kinds f copy value
  by-kind None is e = absurd (cc)
  by-kind (Some kind) is e = by-spec kind.fields (ap fields_in is) (slice_get kind.fields f) refl e

  pub field-of : field_value kinds f copy ≡ Some value → IsFieldOf kinds f copy value
  field-of e = by-kind (slice_get kinds copy.kind) refl e

-- the copy has the level of this value
pub shown-for : (f : ℕ) (copy : GhostCopy) (told value : ℤ) (spec : FieldSpec) → slice_get (fields_of match_kinds copy.kind) f ≡ Some spec
    → slice_index_or copy.levels f 0 ≡ level_of spec value → field_value match_kinds f copy ≡ Some told
    → IsShownFor copy.kind f value told
shown-for f copy told value spec field level e =
    let p = field-of match_kinds f copy told e in
    let same : p.spec ≡ spec = some-same (sym p.field ∙ field) in
    record {
      spec = spec;
      field = field;
      level = p.shows ∙ (λ j. shown_of (same j) ((sym (get_or_from_slice_get copy.levels f p.level 0 p.at) ∙ level) j));
    }
  where
    some-same : {a b : FieldSpec} → Some a ≡ Some b → a ≡ b
    some-same {a} {b} e = cc

abbrev pub a-told : Bool → ℤ → FieldTold
a-told settled value = record { value = value; settled = settled }

pub record IsToldAs (o : Option ℤ) (settled : Bool) (told : FieldTold) : Type 0 where
  pub value : o ≡ Some told.value
  pub mark : settled ≡ told.settled

pub told-as : (o : Option ℤ) (settled : Bool) (told : FieldTold) → option_map (a-told settled) o ≡ Some told → IsToldAs o settled told
told-as None settled told e = absurd (cc)
told-as (Some v) settled told e =
    let same : a-told settled v ≡ told = cc in
    record { value = ap (λ (x : FieldTold). Some x.value) same; mark = ap (λ (x : FieldTold). x.settled) same }

-- ---- lists

pub found : {X : Type 0} (Q : X → Type 0) (p : X → Bool) (xs : List X) (x : X) → AllByRecursion Q xs → find p xs ≡ Some x → Q x × (p x ≡ true)
found Q p [] x all e = absurd (cc)
found Q p (y ∷ ys) x all e = go (λ rest. found Q p ys x all.1 rest) (p y) refl e
  where
    go : (find p ys ≡ Some x → Q x × (p x ≡ true)) → (b : Bool) → p y ≡ b → cond b (Some y) (find p ys) ≡ Some x → Q x × (p x ≡ true)
    go later true is e = let same : y ≡ x = cc in (subst Q same all.0, ap p (sym same) ∙ is)
    go later false is e = later e

not-false : (b : Bool) → not b ≡ true → b ≡ true → ⊥
not-false true n e = let never : false ≡ true = n in cc
not-false false n e = let never : false ≡ true = e in cc

pub slot-is : (at : ℕ) (o : Option ℕ) → is_slot at o ≡ true → o ≡ Some at
slot-is at None e = absurd (cc)
slot-is at (Some s) e = ap (λ (x : ℕ). Some x) (eqb-true s at e)

-- ---- what a mark says

pub record IsSettledIn (t : Terms) (steps : List PairStep) (d : Drain) (f : ℕ) : Type 0 where
  pub field : f < length (fields_of t.kinds (kind_of (ghost_log (history t steps).server) d.n))
  pub due : is_due (ghost_log (history t steps).server) d.n f ≡ true → ⊥
  pub carried : list_any (carries d.n f) (unjudged (ghost_log (history t steps).server)) ≡ true → ⊥
  pub written : has_bit d.bits f ≡ true → ⊥

pub settled-in : (t : Terms) (steps : List PairStep) (d : Drain) (f : ℕ) → is_newest t steps f d ≡ true → IsSettledIn t steps d f
settled-in t steps d f e =
    let log : List GhostEvent = ghost_log (history t steps).server in
    let w = and_parts (nat_lt f (length (fields_of t.kinds (kind_of log d.n))) && is_settled log d.n f) (not (has_bit d.bits f)) e in
    let b = and_parts (nat_lt f (length (fields_of t.kinds (kind_of log d.n)))) (is_settled log d.n f) w.0 in
    let s = and_parts (is_live (phase log d.n) && not (is_due log d.n f)) (not (list_any (carries d.n f) (unjudged log))) b.1 in
    let u = and_parts (is_live (phase log d.n)) (not (is_due log d.n f)) s.0 in
    record {
      field = ltb-true f (length (fields_of t.kinds (kind_of log d.n))) b.0;
      due = not-false (is_due log d.n f) u.1;
      carried = not-false (list_any (carries d.n f) (unjudged log)) s.1;
      written = not-false (has_bit d.bits f) w.1;
    }
