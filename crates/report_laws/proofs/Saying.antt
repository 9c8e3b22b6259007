-- Each field that a `show` line prints shows a value that the object had, and one with `s` the newest.
use Rattle.std.proofs.Common.{◌≡◌, ℕ, zero, suc, ◌<◌, List, [], ◌∷◌, ◌++◌, map, Option, Some, None, refl, sym, ap, subst, ◌∙◌}
use Rattle.std.specs.Prelude.{slice_get, option_map, filter_map}
use Rattle.std.specs.Option.{option_and_then}
use Rattle.std.specs.List.{All, AllByRecursion, cons_option}
use Rattle.std.specs.Fmt.{signed_decimal}
use Rattle.std.proofs.lemmas.List.Elements.{All-from_recursion}
use Rattle.tn_types.specs.declared.limits.TheConstants.{MAX_SLOTS, MAX_FIELDS}
use Rattle.quantised_fields.specs.declared.field.FieldSpec.{FieldSpec}
use Rattle.quantised_fields.specs.declared.kind.Kind.{Kind}
use Rattle.quantised_fields.specs.Levels.{shown_of}
use Rattle.ghost_model.specs.Words.{upto}
use Rattle.ghost_client.specs.declared.copy.GhostCopy.{GhostCopy}
use Rattle.ghost_client.specs.State.{field_value}
use Rattle.pair_core.specs.Conditions.{IsHonest}
use Rattle.world_rules.specs.Kinds.{match_kinds}
use Rattle.match_script.specs.declared.types.Script.{Script}
use Rattle.match_script.specs.Ranges.{HasRanges}
use Rattle.match_report.specs.declared.copies.FieldTold.{FieldTold}
use Rattle.match_report.specs.Text.{settled_mark}
use Rattle.match_laws.specs.Laws.{journal_of}
use Rattle.match_laws.specs.Values.{ClientMoment, moment_of, copy_at, shown_at, IsShownField, CopiesShowValues, SettledIsNewest}
use Rattle.report_laws.specs.Shown.{is_marked, field_word, copy_words, slot_words, SaysValue, SaysCopy, PrintedValues}
use Rattle.report_laws.proofs.WordBytes.{marked}
use Rattle.report_laws.proofs.Showing.{printed_as_shown}
use Rattle.report_laws.proofs.Honesty.{no_raw_is_honest}

-- ---- the word at place f is that of field f

-- the numbers from i on, so many
abbrev from : ℕ → ℕ → List ℕ
from i zero = []
from i (suc n) = i ∷ from (suc i) n

all-fields : upto MAX_FIELDS ≡ from 0 MAX_FIELDS
unfolding upto
all-fields = refl

-- so many behind i
abbrev on : ℕ → ℕ → ℕ
on zero i = i
on (suc k) i = suc (on k i)

on-next : (k i : ℕ) → on k (suc i) ≡ suc (on k i)
on-next zero i = refl
on-next (suc k) i = ap suc (on-next k i)

on-none : (k : ℕ) → on k 0 ≡ k
on-none zero = refl
on-none (suc k) = ap suc (on-none k)

module _ {X : Type 0} (g : ℕ → Option X) (ends : (f : ℕ) → g f ≡ None → g (suc f) ≡ None) where
  none-later : (i k : ℕ) → g i ≡ None → g (on k i) ≡ None
  none-later i zero h = h
  none-later i (suc k) h = ends (on k i) (none-later i k h)

  at-place : (n i f : ℕ) (x : X) → slice_get (filter_map g (from i n)) f ≡ Some x → g (on f i) ≡ Some x
  at-place zero i f x e = absurd cc
  at-place (suc n) i f x e = go (λ j d. at-place n (suc i) j x d) (g i) refl f e
    where
      go : ((j : ℕ) → slice_get (filter_map g (from (suc i) n)) j ≡ Some x → g (on j (suc i)) ≡ Some x)
          → (o : Option X) → g i ≡ o → (f : ℕ) → slice_get (cons_option o (filter_map g (from (suc i) n))) f ≡ Some x
          → g (on f i) ≡ Some x
      go later None is f e =
          absurd (let never : Some x ≡ None = sym (later f e) ∙ ap g (on-next f i) ∙ none-later i (suc f) is in cc)
      go later (Some y) is zero e = is ∙ e
      go later (Some y) is (suc f) e = ap g (sym (on-next f i)) ∙ later f e

ends-there : {X : Type 0} (xs : List X) (f : ℕ) → slice_get xs f ≡ None → slice_get xs (suc f) ≡ None
ends-there [] f e = refl
ends-there (x ∷ []) zero e = refl
ends-there (x ∷ y ∷ xs) zero e = absurd cc
ends-there (x ∷ xs) (suc f) e = ends-there xs f e

-- a copy shows no field behind one that it doesn't show
module _ (copy : GhostCopy) where
  level-ends : (f : ℕ) (spec : FieldSpec) → option_map (shown_of spec) (slice_get copy.levels f) ≡ None → slice_get copy.levels f ≡ None
  level-ends f spec e = go (slice_get copy.levels f) e
    where
      go : (o : Option ℕ) → option_map (shown_of spec) o ≡ None → o ≡ None
      go None e = refl
      go (Some level) e = absurd cc

  no-level : (f : ℕ) (o : Option FieldSpec) → slice_get copy.levels f ≡ None
      → option_and_then (λ spec. option_map (shown_of spec) (slice_get copy.levels f)) o ≡ None
  no-level f None e = refl
  no-level f (Some spec) e = ap (option_map (shown_of spec)) e

  by-fields : (fs : List FieldSpec) (f : ℕ)
      → option_and_then (λ spec. option_map (shown_of spec) (slice_get copy.levels f)) (slice_get fs f) ≡ None
      → option_and_then (λ spec. option_map (shown_of spec) (slice_get copy.levels (suc f))) (slice_get fs (suc f)) ≡ None
  by-fields fs f e = go (slice_get fs f) refl e
    where
      go : (o : Option FieldSpec) → slice_get fs f ≡ o
          → option_and_then (λ spec. option_map (shown_of spec) (slice_get copy.levels f)) o ≡ None
          → option_and_then (λ spec. option_map (shown_of spec) (slice_get copy.levels (suc f))) (slice_get fs (suc f)) ≡ None
      go None is e = ap (option_and_then (λ spec. option_map (shown_of spec) (slice_get copy.levels (suc f)))) (ends-there fs f is)
      go (Some spec) is e =
          no-level (suc f) (slice_get fs (suc f)) (ends-there copy.levels f (level-ends f spec e))

  value-ends : (f : ℕ) → field_value match_kinds f copy ≡ None → field_value match_kinds (suc f) copy ≡ None
  value-ends f e = go (slice_get match_kinds copy.kind) e
    where
      go : (o : Option Kind)
          → option_and_then (λ (kind : Kind). option_and_then (λ spec. option_map (shown_of spec) (slice_get copy.levels f)) (slice_get kind.fields f)) o ≡ None
          → option_and_then (λ (kind : Kind). option_and_then (λ spec. option_map (shown_of spec) (slice_get copy.levels (suc f))) (slice_get kind.fields (suc f))) o ≡ None
      go None e = refl
      go (Some kind) e = by-fields kind.fields f e

  unmapped : {A B : Type 0} (h : A → B) (o : Option A) → option_map h o ≡ None → o ≡ None
  unmapped h None e = refl
  unmapped h (Some a) e = absurd cc

  shown-ends : (m : ClientMoment) (at f : ℕ) → shown_at m at copy f ≡ None → shown_at m at copy (suc f) ≡ None
  shown-ends m at f e = ap (option_map _) (value-ends f (unmapped _ (field_value match_kinds f copy) e))

  -- what stands at place f is told of field f
  pub at_field : (m : ClientMoment) (at f : ℕ) (told : FieldTold)
      → slice_get (filter_map (shown_at m at copy) (upto MAX_FIELDS)) f ≡ Some told → shown_at m at copy f ≡ Some told
  at_field m at f told e =
      let placed = at-place (shown_at m at copy) (shown-ends m at) MAX_FIELDS 0 f told
      (ap (λ (l : List ℕ). slice_get (filter_map (shown_at m at copy) l) f) (sym all-fields) ∙ e) in
      ap (shown_at m at copy) (sym (on-none f)) ∙ placed

-- a word is that of what is told
record IsWordOf (o : Option FieldTold) (word : List ℕ) : Type 0 where
  pub told : FieldTold
  pub there : o ≡ Some told
  pub is : word ≡ field_word told

word-of : (xs : List FieldTold) (f : ℕ) (word : List ℕ) → slice_get (map field_word xs) f ≡ Some word → IsWordOf (slice_get xs f) word
word-of [] f word e = absurd cc
word-of (x ∷ xs) zero word e = record { told = x; there = refl; is = same e }
  where
    same : Some (field_word x) ≡ Some word → word ≡ field_word x
    same e = cc
word-of (x ∷ xs) (suc f) word e = word-of xs f word e

-- ---- the law

module _ (had : CopiesShowValues) (settled : SettledIsNewest) (s : Script) (c n : ℕ) (h : HasRanges s) (below : c < s.head.clients)
    (honest : IsHonest (journal_of s c n)) where
  abbrev m : ClientMoment
  m = moment_of s c n

  says-value : (at : ℕ) (copy : GhostCopy) → copy_at m at ≡ Some copy → (f : ℕ) (told : FieldTold) → shown_at m at copy f ≡ Some told
      → (word : List ℕ) → word ≡ field_word told → SaysValue m at copy.kind f word
  says-value at copy here f told shown word is =
      let mark : is_marked word ≡ told.settled = ap is_marked is ∙ marked told.value told.settled in
      let field : IsShownField m at f copy told = record { here = here; shown = shown } in
      record {
        number = told.value;
        spelled = is ∙ ap (λ b. signed_decimal told.value ++ settled_mark b) (sym mark);
        had = had s c n h below honest at f copy told field;
        newest = λ e. settled s c n h below honest at f copy told field (sym mark ∙ e);
      }

  says-copy : (at : ℕ) (copy : GhostCopy) → copy_at m at ≡ Some copy → SaysCopy m (copy_words m at copy)
  says-copy at copy here = record {
    at = at;
    kind = copy.kind;
    in_slot = refl;
    of_kind = refl;
    values = λ f word e.
        let w = word-of (filter_map (shown_at m at copy) (upto MAX_FIELDS)) f word e in
        says-value at copy here f w.told (at_field copy m at f w.told w.there) word w.is;
  }

  all-say : (xs : List ℕ) → AllByRecursion (SaysCopy m) (filter_map (slot_words m) xs)
  all-say [] = tt
  all-say (at ∷ xs) = go (copy_at m at) refl (all-say xs)
    where
      go : (o : Option GhostCopy) → copy_at m at ≡ o → AllByRecursion (SaysCopy m) (filter_map (slot_words m) xs)
          → AllByRecursion (SaysCopy m) (cons_option (option_map (copy_words m at) o) (filter_map (slot_words m) xs))
      go None here rest = rest
      go (Some copy) here rest = (says-copy at copy here, rest)

pub printed_values : CopiesShowValues → SettledIsNewest → PrintedValues
printed_values had settled s c n text h below quiet is =
    let m = moment_of s c n in
    subst (All (SaysCopy m)) (sym (printed_as_shown s c n text is))
    (All-from_recursion (SaysCopy m) (filter_map (slot_words m) (upto MAX_SLOTS))
    (all-say had settled s c n h below (no_raw_is_honest s c n quiet) (upto MAX_SLOTS)))
