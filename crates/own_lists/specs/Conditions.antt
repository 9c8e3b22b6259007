-- When an item may follow, by what the own list before it leaves; and which own lists meet this at each of their items. A match
-- gives only such lists.
use Rattle.std.specs.Prelude.{◌≡◌, ℕ, ◌<◌, ◌≤◌, ◌≤ℤ◌, false, List, [], ◌∷◌, map, length, slice_get, Some}
use Rattle.std.specs.List.{AllByRecursion}
use Rattle.quantised_fields.specs.declared.field.FieldSpec.{FieldSpec}
use Rattle.pair_steps.specs.ghost_masks.Plan.{fields_of}
use Rattle.pair_steps.specs.ghost_masks.Carried.{AreValues}
use Rattle.pair_steps.specs.stream_manager.Limits.{Terms}
use Rattle.pair_steps.specs.pair_core.History.{PairStep}
use Rattle.pair_steps.specs.pair_core.Conditions.{IsMet}
use Rattle.client_scope.specs.declared.period.Near.{Near}
use Rattle.pair_steps.specs.Steps.{shows_in, is_hidden_in, traits_in}
use Rattle.own_lists.specs.Own.{OwnShow, OwnWrite, OwnItem, Line, Scan, Tick, StandsAlone}
use Rattle.own_lists.specs.Course.{waiting_in, scan_steps}
use Rattle.own_lists.specs.Kept.{Kept, kept}

-- each of these steps, in their order, may be made after those before it
abbrev pub MeetEach : Terms → List PairStep → List PairStep → Type 0
MeetEach t [] steps = Unit {0}
MeetEach t (step ∷ more) steps = IsMet t steps step × MeetEach t more (step ∷ steps)

-- a shown period has values for each of its fields, each in its range
abbrev pub HasValues : Terms → OwnShow → Type 0
HasValues t s = AreValues (fields_of t.kinds s.how.kind) s.values

-- the write is of a field of a period that is shown and not hidden, and in the field's range
pub record IsOwnWrite (t : Terms) (steps : List PairStep) (w : OwnWrite) : Type 0 where
  pub shown : w.n < shows_in steps
  pub up : is_hidden_in steps w.n ≡ false
  pub spec : FieldSpec
  pub field : slice_get (fields_of t.kinds (traits_in steps w.n).kind) w.field ≡ Some spec
  pub least : spec.lo ≤ℤ w.value
  pub most : w.value ≤ℤ spec.hi

pub record IsOwnScan (t : Terms) (k : Kept) (hides : List ℕ) (nears : List Near) (shows : List OwnShow) : Type 0 where
  pub steps : MeetEach t (scan_steps hides nears (map (λ s. s.how) shows)) k.course.steps
  pub values : AllByRecursion (HasValues t) shows

-- a tick takes a move only where one waits
pub record IsOwnTick (t : Terms) (k : Kept) (writes : List OwnWrite) (taken : ℕ) : Type 0 where
  pub of_periods : AllByRecursion (IsOwnWrite t k.course.steps) writes
  pub one : taken ≤ 1
  pub waits : taken ≤ length (waiting_in t k.course)

abbrev pub MayFollow : Terms → Kept → OwnItem → Type 0
MayFollow t k (Line line) = StandsAlone line
MayFollow t k (Scan hides nears shows) = IsOwnScan t k hides nears shows
MayFollow t k (Tick writes taken) = IsOwnTick t k writes taken

-- each item may follow on those before it
abbrev pub AreOwn : Terms → List OwnItem → Type 0
AreOwn t [] = Unit {0}
AreOwn t (item ∷ items) = MayFollow t (kept t items) item × AreOwn t items
