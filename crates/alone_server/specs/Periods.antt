-- What is held of a client's shown periods: of each, its number, kind and newest values, and which of its fields were written
-- since the last drain. They stand by rising number.
use Rattle.std.specs.Prelude.{◌≡◌, ℕ, ◌<◌, ◌≤◌, ◌==◌, Bool, false, List, length, map, find, slice_get, Option, Some}
use Rattle.std.specs.List.{AllByRecursion, AllPairs, list_any}
use Rattle.tn_types.specs.declared.choices.Drain.{Drain}
use Rattle.tn_types.specs.declared.limits.TheConstants.{MAX_SHOWS}
use Rattle.notify_window.specs.declared.SendState.{SendState}
use Rattle.notify_window.specs.declared.SendState.TheVariants.{Held, Worn, Room}
use Rattle.pair_steps.specs.Steps.{shows_in, is_hidden_in, up_in, traits_in}
use Rattle.own_lists.specs.Own.{OwnWrite}
use Rattle.own_lists.specs.Kept.{Kept}
use Rattle.alone_server.specs.declared.periods.OwnPeriod.{OwnPeriod}

abbrev pub numbers : List OwnPeriod → List ℕ
numbers ps = map (λ p. p.n) ps

-- they stand by rising number
abbrev pub Rise : List OwnPeriod → Type 0
Rise ps = AllPairs (λ p q. p.n < q.n) ps

-- the period of this number, if it is held
abbrev pub period_in : List OwnPeriod → ℕ → Option OwnPeriod
period_in ps n = find (λ p. p.n == n) ps

-- the period of this number stands at this place
pub record IsAt (ps : List OwnPeriod) (n i : ℕ) : Type 0 where
  pub period : OwnPeriod
  pub there : slice_get ps i ≡ Some period
  pub number : period.n ≡ n

-- the period of this number is held, with a value of this field
pub record HasField (ps : List OwnPeriod) (n field : ℕ) : Type 0 where
  pub period : OwnPeriod
  pub found : period_in ps n ≡ Some period
  pub value : field < length period.values.items

-- it is one of these numbers
abbrev pub is_among : ℕ → List ℕ → Bool
is_among n ns = list_any (λ m. m == n) ns

abbrev pub drain_of : OwnPeriod → Drain
drain_of p = record { n = p.n; bits = p.written }

-- nothing was written of it since the last drain
abbrev pub unwritten : OwnPeriod → OwnPeriod
unwritten p = record { n = p.n; kind = p.kind; values = p.values; written = 0 }

-- what a pack leaves of the periods, by what it makes
abbrev pub left_by : SendState → List OwnPeriod → List OwnPeriod
left_by Room ps = map unwritten ps
left_by Held ps = ps
left_by Worn ps = ps

-- ---- the tie to an own list

-- how many periods were shown, and what is held of those that are not hidden
pub record Table : Type 0 where
  pub shows : ℕ
  pub periods : List OwnPeriod

-- what is held of a period is what the own list left of it
pub record IsHeld (k : Kept) (p : OwnPeriod) : Type 0 where
  pub kind : p.kind ≡ (traits_in k.course.steps p.n).kind
  pub values : p.values.items ≡ k.values p.n
  pub written : p.written ≡ k.written p.n

pub record Holds (x : Table) (k : Kept) : Type 0 where
  pub shows : x.shows ≡ shows_in k.course.steps
  pub few : x.shows ≤ MAX_SHOWS
  pub numbers : numbers x.periods ≡ up_in k.course.steps
  pub each : AllByRecursion (IsHeld k) x.periods
  -- only what was shown is hidden
  pub fresh : (n : ℕ) → x.shows ≤ n → is_hidden_in k.course.steps n ≡ false

-- the write is of a shown period, which has a value of the field
pub record MayWrite (k : Kept) (w : OwnWrite) : Type 0 where
  pub shown : w.n < shows_in k.course.steps
  pub up : is_hidden_in k.course.steps w.n ≡ false
  pub value : w.field < length (k.values w.n)
