-- How far from a field's value it is still shown. A log has what happened, the newest first: the value was corrected, from one to another, or a
-- step passed. Shown is value + offset, so a correction adds what the value jumps down; each step leaves three quarters.
use Rattle.std.specs.Prelude.{◌≡◌, refl, ℕ, ◌≤◌, ℤ, pos, ◌+ℤ◌, ◌-ℤ◌, List, [], ◌∷◌}
use Rattle.std.specs.Int.RustNames.{unsigned_abs}
use Rattle.tn_types.specs.Histories as histories
use Rattle.fading_offset.specs.declared.fading.TheConstants.{GREATEST_MOST}
use Rattle.fading_offset.specs.Parts.{decayed, kept}

pub data FadingEvent : Type 0 where
  Corrected : (was is : ℤ) → FadingEvent
  Faded : FadingEvent

-- by the bound and the log
abbrev pub offset_by : ℕ → List FadingEvent → ℤ
offset_by most [] = pos 0
offset_by most (Corrected was is ∷ log) = kept most (offset_by most log +ℤ was -ℤ is)
offset_by most (Faded ∷ log) = decayed (offset_by most log)

-- what contracts see of an offset
pub record Shown : Type 0 where
  pub most : ℕ
  pub offset : ℤ

-- what holds of every offset
pub record IsBounded (f : Shown) : Type 0 where
  pub most : f.most ≤ GREATEST_MOST
  pub within : unsigned_abs f.offset ≤ f.most

pub record StandsFor (f : Shown) (log : List FadingEvent) : Type 0 where
  pub offset_is : f.offset ≡ offset_by f.most log

-- for every log that the old offset stood for, the new one stands for it with the event
abbrev pub Does : Shown → FadingEvent → Shown → Type 0
Does old event new = histories.Does StandsFor old event new

-- for every such log the result is what it makes of the bound
abbrev pub Answers : {R : Type 0} → Shown → (ℕ → List FadingEvent → R) → R → Type 0
Answers {R} old f result = histories.Answers StandsFor old (f old.most) result

-- ---- an example: a value that is 100 lower than it was predicted, and two steps

three_things : offset_by 1000 (Faded ∷ Faded ∷ Corrected (pos 1000) (pos 900) ∷ []) ≡ pos 56
three_things = refl
