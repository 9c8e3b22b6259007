-- What the calls of a timeline answer: where none is behind its handle, they say so; else the code of what is refused, or where nothing is
-- refused a number from 0 on. And what a timeline is made of: its shape, and how each field goes.
use Rattle.std.specs.Prelude.{◌≡◌, ◌⊎◌, refl, ℕ, ℤ, pos, ◌==◌, int_le, not, Bool, true, false, List, length, map, if◌then◌else◌, Option, Some, None}
use Rattle.std.specs.List.{list_any}
use Rattle.timeline.specs.declared.between.Interpolation.{Interpolation}
use Rattle.timeline.specs.declared.between.Interpolation.TheVariants.{Stepped, Linear, Turning}
use Rattle.timeline.specs.declared.refusal.Refusal.{Refusal}
use Rattle.timeline.specs.declared.refusal.Refusal.TheVariants as refused
use Rattle.timeline.specs.declared.told.Shape.{Shape}
use Rattle.timeline.specs.declared.told.TheConstants.{USUAL_DEPTH}
use Rattle.timeline.specs.Shapes.{IsSound}
use Rattle.timeline.specs.Standing.{Drawing}
use Rattle.tribes_ends.specs.declared.drawing.DrawFault.{DrawFault}
use Rattle.tribes_ends.specs.declared.drawing.DrawFault.TheVariants as fault
use Rattle.tribes_ends.specs.declared.link.Side.{Side}
use Rattle.tribes_link.specs.declared.answering.TheConstants.{NO_END, NO_MEMORY}
use Rattle.tribes_link.specs.declared.end.TheConstants.{OPEN}
use Rattle.tribes_link.specs.declared.timeline_handle.TheConstants.{OPEN_TIMELINE}
use Rattle.tribes_link.specs.declared.timeline_handle.ShapeRow.{ShapeRow}
use Rattle.tribes_link.specs.declared.timeline_handle.WayRow.{WayRow}
use Rattle.tribes_link.specs.declared.timeline_answers.TheConstants.{NO_TIMELINE, BAD_SHAPE, BAD_WAY, NO_SLOT, NO_PACKET, GOES_BACK, NO_FIELD, NO_KIND, WRONG_END}
use Rattle.tribes_link.specs.Answers.{is_answer}
use Rattle.tribes_link.specs.Behind.{Tells}

-- ---- what it is made of

-- a depth of 0 stands for the usual one
abbrev pub shape_of : ShapeRow → Shape
shape_of r = record { slots = r.slots; fields = r.fields; depth = if r.depth == 0 then USUAL_DEPTH else r.depth }

abbrev pub way_of : WayRow → Interpolation
way_of r = if r.how == 1 then Linear else if r.how == 2 then Turning r.least r.most else Stepped

-- a circle has values from the least to the most
abbrev pub is_way : WayRow → Bool
is_way r = if r.how == 0 then true else if r.how == 1 then true else if r.how == 2 then int_le r.least r.most else false

abbrev pub is_no_way : WayRow → Bool
is_no_way r = not (is_way r)

pub record HasShape (s : Shape) (rows : List WayRow) (t : Drawing) : Type 0 where
  pub ways : t.ways ≡ map way_of rows
  pub fields : t.fields ≡ s.fields
  pub depth : t.depth ≡ s.depth
  pub slots : length t.slots ≡ s.slots

-- the first that is wrong is refused; else it is made, if memory is to be had
pub record Opens (s : Shape) (rows : List WayRow) (code : ℤ) : Type 0 where
  pub shape : (IsSound s → ⊥) → code ≡ BAD_SHAPE
  pub ways : IsSound s → list_any is_no_way rows ≡ true → code ≡ BAD_WAY
  pub made : IsSound s → list_any is_no_way rows ≡ false → (code ≡ pos 0) ⊎ (code ≡ NO_MEMORY)

-- ---- what is answered

abbrev pub line_code : Refusal → ℤ
line_code refused.NoSlot = NO_SLOT
line_code refused.NoPacket = NO_PACKET
line_code refused.GoesBack = GOES_BACK
line_code refused.NoField = NO_FIELD
line_code refused.NoKind = NO_KIND

abbrev pub LineAnswered : ℕ → ℤ → Option Refusal → Type 0
LineAnswered most code None = is_answer most code ≡ true
LineAnswered most code (Some refusal) = code ≡ line_code refusal

abbrev pub DrawAnswered : ℤ → Option DrawFault → Type 0
DrawAnswered code None = code ≡ pos 0
DrawAnswered code (Some fault.WrongEnd) = code ≡ WRONG_END
DrawAnswered code (Some (fault.Untold refusal)) = code ≡ line_code refusal

-- by the state of the handle, and the timeline that is behind it
pub record LineAnswers (state : ℕ) (held : Option Drawing) (code : ℤ) (Holds : Drawing → Type 0) : Type 0 where
  pub none : (state ≡ OPEN_TIMELINE → ⊥) → code ≡ NO_TIMELINE
  pub some : state ≡ OPEN_TIMELINE → Tells Holds held

-- by both handles, the timeline's first
pub record TakeAnswers (state : ℕ) (held : Option Drawing) (end_state : ℕ) (end : Option Side) (code : ℤ) (Holds : Drawing → Side → Type 0) : Type 0 where
  pub none : (state ≡ OPEN_TIMELINE → ⊥) → code ≡ NO_TIMELINE
  pub no_end : state ≡ OPEN_TIMELINE → (end_state ≡ OPEN → ⊥) → code ≡ NO_END
  pub both : state ≡ OPEN_TIMELINE → end_state ≡ OPEN → Tells (λ t. Tells (Holds t) end) held

-- ---- examples

a_circle : is_way (record { how = 2; least = pos 0; most = pos 359 }) ≡ true
a_circle = refl

none : is_way (record { how = 2; least = pos 1; most = pos 0 }) ≡ false
none = refl
