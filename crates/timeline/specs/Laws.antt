-- What holds of the value at every moment.
use Rattle.std.specs.Prelude.{ℕ, ℤ, ◌≡◌, ◌<◌, ◌≤◌, ◌-◌, ◌*◌, ◌⊎◌, ◌&&◌, ◌≤ℤ◌, MatchBool, List, take, Some, IfSome, slice_get}
use Rattle.timeline.specs.declared.between.Keyframe.{Keyframe}
use Rattle.timeline.specs.declared.between.Interpolation.{Interpolation}
use Rattle.timeline.specs.declared.between.Interpolation.TheVariants.{Stepped, Linear, Turning}
use Rattle.timeline.specs.Lines.{moment_of, size_of, way_up, above, below, is_inside}
use Rattle.timeline.specs.Keeping.{reached_of, next_of, value_in}

-- between two numbers, whichever is greater
abbrev pub IsBetween : ℤ → ℤ → ℤ → Type 0
IsBetween from to value = ((from ≤ℤ value) × (value ≤ℤ to)) ⊎ ((to ≤ℤ value) × (value ≤ℤ from))

-- so many steps up or down from one value, and no more than the short way to the other has
abbrev pub IsOnShortWay : ℤ → ℤ → ℤ → ℤ → ℤ → Type 0
IsOnShortWay least most from to value =
    ((steps : ℕ) × (steps ≤ way_up least most from to) × (2 * way_up least most from to ≤ size_of least most) × (value ≡ above least most from steps))
    ⊎ ((steps : ℕ) × (steps ≤ size_of least most - way_up least most from to) × (size_of least most < 2 * way_up least most from to)
    × (value ≡ below least most from steps))

-- on the way from one value to the other
abbrev pub LiesOnWay : Interpolation → ℤ → ℤ → ℤ → Type 0
LiesOnWay Stepped from to value = value ≡ from
LiesOnWay Linear from to value = IsBetween from to value
LiesOnWay (Turning least most) from to value =
    MatchBool (is_inside least most from && is_inside least most to) (IsOnShortWay least most from to value) (value ≡ from)

abbrev pub ValueIsBetween : Type 0
ValueIsBetween =
    (how : Interpolation) (at : ℕ) (frames : List Keyframe) (before after : Keyframe) → reached_of at frames ≡ Some before
    → next_of at frames ≡ Some after
    → IfSome (value_in how at frames) (LiesOnWay how before.value after.value)

abbrev pub OwnMomentIsItsValue : Type 0
OwnMomentIsItsValue =
    (how : Interpolation) (at : ℕ) (frames : List Keyframe) (frame : Keyframe) → reached_of at frames ≡ Some frame
    → at ≡ moment_of frame.packet → value_in how at frames ≡ Some frame.value

abbrev pub NewestStays : Type 0
NewestStays =
    (how : Interpolation) (at : ℕ) (frames : List Keyframe) (newest : Keyframe) → slice_get frames 0 ≡ Some newest
    → moment_of newest.packet ≤ at → value_in how at frames ≡ Some newest.value

abbrev pub WindowIsEnough : Type 0
WindowIsEnough =
    (how : Interpolation) (at depth : ℕ) (frames : List Keyframe) (frame : Keyframe) → reached_of at (take depth frames) ≡ Some frame
    → value_in how at (take depth frames) ≡ value_in how at frames
