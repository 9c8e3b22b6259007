-- The value of a field at a moment, by the list of all its keyframes, the newest first. A keyframe is ahead of a moment that comes before its
-- packet's. The value lies between the newest one that is not ahead and the one that came right after it. Where none is ahead it is the newest
-- value, and where all are, the oldest.
use Rattle.std.specs.Prelude.{ℕ, zero, suc, ℤ, pos, nat_lt, ◌≡◌, refl, List, [], ◌∷◌, slice_get, Bool, Option, Some, None}
use Rattle.std.specs.List.{prefix_len}
use Rattle.timeline.specs.declared.between.Keyframe.{Keyframe}
use Rattle.timeline.specs.declared.between.Interpolation.{Interpolation}
use Rattle.timeline.specs.declared.between.Interpolation.TheVariants.{Stepped, Linear, Turning}
use Rattle.timeline.specs.Lines.{moment_of}
use Rattle.timeline.specs.Between.{between}

-- what contracts see of the keyframes that are kept
pub record Kept : Type 0 where
  pub room : ℕ
  pub frames : List Keyframe

abbrev pub kept_of : ℕ → List Keyframe → Kept
kept_of room frames = record { room = room; frames = frames }

abbrev pub is_ahead : ℕ → Keyframe → Bool
is_ahead at frame = nat_lt at (moment_of frame.packet)

-- how many are ahead of the moment: the newest ones
abbrev pub ahead_of : ℕ → List Keyframe → ℕ
ahead_of at frames = prefix_len (is_ahead at) frames

-- the newest that the moment has reached, and the one that came right after it
abbrev pub reached_of : ℕ → List Keyframe → Option Keyframe
reached_of at frames = slice_get frames (ahead_of at frames)

abbrev pub one_before : List Keyframe → ℕ → Option Keyframe
one_before frames zero = None
one_before frames (suc n) = slice_get frames n

abbrev pub next_of : ℕ → List Keyframe → Option Keyframe
next_of at frames = one_before frames (ahead_of at frames)

abbrev pub value_from : Interpolation → ℕ → Option Keyframe → Option Keyframe → Option ℤ
value_from how at (Some before) (Some after) = Some (between how before after at)
value_from how at (Some before) None = Some before.value
value_from how at None (Some after) = Some after.value
value_from how at None None = None

abbrev pub value_in : Interpolation → ℕ → List Keyframe → Option ℤ
value_in how at frames = value_from how at (reached_of at frames) (next_of at frames)

-- ---- examples: values of packets 10 and 20, so with a gap of 10 packets; before them, half way, at each one's moment, and after them

two : List Keyframe
two = record { packet = 20; value = pos 140 } ∷ record { packet = 10; value = pos 100 } ∷ []

sooner : value_in Linear 2559 two ≡ Some (pos 100)
unfolding two
sooner = refl

at_10 : value_in Linear 2560 two ≡ Some (pos 100)
unfolding two
at_10 = refl

half_way : value_in Linear 3840 two ≡ Some (pos 120)
unfolding two
half_way = refl

in_steps : value_in Stepped 5119 two ≡ Some (pos 100)
unfolding two
in_steps = refl

round_a_circle : value_in (Turning (pos 0) (pos 149)) 3840 two ≡ Some (pos 120)
unfolding two
round_a_circle = refl

at_20 : value_in Linear 5120 two ≡ Some (pos 140)
unfolding two
at_20 = refl

later : value_in Linear 9000 two ≡ Some (pos 140)
unfolding two
later = refl

nothing_came : value_in Linear 9000 [] ≡ None
nothing_came = refl
