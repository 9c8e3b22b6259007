-- What is told of slots, the newest first: a copy of a kind began there, a field got a value, the copy is gone; each by a packet. What a
-- list of that says of one slot, whose copy is the one that began last.
use Rattle.std.specs.Prelude.{ℕ, ℤ, pos, ◌==◌, ◌≡◌, refl, List, [], ◌∷◌, filter, Bool, if◌then◌else◌, Option, Some, None}
use Rattle.timeline.specs.declared.between.Keyframe.{Keyframe}

abbrev pub frame_of : ℕ → ℤ → Keyframe
frame_of packet value = record { packet = packet; value = value }

pub data What : Type 0 where
  Began : (kind : ℕ) → What
  Came : (field : ℕ) (value : ℤ) → What
  Ended : What

pub record Told : Type 0 where
  pub slot : ℕ
  pub packet : ℕ
  pub what : What

-- the packet that told last, 0 where none did
abbrev pub latest_of : List Told → ℕ
latest_of [] = 0
latest_of (told ∷ log) = told.packet

-- what was told of one slot
abbrev pub is_of : ℕ → Told → Bool
is_of slot told = told.slot == slot

abbrev pub told_of : ℕ → List Told → List Told
told_of slot log = filter (is_of slot) log

-- the kind of its copy; None where none began
abbrev pub kind_after : What → Option ℕ → Option ℕ
kind_after (Began kind) before = Some kind
kind_after (Came field value) before = before
kind_after Ended before = before

abbrev pub kind_of : List Told → Option ℕ
kind_of [] = None
kind_of (told ∷ log) = kind_after told.what (kind_of log)

-- the packet by which the copy was gone; None where it is there
abbrev pub end_after : ℕ → What → Option ℕ → Option ℕ
end_after packet (Began kind) before = None
end_after packet (Came field value) before = before
end_after packet Ended before = Some packet

abbrev pub end_of : List Told → Option ℕ
end_of [] = None
end_of (told ∷ log) = end_after told.packet told.what (end_of log)

-- the values of a field that came since the copy began, the newest first
abbrev pub frames_after : ℕ → ℕ → What → List Keyframe → List Keyframe
frames_after field packet (Began kind) before = []
frames_after field packet (Came f value) before = if f == field then frame_of packet value ∷ before else before
frames_after field packet Ended before = before

abbrev pub frames_of : ℕ → List Told → List Keyframe
frames_of field [] = []
frames_of field (told ∷ log) = frames_after field told.packet told.what (frames_of field log)

-- ---- examples: a copy of kind 2 in slot 7 with two values of its field 0; it is gone, and the slot is used again

first_copy : List Told
first_copy = record { slot = 7; packet = 20; what = Came 0 (pos 140) } ∷ record { slot = 7; packet = 10; what = Came 0 (pos 100) }
    ∷ record { slot = 7; packet = 10; what = Began 2 } ∷ []

gone : List Told
gone = record { slot = 7; packet = 21; what = Ended } ∷ first_copy

used_again : List Told
used_again = record { slot = 7; packet = 30; what = Began 1 } ∷ gone

it_has_two : frames_of 0 (told_of 7 first_copy) ≡ frame_of 20 (pos 140) ∷ frame_of 10 (pos 100) ∷ []
unfolding first_copy
it_has_two = refl

another_slot_has_none : told_of 8 first_copy ≡ []
unfolding first_copy
another_slot_has_none = refl

it_keeps_them : frames_of 0 (told_of 7 gone) ≡ frames_of 0 (told_of 7 first_copy)
unfolding gone first_copy
it_keeps_them = refl

it_ends_by_21 : end_of (told_of 7 gone) ≡ Some 21
unfolding gone first_copy
it_ends_by_21 = refl

the_next_begins_anew : frames_of 0 (told_of 7 used_again) ≡ []
unfolding used_again gone first_copy
the_next_begins_anew = refl

and_has_no_end : end_of (told_of 7 used_again) ≡ None
unfolding used_again gone first_copy
and_has_no_end = refl
