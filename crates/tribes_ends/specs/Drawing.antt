-- What a timeline is told of the packet that a client took last: item by item, each by the packet's number. A create begins a copy in its
-- slot, with a value of each field; an update brings values of the fields of its mask; a kill ends the copy. Told is the value that the
-- slot's copy shows, of as many fields as the timeline keeps. A timeline holds values of 32 bits: one beyond is told as the nearest.
use Rattle.std.specs.Prelude.{◌≡◌, ◌<◌, IsTrue, refl, ℕ, zero, suc, ◌+◌, ◌-◌, ◌^◌, ℤ, pos, negsuc, int_le, List, [], ◌∷◌, ◌++◌, length, slice_get, if◌then◌else◌, Option, Some, None}
use Rattle.std.specs.Option.{option_or, option_map, option_and_then}
use Rattle.std.specs.Result.{result_err}
use Rattle.tn_types.specs.BitWords.{has_bit}
use Rattle.tn_types.specs.Checks.{then_check}
use Rattle.quantised_fields.specs.declared.field.FieldSpec.{FieldSpec}
use Rattle.quantised_fields.specs.Levels.{is_sound, shown_of}
use Rattle.wire_format.specs.declared.ghosts.GhostItem.{GhostItem}
use Rattle.wire_format.specs.declared.ghosts.GhostItem.TheVariants.{Kill, Create, Update}
use Rattle.ghost_client.specs.State.{value_of}
use Rattle.stream_manager.specs.End.{last_taken_of}
use Rattle.stream_manager.specs.Client.{ClientEvent, client_end}
use Rattle.stream_manager.specs.Stands.{ClientState, ClientStandsFor}
use Rattle.timeline.specs.declared.refusal.Refusal.{Refusal}
use Rattle.timeline.specs.Telling.{Told, Began, Came, Ended}
use Rattle.timeline.specs.Standing.{Drawing, Hears, slot_check, kind_check, packet_check}
use Rattle.tribes_ends.specs.Sides.{or_zero}
use Rattle.tribes_ends.specs.declared.drawing.TheConstants.{LEAST_VALUE, MOST_VALUE}
use Rattle.tribes_ends.specs.declared.drawing.DrawFault.{DrawFault}
use Rattle.tribes_ends.specs.declared.drawing.DrawFault.TheVariants.{WrongEnd, Untold}
use Rattle.tribes_ends.specs.declared.link.Side.{Side}
use Rattle.tribes_ends.specs.declared.link.Side.TheVariants.{Server, Client}

-- ---- what is told, the newest first

-- the nearest value of 32 bits
abbrev pub narrowed : ℤ → ℤ
narrowed value = if int_le LEAST_VALUE value then if int_le value MOST_VALUE then value else MOST_VALUE else LEAST_VALUE

-- each level fits its field, and the field is sound
abbrev pub FitFields : List FieldSpec → List ℕ → Type 0
FitFields fields levels =
    (field : ℕ) (spec : FieldSpec) (level : ℕ) → slice_get fields field ≡ Some spec → slice_get levels field ≡ Some level
    → IsTrue (is_sound spec) × (level < 2 ^ spec.bits)

-- the value that the level of a field shows; none of a field that has no level
abbrev pub value_shown : List FieldSpec → List ℕ → ℕ → Option ℤ
value_shown fields levels field = option_and_then (λ spec. option_map (shown_of spec) (slice_get levels field)) (slice_get fields field)

abbrev pub told_value : ℕ → ℕ → ℕ → Option ℤ → List Told
told_value packet slot field None = []
told_value packet slot field (Some value) = record { slot = slot; packet = packet; what = Came field (narrowed value) } ∷ []

-- a field of a mask, by the values that the slots' copies show
abbrev pub told_field : ℕ → (ℕ → ℕ → Option ℤ) → ℕ → ℕ → ℕ → List Told
told_field packet value slot mask field = if has_bit mask field then told_value packet slot field (value slot field) else []

-- of the first so many fields those of the mask, rising
abbrev pub told_fields : ℕ → (ℕ → ℕ → Option ℤ) → ℕ → ℕ → ℕ → List Told
told_fields packet value slot mask zero = []
told_fields packet value slot mask (suc field) = told_field packet value slot mask field ++ told_fields packet value slot mask field

-- a create carries all fields of its kind
abbrev pub told_item : ℕ → (ℕ → ℕ → Option ℤ) → ℕ → GhostItem → List Told
told_item packet value fields (Kill slot) = record { slot = slot; packet = packet; what = Ended } ∷ []
told_item packet value fields (Create slot kind block levels) =
    told_fields packet value slot (2 ^ length levels - 1) fields ++ record { slot = slot; packet = packet; what = Began kind } ∷ []
told_item packet value fields (Update slot kind mask levels) = told_fields packet value slot mask fields

abbrev pub told_items : ℕ → (ℕ → ℕ → Option ℤ) → ℕ → List GhostItem → List Told
told_items packet value fields [] = []
told_items packet value fields (item ∷ items) = told_items packet value fields items ++ told_item packet value fields item

-- the packet that the client took last, 0 where none was
abbrev pub packet_of : List ClientEvent → ℕ
packet_of log = or_zero (last_taken_of (client_end log))

-- the timeline is told all items of that packet
abbrev pub HearsOf : ClientState → Drawing → Drawing → Type 0
HearsOf c old new =
    (log : List ClientEvent) → ClientStandsFor c log → Hears old (told_items (packet_of log) (value_of c.copies) old.fields c.changes) new

abbrev pub HearsAt : Side → Drawing → Drawing → Type 0
HearsAt (Server c) old new = ⊥
HearsAt (Client c) old new = HearsOf c old new

-- ---- what is refused

-- a slot that the timeline does not have, or a kind that its table does not have
abbrev pub item_fault : Drawing → GhostItem → Option Refusal
item_fault t (Create slot kind block levels) = result_err (then_check (slot_check t slot) (kind_check t kind))
item_fault t (Kill slot) = result_err (slot_check t slot)
item_fault t (Update slot kind mask levels) = result_err (slot_check t slot)

-- the first of them, item by item
abbrev pub items_fault : Drawing → List GhostItem → Option Refusal
items_fault t [] = None
items_fault t (item ∷ items) = option_or (item_fault t item) (items_fault t items)

-- the packet is none, or it goes back; else an item has a fault
abbrev pub hearing_fault : Drawing → ℕ → List GhostItem → Option Refusal
hearing_fault t packet items = option_or (result_err (packet_check t packet)) (items_fault t items)

-- this holds of what is refused, whichever list of what happened the client stands for
abbrev pub HearingRefused : Drawing → Side → (Option DrawFault → Type 0) → Type 0
HearingRefused t (Server c) Holds = Holds (Some WrongEnd)
HearingRefused t (Client c) Holds =
    (log : List ClientEvent) → ClientStandsFor c log → Holds (option_map Untold (hearing_fault t (packet_of log) c.changes))

-- ---- examples: slot 7, by packet 20, of copies whose field f shows 100 + f

hundreds : ℕ → ℕ → Option ℤ
hundreds slot field = Some (pos (100 + field))

an_update : told_item 20 hundreds 4 (Update 7 1 5 []) ≡ record { slot = 7; packet = 20; what = Came 2 (pos 102) } ∷ record { slot = 7; packet = 20; what = Came 0 (pos 100) } ∷ []
unfolding hundreds
an_update = refl

-- of two fields a timeline of one keeps the first
a_create : told_item 20 hundreds 1 (Create 7 1 0 (5 ∷ 6 ∷ [])) ≡ record { slot = 7; packet = 20; what = Came 0 (pos 100) } ∷ record { slot = 7; packet = 20; what = Began 1 } ∷ []
unfolding hundreds
a_create = refl

too_low : narrowed (negsuc 2147483648) ≡ negsuc 2147483647
too_low = refl
