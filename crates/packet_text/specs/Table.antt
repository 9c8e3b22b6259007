-- The table of a datagram: a line for each part, and one for its fault. What a value means stands behind it.
use Rattle.std.specs.Prelude.{ℕ, zero, suc, ◌+◌, ◌-◌, ◌/◌, ◌%◌, ◌^◌, ◌==◌, ◌&&◌, nat_lt, nat_le, if◌then◌else◌, List, [], ◌∷◌, ◌++◌, length, take, map, Bool, Option, Some, None, pos, ◌-ℤ◌, codes, slice_get}
use Rattle.std.specs.List.{list_all}
use Rattle.std.specs.Fmt.{decimal, signed_decimal}
use Rattle.tn_types.specs.declared.limits.TheConstants.{MAX_FIELDS}
use Rattle.quantised_fields.specs.declared.field.FieldSpec.{FieldSpec}
use Rattle.quantised_fields.specs.declared.kind.Kind.{Kind}
use Rattle.quantised_fields.specs.Levels.{shown_of}
use Rattle.world_rules.specs.Kinds.{kind_word}
use Rattle.wire_format.specs.declared.fault.BitsFault.{BitsFault}
use Rattle.wire_format.specs.Said.{cause_word}
use Rattle.packet_parts.specs.declared.part.Part.{Part}
use Rattle.packet_parts.specs.declared.part.PartName.{PartName}
use Rattle.packet_parts.specs.declared.part.PartName.TheVariants as names
use Rattle.packet_parts.specs.declared.packets.Telling.{Telling}
use Rattle.packet_text.specs.Names.{field_word, name_text}

-- ---- what a value means

abbrev pub kind_meaning : ℕ → List ℕ
kind_meaning value = if value == 0 then codes " data" else codes " ping"

abbrev pub op_meaning : ℕ → List ℕ
op_meaning value = if value == 0 then codes " kill" else if value == 1 then codes " create" else codes " update"

-- the name of a field that a mask has
abbrev pub field_text : ℕ → ℕ → ℕ → List ℕ
field_text kind mask field = if mask / 2 ^ field % 2 == 1 then codes " " ++ field_word kind field else []

-- the names of so many fields, as far as the mask has them, from this field on
unfoldable pub fields_text : ℕ → ℕ → ℕ → ℕ → List ℕ
fields_text kind mask field zero = []
fields_text kind mask field (suc n) = field_text kind mask field ++ fields_text kind mask (field + 1) n

-- a mask has at most 16 fields
abbrev pub mask_meaning : ℕ → ℕ → ℕ → List ℕ
mask_meaning kind mask width = if nat_le width MAX_FIELDS then fields_text kind mask 0 width else []

-- the number of a kind has fewer than 8 bits
abbrev pub number_meaning : ℕ → List ℕ
number_meaning kind = if nat_lt kind 256 then codes " " ++ kind_word kind else []

-- the value that a level of a field shows
abbrev pub shown_text : Option FieldSpec → ℕ → List ℕ
shown_text None level = []
shown_text (Some spec) level = if nat_lt level (2 ^ spec.bits) then codes " " ++ signed_decimal (shown_of spec level) else []

abbrev pub field_of : Option Kind → ℕ → Option FieldSpec
field_of None field = None
field_of (Some kind) field = slice_get kind.fields field

-- a byte that is text
abbrev pub is_text : Part → Bool
is_text p = nat_le 32 p.value && nat_le p.value 126

-- an event of text: of these parts the first ones are its bytes
abbrev pub event_text : ℕ → List Part → List ℕ
event_text count parts =
    if nat_lt 0 count && nat_le count (length parts) && list_all is_text (take count parts)
    then codes " \"" ++ (map (λ p. p.value) (take count parts) ++ codes "\"") else []

abbrev pub step_text : ℕ → List ℕ
step_text value = codes " " ++ signed_decimal (pos value -ℤ pos 8)

abbrev pub meaning : List Kind → PartName → ℕ → ℕ → List Part → List ℕ
meaning kinds names.Kind width value parts = kind_meaning value
meaning kinds names.Op width value parts = op_meaning value
meaning kinds names.GhostKind width value parts = number_meaning value
meaning kinds (names.FieldMask kind) width value parts = mask_meaning kind value width
meaning kinds (names.Level kind field) width value parts = shown_text (field_of (slice_get kinds kind) field) value
meaning kinds names.EventLength width value parts = event_text value parts
meaning kinds names.StepX width value parts = step_text value
meaning kinds names.StepY width value parts = step_text value
meaning kinds name width value parts = []

-- ---- lines

-- where a part is
abbrev pub place_text : Part → List ℕ
place_text p = decimal p.bit ++ (codes " " ++ (decimal p.width ++ codes " "))

-- what it is, and its number
abbrev pub named_text : Part → List ℕ
named_text p = name_text p.name ++ (codes " " ++ decimal p.value)

-- a part before these
abbrev pub part_text : List Kind → Part → List Part → List ℕ
part_text kinds p parts = place_text p ++ (named_text p ++ (meaning kinds p.name p.width p.value parts ++ codes "\n"))

unfoldable pub parts_text : List Kind → List Part → List ℕ
parts_text kinds [] = []
parts_text kinds (p ∷ parts) = part_text kinds p parts ++ parts_text kinds parts

abbrev pub fault_text : Option BitsFault → List ℕ
fault_text None = []
fault_text (Some e) = decimal e.place ++ (codes " fault " ++ (cause_word e.cause ++ codes "\n"))

abbrev pub telling_text : List Kind → Telling → List ℕ
telling_text kinds t = parts_text kinds t.parts ++ fault_text t.fault
