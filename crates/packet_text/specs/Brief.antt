-- A datagram in one line. It begins with a space, and stands behind a word that says where the datagram comes from. Left out are the bits of
-- its parts, masks and counts, the bytes of events and datablocks, and what is in moves.
use Rattle.std.specs.Prelude.{ℕ, List, [], ◌∷◌, ◌++◌, ◌≡◌, Bool, if◌then◌else◌, Option, Some, None, codes, slice_get, refl}
use Rattle.std.specs.Fmt.{digits, decimal}
use Rattle.quantised_fields.specs.declared.kind.Kind.{Kind}
use Rattle.wire_format.specs.declared.fault.BitsFault.{BitsFault}
use Rattle.wire_format.specs.declared.fault.BitsCause.TheVariants as causes
use Rattle.wire_format.specs.Said.{cause_word}
use Rattle.packet_parts.specs.declared.part.Part.{Part}
use Rattle.packet_parts.specs.declared.part.PartName.{PartName}
use Rattle.packet_parts.specs.declared.part.PartName.TheVariants as names
use Rattle.packet_parts.specs.declared.packets.Telling.{Telling}
use Rattle.packet_text.specs.Names.{field_word}
use Rattle.packet_text.specs.Table.{kind_meaning, op_meaning, number_meaning, shown_text, field_of, event_text, telling_text}

-- what stands before the number of a part that is told as a number. A comma begins what is one thing: a datablock, an event, a ghost, moves
abbrev pub word_of : PartName → List ℕ
word_of names.Client = codes " client "
word_of names.Seq = codes " seq "
word_of names.Horizon = codes " horizon "
word_of names.Accepted = codes " accepted "
word_of names.ControlSlot = codes " control "
word_of names.BlockNumber = codes ", block "
word_of names.BlockLength = codes " length "
word_of names.EventNumber = codes " "
word_of names.EventLength = codes " length "
word_of names.Slot = codes ", slot "
word_of names.GhostBlock = codes " block "
word_of names.FirstMove = codes ", moves from "
word_of names.MoveCount = codes " count "
word_of name = []

-- a part that has no such word is told by no number
abbrev pub numbered : List ℕ → ℕ → List ℕ
numbered [] value = []
numbered (c ∷ word) value = (c ∷ word) ++ decimal value

-- what the line says of a part before these
abbrev pub brief_of : List Kind → PartName → ℕ → List Part → List ℕ
brief_of kinds names.Kind value parts = kind_meaning value
brief_of kinds names.EventFlag value parts = codes ", event"
brief_of kinds names.EventLength value parts = numbered (word_of names.EventLength) value ++ event_text value parts
brief_of kinds names.Op value parts = op_meaning value
brief_of kinds names.GhostKind value parts = number_meaning value
brief_of kinds (names.Level kind field) value parts = codes " " ++ (field_word kind field ++ shown_text (field_of (slice_get kinds kind) field) value)
brief_of kinds name value parts = numbered (word_of name) value

unfoldable pub briefs_of : List Kind → List Part → List ℕ
briefs_of kinds [] = []
briefs_of kinds (p ∷ parts) = brief_of kinds p.name p.value parts ++ briefs_of kinds parts

abbrev pub fault_brief : Option BitsFault → List ℕ
fault_brief None = []
fault_brief (Some e) = codes ", fault " ++ (cause_word e.cause ++ (codes " at " ++ decimal e.place))

abbrev pub line_text : List Kind → Telling → List ℕ
line_text kinds t = briefs_of kinds t.parts ++ (fault_brief t.fault ++ codes "\n")

-- by the line, or by the table
abbrev pub told_text : Bool → List Kind → Telling → List ℕ
told_text brief kinds t = if brief then line_text kinds t else telling_text kinds t

-- ---- an example: the beginning of a datagram with an event and a fault

abbrev hi : List Part
hi = record { bit = 0; width = 2; name = names.Kind; value = 0 } ∷ record { bit = 2; width = 4; name = names.Client; value = 3 }
    ∷ record { bit = 54; width = 32; name = names.Mask; value = 0 } ∷ record { bit = 120; width = 1; name = names.EventFlag; value = 1 }
    ∷ record { bit = 121; width = 7; name = names.EventNumber; value = 5 } ∷ record { bit = 128; width = 5; name = names.EventLength; value = 2 }
    ∷ record { bit = 133; width = 8; name = names.EventByte; value = 104 } ∷ record { bit = 141; width = 8; name = names.EventByte; value = 105 } ∷ []

of_hi : line_text [] (record { parts = hi; fault = Some (record { place = 9; cause = causes.Short }) })
    ≡ codes " data client 3, event 5 length 2 \"hi\", fault Short at 9\n"
unfolding briefs_of digits
of_hi = refl
