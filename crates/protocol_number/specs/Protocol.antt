-- What a protocol number is the digest of: the configuration, each kind behind a byte 1, a byte 0, and the game's own word. A number has four bytes, but a
-- bound of a field and a count of fields have eight, the least byte first.
use Rattle.std.specs.Prelude.{◌≡◌, refl, ℕ, pos, Bool, true, false, List, [], ◌∷◌, ◌++◌, length, Option, Some, None, slice_get}
use Rattle.std.specs.List.{flat_map}
use Rattle.std.specs.Int.{w32, w64, to_le_bytes, cast_unsigned}
use Rattle.quantised_fields.specs.declared.field.FieldSpec.{FieldSpec}
use Rattle.quantised_fields.specs.declared.kind.Kind.{Kind}
use Rattle.protocol_number.specs.declared.protocol.TheConstants.{FORM_VERSION}
use Rattle.protocol_number.specs.declared.protocol.Protocol.{Protocol}

unfoldable pub config_bytes : Protocol → List ℕ
config_bytes p =
    to_le_bytes w32 FORM_VERSION ++ to_le_bytes w32 p.version ++ to_le_bytes w32 p.size ++ to_le_bytes w32 p.life ++ to_le_bytes w32 p.move_bits

-- a bound below 0 is written as the number that is 2^64 greater
unfoldable pub field_bytes : FieldSpec → List ℕ
field_bytes f = to_le_bytes w64 (cast_unsigned w64 f.lo) ++ to_le_bytes w64 (cast_unsigned w64 f.hi) ++ to_le_bytes w32 f.bits

abbrev pub seen_byte : Bool → ℕ
seen_byte true = 1
seen_byte false = 0

unfoldable pub head_bytes : ℕ → ℕ → Bool → List ℕ
head_bytes count weight always = 1 ∷ weight ∷ seen_byte always ∷ to_le_bytes w64 count

abbrev pub kind_bytes : Kind → List ℕ
kind_bytes k = head_bytes (length k.fields) k.weight k.always ++ flat_map field_bytes k.fields

abbrev pub bytes_if : Option Kind → List ℕ
bytes_if (Some k) = kind_bytes k
bytes_if None = []

-- those of the kind of a number, if there is one
abbrev pub bytes_at : List Kind → ℕ → List ℕ
bytes_at kinds k = bytes_if (slice_get kinds k)

abbrev pub protocol_bytes : Protocol → List Kind → List ℕ → List ℕ
protocol_bytes p kinds word = config_bytes p ++ flat_map kind_bytes kinds ++ (0 ∷ []) ++ word

-- ---- an example: one kind of weight 3 with a field from 0 to 258 in nine bits, which clients see where it is in scope

one_field : FieldSpec
one_field = record { lo = pos 0; hi = pos 258; bits = 9 }

its_bytes : kind_bytes (record { fields = one_field ∷ []; weight = 3; always = false })
    ≡ 1 ∷ 3 ∷ 0 ∷ 1 ∷ 0 ∷ 0 ∷ 0 ∷ 0 ∷ 0 ∷ 0 ∷ 0 ∷ 0 ∷ 0 ∷ 0 ∷ 0 ∷ 0 ∷ 0 ∷ 0 ∷ 0 ∷ 2 ∷ 1 ∷ 0 ∷ 0 ∷ 0 ∷ 0 ∷ 0 ∷ 0 ∷ 9 ∷ 0 ∷ 0 ∷ 0 ∷ []
unfolding one_field field_bytes head_bytes
its_bytes = refl
