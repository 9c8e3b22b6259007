-- What an end is made with, from lists of numbers: its configuration, its kinds, whose fields stand one after the other, and its
-- blocks, whose bytes do. And what of these is refused: the first of these tests that fails, in this order, and want of memory after
-- all of them.
use Rattle.std.specs.Prelude.{◌≡◌, refl, ℕ, pos, ◌==◌, ◌||◌, ◌&&◌, not, nat_lt, Bool, false, List, [], ◌∷◌, length, map, take, drop, sum, sum_by, if◌then◌else◌, Option, Some, None, Result, Err, IfErr}
use Rattle.std.specs.List.{list_any}
use Rattle.std.specs.Option.{option_or, option_map}
use Rattle.tn_types.specs.declared.limits.TheConstants.{MAX_CLIENTS, MAX_LIFE, MAX_DATAGRAM_BYTES, MAX_KINDS, MAX_LISTED_FIELDS, MAX_BLOCKS, MAX_BLOCK_BYTES}
use Rattle.quantised_fields.specs.declared.field.FieldSpec.{FieldSpec}
use Rattle.quantised_fields.specs.declared.kind.Kind.{Kind}
use Rattle.quantised_fields.specs.declared.table.KindFault.TheVariants.{TooManyKinds}
use Rattle.quantised_fields.specs.Kinds.{table_fault}
use Rattle.wire_format.specs.declared.wire.Wire.{Wire}
use Rattle.wire_format.specs.Moves.{move_width}
use Rattle.stream_manager.specs.declared.config.Config.{Config}
use Rattle.stream_manager.specs.Limits.{Terms, wire_of, least_size}
use Rattle.tribes_ends.specs.declared.tables.ConfigRow.{ConfigRow}
use Rattle.tribes_ends.specs.declared.tables.FieldRow.{FieldRow}
use Rattle.tribes_ends.specs.declared.tables.KindRow.{KindRow}
use Rattle.tribes_ends.specs.declared.refusal.Refusal.{Refusal}
use Rattle.tribes_ends.specs.declared.refusal.Refusal.TheVariants.{NoMemory, BadClient, BadLife, BadVersion, BadMoveBits, BadSize, BadKinds, BadFieldCounts, BadBlocks}

-- ---- what is made

-- the bits of a move: 0 stands for those that the version has by itself, ten in versions 1 and 2, and none in version 3
abbrev pub move_bits_of : ConfigRow → ℕ
move_bits_of r = if r.move_bits == 0 then move_width (record { version = r.version; move_bits = 0 }) else r.move_bits

abbrev pub config_of : ConfigRow → Config
config_of r = record { client = r.client; life = r.life; size = r.size; version = r.version; move_bits = move_bits_of r }

abbrev pub field_of : FieldRow → FieldSpec
field_of f = record { lo = f.lo; hi = f.hi; bits = f.bits }

-- a kind with these fields. None is always seen: a caller shows what is in scope
abbrev pub kind_of : KindRow → List FieldRow → Kind
kind_of k fields = record { fields = map field_of fields; weight = k.weight; always = false }

-- each kind takes its fields from the front of those that are left
abbrev pub kinds_of : List KindRow → List FieldRow → List Kind
kinds_of [] fields = []
kinds_of (k ∷ kinds) fields = kind_of k (take k.fields fields) ∷ kinds_of kinds (drop k.fields fields)

-- each block takes so many bytes from the front of those that are left
abbrev pub blocks_of : List ℕ → List ℕ → List (List ℕ)
blocks_of bytes [] = []
blocks_of bytes (n ∷ lengths) = take n bytes ∷ blocks_of (drop n bytes) lengths

abbrev pub terms_from : ConfigRow → List KindRow → List FieldRow → List ℕ → List ℕ → Terms
terms_from r kinds fields bytes lengths =
    record { config = config_of r; kinds = kinds_of kinds fields; blocks = blocks_of bytes lengths }

-- ---- what is refused

-- a move has some bits, and as many as it says: ten in versions 1 and 2, and in version 3 at most 64
abbrev pub has_moves : Wire → Bool
has_moves wire = nat_lt 0 wire.move_bits && move_width wire == wire.move_bits

-- the least size follows from the bits of a move
abbrev pub config_refusal : ConfigRow → Option Refusal
config_refusal r =
    if not (nat_lt r.client MAX_CLIENTS) then Some (BadClient r.client)
    else if r.life == 0 || nat_lt MAX_LIFE r.life then Some (BadLife r.life)
    else if nat_lt r.version 1 || nat_lt 3 r.version then Some (BadVersion r.version)
    else if not (has_moves (wire_of (config_of r))) then Some (BadMoveBits r.move_bits)
    else if nat_lt r.size (least_size (wire_of (config_of r))) || nat_lt MAX_DATAGRAM_BYTES r.size then Some (BadSize r.size)
    else None

-- the counts are not those of the fields, or one is above what a list of fields holds
abbrev pub kinds_refusal : List KindRow → List FieldRow → Option Refusal
kinds_refusal kinds fields =
    if nat_lt MAX_KINDS (length kinds) then Some (BadKinds TooManyKinds)
    else if list_any (λ k. nat_lt MAX_LISTED_FIELDS k.fields) kinds then Some BadFieldCounts
    else if not (sum_by (λ k. k.fields) kinds == length fields) then Some BadFieldCounts
    else option_map BadKinds (table_fault (kinds_of kinds fields))

abbrev pub blocks_refusal : List ℕ → List ℕ → Option Refusal
blocks_refusal bytes lengths =
    if nat_lt MAX_BLOCKS (length lengths) then Some BadBlocks
    else if list_any (nat_lt MAX_BLOCK_BYTES) lengths then Some BadBlocks
    else if not (sum lengths == length bytes) then Some BadBlocks
    else None

abbrev pub client_refusal : ConfigRow → List KindRow → List FieldRow → Option Refusal
client_refusal r kinds fields = option_or (config_refusal r) (kinds_refusal kinds fields)

abbrev pub server_refusal : ConfigRow → List KindRow → List FieldRow → List ℕ → List ℕ → Option Refusal
server_refusal r kinds fields bytes lengths = option_or (client_refusal r kinds fields) (blocks_refusal bytes lengths)

-- what a call that makes something answers: this refusal, or else what it makes, if memory is to be had
abbrev pub IsMadeUnless : {T : Type 0} → Option Refusal → Result T Refusal → Type 0
IsMadeUnless (Some refusal) result = result ≡ Err refusal
IsMadeUnless None result = IfErr result (λ e. e ≡ NoMemory)

-- ---- examples

-- of three fields the first kind has two, and the second the third
abbrev row : ℕ → FieldRow
row bits = record { lo = pos 0; hi = pos 9; bits = bits }

two_kinds : map (λ k. k.fields)
    (kinds_of (record { fields = 2; weight = 7 } ∷ record { fields = 1; weight = 8 } ∷ []) (row 4 ∷ row 5 ∷ row 6 ∷ []))
    ≡ (field_of (row 4) ∷ field_of (row 5) ∷ []) ∷ (field_of (row 6) ∷ []) ∷ []
two_kinds = refl

two_blocks : blocks_of (1 ∷ 2 ∷ 3 ∷ []) (1 ∷ 2 ∷ []) ≡ (1 ∷ []) ∷ (2 ∷ 3 ∷ []) ∷ []
two_blocks = refl

-- 64 bits a move want 299 bytes, and ten bits 128
abbrev configured : ℕ → ℕ → ℕ → ConfigRow
configured size version move_bits = record { client = 0; life = 1; size = size; version = version; move_bits = move_bits }

wide_moves : config_refusal (configured 298 3 64) ≡ Some (BadSize 298)
wide_moves = refl

wide_moves_fit : config_refusal (configured 299 3 64) ≡ None
wide_moves_fit = refl

zero_is_ten : config_refusal (configured 128 2 0) ≡ None
zero_is_ten = refl

own_moves_in_version_2 : config_refusal (configured 128 2 22) ≡ Some (BadMoveBits 22)
own_moves_in_version_2 = refl

a_byte_too_many : blocks_refusal (1 ∷ 2 ∷ 3 ∷ []) (1 ∷ 1 ∷ []) ≡ Some BadBlocks
a_byte_too_many = refl
