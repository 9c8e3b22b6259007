-- The pieces of a parcel, a short event or a message: each is the bytes of one guaranteed event. The first byte of a piece tells
-- its form. A message of more than 23 bytes has its length in its first piece, and as many whole pieces after it as leave at
-- least one byte for the last.
use Rattle.std.specs.Prelude.{◌≡◌, ℕ, zero, suc, ◌-◌, ◌/◌, ◌%◌, List, [], ◌∷◌, if◌then◌else◌, nat_le, length, take, drop, replicate, refl}
use Rattle.std.specs.List.{flat_map}
use Rattle.messages.specs.declared.form.Form.TheVariants.{Short, Alone, First, Middle, Last}
use Rattle.messages.specs.declared.form.ParcelKind.{ParcelKind}
use Rattle.messages.specs.declared.form.ParcelKind.TheVariants.{Event, Message}
use Rattle.messages.specs.declared.limits.TheConstants.{MAX_SINGLE_BYTES, FIRST_BYTES}
use Rattle.messages.specs.Forms.{form_byte}

pub record Parcel : Type 0 where
  pub kind : ParcelKind
  pub bytes : List ℕ

-- so many whole pieces, and a last one with what they leave
abbrev pub rest_pieces : ℕ → List ℕ → List (List ℕ)
rest_pieces zero bytes = (form_byte Last ∷ bytes) ∷ []
rest_pieces (suc more) bytes = (form_byte Middle ∷ take MAX_SINGLE_BYTES bytes) ∷ rest_pieces more (drop MAX_SINGLE_BYTES bytes)

-- the pieces of what the first piece of a message leaves
unfoldable pub rest_of : List ℕ → List (List ℕ)
rest_of bytes = rest_pieces ((length bytes - 1) / MAX_SINGLE_BYTES) bytes

-- the first piece of a message of n bytes that begins with these
abbrev pub first_piece : ℕ → List ℕ → List ℕ
first_piece n bytes = form_byte First ∷ n % 256 ∷ n / 256 ∷ take FIRST_BYTES bytes

unfoldable pub pieces_by : ParcelKind → List ℕ → List (List ℕ)
pieces_by Event bytes = (form_byte Short ∷ bytes) ∷ []
pieces_by Message bytes =
    if nat_le (length bytes) MAX_SINGLE_BYTES then (form_byte Alone ∷ bytes) ∷ []
    else first_piece (length bytes) bytes ∷ rest_of (drop FIRST_BYTES bytes)

abbrev pub pieces_of : Parcel → List (List ℕ)
pieces_of p = pieces_by p.kind p.bytes

abbrev pub all_pieces : List Parcel → List (List ℕ)
all_pieces ps = flat_map pieces_of ps

-- ---- examples: nothing, 23 bytes, and 24 to 67, whose pieces have 24, 4, 24 and 24 bytes

of_nothing : pieces_by Message [] ≡ (1 ∷ []) ∷ []
unfolding pieces_by
of_nothing = refl

abbrev bytes : ℕ → List ℕ
bytes n = replicate n 7

of_23 : pieces_by Message (bytes 23) ≡ (1 ∷ bytes 23) ∷ []
unfolding pieces_by
of_23 = refl

of_24 : pieces_by Message (bytes 24) ≡ (2 ∷ 24 ∷ 0 ∷ bytes 21) ∷ (4 ∷ bytes 3) ∷ []
unfolding pieces_by rest_of
of_24 = refl

of_44 : pieces_by Message (bytes 44) ≡ (2 ∷ 44 ∷ 0 ∷ bytes 21) ∷ (4 ∷ bytes 23) ∷ []
unfolding pieces_by rest_of
of_44 = refl

of_45 : pieces_by Message (bytes 45) ≡ (2 ∷ 45 ∷ 0 ∷ bytes 21) ∷ (3 ∷ bytes 23) ∷ (4 ∷ bytes 1) ∷ []
unfolding pieces_by rest_of
of_45 = refl

of_both : all_pieces (record { kind = Event; bytes = 8 ∷ 9 ∷ [] } ∷ record { kind = Message; bytes = 8 ∷ [] } ∷ []) ≡ (0 ∷ 8 ∷ 9 ∷ []) ∷ (1 ∷ 8 ∷ []) ∷ []
unfolding pieces_by
of_both = refl
