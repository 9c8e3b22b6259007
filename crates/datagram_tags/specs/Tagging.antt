-- A datagram under a key: behind its bytes stands their tag, which is the first bytes of a keyed digest over whose datagram it is, its number, and
-- the bytes. A datagram of the other end is taken where it is some bytes and their tag.
use Rattle.std.specs.Prelude.{◌≡◌, refl, ◌<◌, ◌≤◌, ◌+◌, ◌-◌, ◌^◌, ℕ, List, [], ◌∷◌, ◌++◌, length, take, min, Result, Ok, Err}
use Rattle.std.specs.Int.{w64, to_le_bytes}
use Rattle.keyed_digest.specs.Keyed.{hmac}
use Rattle.datagram_tags.specs.declared.sides.Side.{Side}
use Rattle.datagram_tags.specs.declared.sides.Side.TheVariants.{Client, Server}
use Rattle.datagram_tags.specs.declared.sides.TagBytes.{TagBytes}
use Rattle.datagram_tags.specs.declared.sides.TagBytes.TheVariants.{Eight, Sixteen}
use Rattle.datagram_tags.specs.declared.keyed_end.TagFault.{TagFault}
use Rattle.datagram_tags.specs.declared.keyed_end.TagFault.TheVariants.{TooShort, WrongTag}

abbrev pub other : Side → Side
other Client = Server
other Server = Client

abbrev pub side_byte : Side → ℕ
side_byte Client = 0
side_byte Server = 1

abbrev pub tag_bytes : TagBytes → ℕ
tag_bytes Eight = 8
tag_bytes Sixteen = 16

-- what a clause sees of an end under a key
pub record KeyedState : Type 0 where
  pub key : List ℕ
  pub tag : TagBytes
  pub side : Side
  pub refused : ℕ

-- what a tag is over: one byte says whose datagram it is, eight the number, the least byte first
unfoldable pub covered : Side → ℕ → List ℕ → List ℕ
covered side number bytes = (side_byte side ∷ to_le_bytes w64 number) ++ bytes

abbrev pub tag_of : KeyedState → Side → ℕ → List ℕ → List ℕ
tag_of s side number bytes = take (tag_bytes s.tag) (hmac s.key (covered side number bytes))

-- some bytes as this side sends them
abbrev pub tagged : KeyedState → Side → ℕ → List ℕ → List ℕ
tagged s side number bytes = bytes ++ tag_of s side number bytes

-- whether a datagram of the other end is taken
abbrev pub Verifies : KeyedState → ℕ → List ℕ → Result ℕ TagFault → Type 0
Verifies s number datagram (Ok count) =
    (count + tag_bytes s.tag ≡ length datagram) × (datagram ≡ tagged s (other s.side) number (take count datagram))
Verifies s number datagram (Err TooShort) = length datagram < tag_bytes s.tag
Verifies s number datagram (Err WrongTag) =
    (tag_bytes s.tag ≤ length datagram) × ((bytes : List ℕ) → datagram ≡ tagged s (other s.side) number bytes → ⊥)

-- one more, up to the greatest number
abbrev pub counted : ℕ → ℕ
counted n = min (n + 1) (2 ^ 64 - 1)

-- ---- an example: number 258 of the server

what_is_covered : covered Server 258 (7 ∷ 9 ∷ []) ≡ 1 ∷ 2 ∷ 1 ∷ 0 ∷ 0 ∷ 0 ∷ 0 ∷ 0 ∷ 0 ∷ 7 ∷ 9 ∷ []
unfolding covered
what_is_covered = refl
