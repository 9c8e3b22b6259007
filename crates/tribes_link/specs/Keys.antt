-- A key of one end, which the caller keeps: the tag that it puts behind a datagram, and whether a datagram has its tag. With no bytes of a tag there is no
-- key, and each datagram is as it was.
use Rattle.std.specs.Prelude.{◌≡◌, ℕ, ℤ, pos, ◌==◌, ◌+◌, nat_lt, if◌then◌else◌, List, take, drop, Option, Some, None, Result, Ok, Err}
use Rattle.datagram_tags.specs.Tagging.{KeyedState, Verifies, tag_bytes, tagged}
use Rattle.datagram_tags.specs.declared.keyed_end.TagFault.{TagFault}
use Rattle.datagram_tags.specs.declared.keyed_end.TagFault.TheVariants.{TooShort, WrongTag}
use Rattle.datagram_tags.specs.declared.sides.Side.{Side}
use Rattle.datagram_tags.specs.declared.sides.Side.TheVariants.{Client, Server}
use Rattle.datagram_tags.specs.declared.sides.TagBytes.{TagBytes}
use Rattle.datagram_tags.specs.declared.sides.TagBytes.TheVariants.{Eight, Sixteen}
use Rattle.tribes_link.specs.declared.joining_codes.TheConstants.{NO_KEY, NO_TAG, WRONG_TAG, NO_TAG_ROOM}
use Rattle.tribes_link.specs.declared.keys.KeyRow.{KeyRow}

abbrev pub tag_from : ℕ → Option TagBytes
tag_from n = if n == 8 then Some Eight else if n == 16 then Some Sixteen else None

abbrev pub side_from : ℕ → Option Side
side_from n = if n == 0 then Some Client else if n == 1 then Some Server else None

abbrev pub keyed_with : KeyRow → Option TagBytes → Option Side → Option KeyedState
keyed_with k (Some tag) (Some side) = Some (record { key = k.key; tag = tag; side = side; refused = 0 })
keyed_with k tag side = None

-- the end of these numbers, if one has them
abbrev pub keyed_from : KeyRow → Option KeyedState
keyed_from k = keyed_with k (tag_from k.tag_bytes) (side_from k.side)

-- what a call that puts a tag behind `count` bytes of a place answers
abbrev pub room_code : ℕ → ℕ → ℤ
room_code needed room = if nat_lt room needed then NO_TAG_ROOM else pos 0

abbrev pub keyed_code : Option KeyedState → ℕ → ℕ → ℤ
keyed_code None count room = NO_KEY
keyed_code (Some k) count room = room_code (count + tag_bytes k.tag) room

abbrev pub tag_code : KeyRow → ℕ → ℕ → ℤ
tag_code k count room = if k.tag_bytes == 0 then room_code count room else keyed_code (keyed_from k) count room

-- so many first bytes of the place are the bytes and their tag, and what stands further on stays
pub record IsTagged (number count total : ℕ) (old new : List ℕ) (k : KeyedState) : Type 0 where
  pub count_is : total ≡ count + tag_bytes k.tag
  pub tagged_is : take total new ≡ tagged k k.side number (take count old)
  pub rest : drop total new ≡ drop total old

abbrev pub TagsBy : Option KeyedState → ℕ → ℕ → ℕ → List ℕ → List ℕ → Type 0
TagsBy None number count total old new = (total ≡ count) × (new ≡ old)
TagsBy (Some end) number count total old new = IsTagged number count total old new end

-- the code of what verifying answers, and how many bytes were tagged
abbrev pub IsCoded : Result ℕ TagFault → ℤ → ℕ → Type 0
IsCoded (Ok n) code count = (code ≡ pos 0) × (count ≡ n)
IsCoded (Err TooShort) code count = code ≡ NO_TAG
IsCoded (Err WrongTag) code count = code ≡ WRONG_TAG

abbrev pub IsVerified : ℕ → List ℕ → ℤ → ℕ → KeyedState → Type 0
IsVerified number bytes code count k = (answer : Result ℕ TagFault) × Verifies k number bytes answer × IsCoded answer code count
