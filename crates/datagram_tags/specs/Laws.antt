-- What holds of two ends under one key.
use Rattle.std.specs.Prelude.{◌≡◌, ℕ, List, length, take, Result, Ok}
use Rattle.datagram_tags.specs.declared.keyed_end.TagFault.{TagFault}
use Rattle.datagram_tags.specs.Tagging.{KeyedState, other, tagged, Verifies}

-- the two ends of a link have one key and tags of one length
pub record AreEnds (a b : KeyedState) : Type 0 where
  pub key : b.key ≡ a.key
  pub tag : b.tag ≡ a.tag
  pub side : b.side ≡ other a.side

-- what one end tagged under a number, the other verifies under that number, and finds just these bytes
abbrev pub OtherEndVerifies : Type 0
OtherEndVerifies = (a b : KeyedState) (number : ℕ) (bytes : List ℕ) (answer : Result ℕ TagFault) → AreEnds a b
    → Verifies b number (tagged a a.side number bytes) answer → answer ≡ Ok (length bytes)

-- what an end takes is what the other end makes of it with its tag
abbrev pub VerifiesOnlyTagged : Type 0
VerifiesOnlyTagged = (a b : KeyedState) (number : ℕ) (datagram : List ℕ) (count : ℕ) → AreEnds a b → Verifies b number datagram (Ok count)
    → datagram ≡ tagged a a.side number (take count datagram)
