-- What a datagram carries. Without a key it is its bytes as they are. Under a key their tag stands behind them: the first 16 bytes of a keyed
-- digest of who sent it, of a number, and of the bytes.
use Rattle.std.specs.Prelude.{◌≡◌, ℕ, List, Option, Some, None}
use Rattle.datagram_tags.specs.declared.sides.Side.{Side}
use Rattle.datagram_tags.specs.declared.sides.Side.TheVariants.{Server}
use Rattle.datagram_tags.specs.declared.sides.TagBytes.TheVariants.{Sixteen}
use Rattle.datagram_tags.specs.Tagging.{KeyedState, tagged}
use Rattle.host_guests.specs.declared.keys.TheConstants.{TAG_BYTES}

-- the server's end under a key
abbrev pub end_under : List ℕ → KeyedState
end_under key = record { key = key; tag = Sixteen; side = Server; refused = 0 }

-- this datagram of a side carries these bytes, under this number
abbrev pub Carries : Option (List ℕ) → Side → ℕ → List ℕ → List ℕ → Type 0
Carries None side number datagram bytes = datagram ≡ bytes
Carries (Some key) side number datagram bytes = datagram ≡ tagged (end_under key) side number bytes

-- so many bytes more than it carries has a datagram
abbrev pub more_bytes : Option (List ℕ) → ℕ
more_bytes None = 0
more_bytes (Some key) = TAG_BYTES
