-- Addresses and nonces, and the number of a challenge: the first sixteen bytes of a keyed digest of the address and the nonce, under a secret of
-- the server. So it is known to the server, and to who reads what is sent to the address.
use Rattle.std.specs.Prelude.{◌≡◌, refl, ◌==◌, ◌&&◌, ◌+◌, ℕ, Bool, List, [], ◌∷◌, ◌++◌, take, drop}
use Rattle.std.specs.Int.{w16, w64, to_be_bytes, to_le_bytes, from_le_bytes}
use Rattle.keyed_digest.specs.Keyed.{hmac}
use Rattle.greeting.specs.declared.words.Address.{Address}
use Rattle.greeting.specs.declared.words.Sixteen.{Sixteen}

abbrev pub is_same : Address → Address → Bool
is_same a b = (a.high == b.high) && (a.low == b.low) && (a.port == b.port)

abbrev pub is_equal : Sixteen → Sixteen → Bool
is_equal m n = (m.low == n.low) && (m.high == n.high)

-- the highest byte first
unfoldable pub address_bytes : Address → List ℕ
address_bytes a = to_be_bytes w64 a.high ++ to_be_bytes w64 a.low ++ to_be_bytes w16 a.port

-- the least byte first
unfoldable pub bytes_of : Sixteen → List ℕ
bytes_of n = to_le_bytes w64 n.low ++ to_le_bytes w64 n.high

-- eight bytes from a place on
unfoldable pub word_at : ℕ → List ℕ → ℕ
word_at i bytes = from_le_bytes w64 (take 8 (drop i bytes))

abbrev pub sixteen_at : ℕ → List ℕ → Sixteen
sixteen_at i bytes = record { low = word_at i bytes; high = word_at (i + 8) bytes }

unfoldable pub number_of : List ℕ → Address → Sixteen → Sixteen
number_of secret a nonce = sixteen_at 0 (hmac secret (address_bytes a ++ bytes_of nonce))

-- ---- examples

one_and_two : bytes_of (record { low = 1; high = 2 }) ≡ 1 ∷ 0 ∷ 0 ∷ 0 ∷ 0 ∷ 0 ∷ 0 ∷ 0 ∷ 2 ∷ 0 ∷ 0 ∷ 0 ∷ 0 ∷ 0 ∷ 0 ∷ 0 ∷ []
unfolding bytes_of
one_and_two = refl

-- 127.0.0.1, port 28001
an_address : address_bytes (record { high = 0; low = 0xffff_7f00_0001; port = 28001 })
    ≡ 0 ∷ 0 ∷ 0 ∷ 0 ∷ 0 ∷ 0 ∷ 0 ∷ 0 ∷ 0 ∷ 0 ∷ 0xff ∷ 0xff ∷ 127 ∷ 0 ∷ 0 ∷ 1 ∷ 109 ∷ 97 ∷ []
unfolding address_bytes
an_address = refl
