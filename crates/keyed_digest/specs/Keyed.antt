-- HMAC-SHA-256, as RFC 2104 has it: the digest of (key xor opad) and of the digest of (key xor ipad) and the message. The key is filled up to a
-- block with zeros; of one that is longer its digest is taken.
use Rattle.std.specs.Prelude.{◌≡◌, refl, ℕ, ◌-◌, List, [], ◌∷◌, ◌++◌, length, map, replicate, bit_xor, nat_lt, if◌then◌else◌}
use Rattle.sha2.specs.Sha256.{sha256}
use Rattle.keyed_digest.specs.declared.keyed.TheConstants.{BLOCK_BYTES, INNER_BYTE, OUTER_BYTE}

-- filled up with zeros to a block
abbrev pub filled : List ℕ → List ℕ
filled key = key ++ replicate (BLOCK_BYTES - length key) 0

abbrev pub block_of : List ℕ → List ℕ
block_of key = if nat_lt BLOCK_BYTES (length key) then filled (sha256 key) else filled key

abbrev pub mixed : ℕ → List ℕ → List ℕ
mixed byte key = map (bit_xor byte) (block_of key)

unfoldable pub hmac : List ℕ → List ℕ → List ℕ
hmac key message = sha256 (mixed OUTER_BYTE key ++ sha256 (mixed INNER_BYTE key ++ message))

-- ---- examples

full_key : block_of (replicate 64 7) ≡ replicate 64 7
full_key = refl

short_key : length (block_of (1 ∷ 2 ∷ 3 ∷ [])) ≡ 64
short_key = refl
