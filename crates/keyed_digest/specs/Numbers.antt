-- Each number is the one that RFC 2104 and FIPS 180-4 tell.
use Rattle.std.specs.Prelude.{◌≡◌, refl}
use Rattle.keyed_digest.specs.declared.keyed.TheConstants.{BLOCK_BYTES, DIGEST_BYTES, INNER_BYTE, OUTER_BYTE}

block_bytes : BLOCK_BYTES ≡ 64
block_bytes = refl

digest_bytes : DIGEST_BYTES ≡ 32
digest_bytes = refl

inner_byte : INNER_BYTE ≡ 0x36
inner_byte = refl

outer_byte : OUTER_BYTE ≡ 0x5c
outer_byte = refl
