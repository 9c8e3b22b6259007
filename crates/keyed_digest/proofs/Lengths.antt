-- How long a keyed digest is.
use Rattle.std.proofs.Common.{◌≡◌, ℕ, List, ◌++◌, length}
use Rattle.sha2.specs.Sha256.{sha256}
use Rattle.sha2.proofs.Facts256.{length-sha256}
use Rattle.keyed_digest.specs.declared.keyed.TheConstants.{INNER_BYTE, OUTER_BYTE}
use Rattle.keyed_digest.specs.Keyed.{mixed, hmac}

pub length-hmac : (key message : List ℕ) → length (hmac key message) ≡ 32
unfolding hmac
length-hmac key message = length-sha256 (mixed OUTER_BYTE key ++ sha256 (mixed INNER_BYTE key ++ message))
