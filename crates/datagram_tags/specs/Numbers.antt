-- The number that docs/joining.md tells.
use Rattle.std.specs.Prelude.{◌≡◌, refl}
use Rattle.datagram_tags.specs.declared.keyed_end.TheConstants.{KEY_BYTES}

key_bytes : KEY_BYTES ≡ 32
key_bytes = refl
