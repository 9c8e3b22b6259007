-- Each number is the one that docs/joining.md tells.
use Rattle.std.specs.Prelude.{◌≡◌, refl}
use Rattle.presence.specs.declared.other_end.TheConstants.{GOODBYE, GOODBYE_VERSION, GOODBYE_BYTES, GOODBYES}

kind : GOODBYE ≡ 23
kind = refl

version : GOODBYE_VERSION ≡ 1
version = refl

goodbye_bytes : GOODBYE_BYTES ≡ 4
goodbye_bytes = refl

goodbyes : GOODBYES ≡ 3
goodbyes = refl
