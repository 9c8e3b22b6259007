-- Each number is the one that docs/joining.md tells: who changes one of them has to say so here as well.
use Rattle.std.specs.Prelude.{◌≡◌, refl}
use Rattle.host_guests.specs.declared.keys.TheConstants.{TAG_BYTES, GREETING_NUMBER}

tag_bytes : TAG_BYTES ≡ 16
tag_bytes = refl

greeting_number : GREETING_NUMBER ≡ 0
greeting_number = refl
