-- Each number is the one that docs/demos.md, "Seeking", tells: who changes one of them changes what the theorems say, and has to say so
-- here as well.
use Rattle.std.specs.Prelude.{◌≡◌, refl}
use Rattle.demo_seek.specs.declared.seeking.TheConstants.{KEY_DISTANCE}

key_distance : KEY_DISTANCE ≡ 64
key_distance = refl
