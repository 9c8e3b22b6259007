-- Each number is the one that docs/demos.md tells: who changes one of them changes what the theorems say, and has to say so
-- here as well.
use Rattle.std.specs.Prelude.{◌≡◌, refl}
use Rattle.demo_format.specs.declared.head.TheConstants.{MAX_DEMO_BYTES, HEAD_BYTES, LAST_VERSION}

max_demo_bytes : MAX_DEMO_BYTES ≡ 16777216
max_demo_bytes = refl

head_bytes : HEAD_BYTES ≡ 11
head_bytes = refl

last_version : LAST_VERSION ≡ 2
last_version = refl
