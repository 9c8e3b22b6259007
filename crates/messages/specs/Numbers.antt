-- Each number is the one that docs/messages.md tells: who changes one of them changes what the theorems say, and has to say so
-- here as well.
use Rattle.std.specs.Prelude.{◌≡◌, refl}
use Rattle.messages.specs.declared.limits.TheConstants.{MAX_MESSAGE_BYTES, MAX_SINGLE_BYTES, FIRST_BYTES}

max_message_bytes : MAX_MESSAGE_BYTES ≡ 65535
max_message_bytes = refl

max_single_bytes : MAX_SINGLE_BYTES ≡ 23
max_single_bytes = refl

first_bytes : FIRST_BYTES ≡ 21
first_bytes = refl
