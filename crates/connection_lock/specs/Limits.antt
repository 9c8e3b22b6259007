-- Each limit is the number that docs/wire.md, "Limits", tells.
use Rattle.std.specs.Prelude.{◌≡◌, pos, negsuc, refl}
use Rattle.connection_lock.specs.declared.limits.TheConstants.{MAX_TAKEN_MESSAGES}

max_taken_messages : MAX_TAKEN_MESSAGES ≡ 4096
max_taken_messages = refl
