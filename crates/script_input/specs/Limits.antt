-- Each limit is the number that docs/wire.md, "Limits", tells.
use Rattle.std.specs.Prelude.{◌≡◌, pos, negsuc, refl}
use Rattle.script_input.specs.declared.limits.TheConstants.{MAX_SCRIPT_BYTES}

max_script_bytes : MAX_SCRIPT_BYTES ≡ 1048576
max_script_bytes = refl
