-- Each limit is the number that docs/wire.md, "Limits", tells.
use Rattle.std.specs.Prelude.{◌≡◌, pos, negsuc, refl}
use Rattle.kept_pair.specs.declared.limits.TheConstants.{MAX_KEPT_STEPS}

max_kept_steps : MAX_KEPT_STEPS ≡ 65536
max_kept_steps = refl
