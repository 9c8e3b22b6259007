-- Each limit is the number that docs/wire.md, "Limits", tells.
use Rattle.std.specs.Prelude.{◌≡◌, pos, negsuc, refl}
use Rattle.world_rules.specs.declared.limits.TheConstants.{MAX_COORDINATE}

max_coordinate : MAX_COORDINATE ≡ 65535
max_coordinate = refl
