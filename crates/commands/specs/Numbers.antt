-- Each number is the one that docs/demos.md, "Replaying", tells: who changes one of them changes what the theorems say, and has to say so
-- here as well.
use Rattle.std.specs.Prelude.{◌≡◌, refl}
use Rattle.commands.specs.declared.command.TheConstants.{MAX_REPLAYED}

max_replayed : MAX_REPLAYED ≡ 16777215
max_replayed = refl
