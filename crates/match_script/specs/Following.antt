-- What a reader keeps of the objects so far: who may play behind them.
use Rattle.std.specs.Prelude.{◌≡◌, ℕ, ◌&&◌, nat_le, List, Some}
use Rattle.world_rules.specs.declared.setup.Spawn.{Spawn}
use Rattle.match_script.specs.declared.objects.Place.{Place}
use Rattle.match_script.specs.Header.{may_follow}

abbrev pub Follows : Place → List Spawn → Type 0
Follows place before = (client : ℕ) → may_follow before (Some client) ≡ (place.open && nat_le place.least client)
