-- A client's player in a world, as a prediction sees it.
use Rattle.std.specs.Prelude.{ℕ, ℤ, pos, find, Bool, false, Option, Some, None, option_and_then}
use Rattle.std.specs.Option.{option_map_or}
use Rattle.world_rules.specs.declared.object.Object.{Object}
use Rattle.world_rules.specs.declared.object.State.{State}
use Rattle.world_rules.specs.declared.object.State.TheVariants.{Player}
use Rattle.world_rules.specs.declared.object.Place.{Place}
use Rattle.world_rules.specs.Flags.{is_player}
use Rattle.world_rules.specs.Near.{is_standing}
use Rattle.world_sim.specs.Worlds.{Worlds}

-- x, y and ammo of a player at this place
abbrev pub measured : Place → State → Option (ℤ × ℤ × ℤ)
measured place (Player p) = Some (pos place.x, pos place.y, pos p.ammo)
measured place other = None

abbrev pub measures_of : Object → Option (ℤ × ℤ × ℤ)
measures_of o = measured o.place o.state

-- the client's player
abbrev pub player_in : Worlds → ℕ → Option Object
player_in w c = find (is_player c) w.objects

-- its x, y and ammo, where the client has a player
abbrev pub measures_in : Worlds → ℕ → Option (ℤ × ℤ × ℤ)
measures_in w c = option_and_then measures_of (player_in w c)

-- the client has a player, which stands
abbrev pub stands_in : Worlds → ℕ → Bool
stands_in w c = option_map_or is_standing (player_in w c) false
