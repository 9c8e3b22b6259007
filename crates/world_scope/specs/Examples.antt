-- A small world, looked at by both its clients: client 0 has a player at (1000, 1000) and sees 1,000 far; client 1 has
-- none.
use Rattle.std.specs.Prelude.{◌≡◌, ℕ, refl, List, [], ◌∷◌, Bool, true, false, None}
use Rattle.world_rules.specs.declared.object.Object.{Object}
use Rattle.world_rules.specs.declared.object.State.{State}
use Rattle.world_rules.specs.declared.object.State.TheVariants.{Player, Mine, Drone, Flag, Clock}
use Rattle.world_sim.specs.Worlds.{Worlds}
use Rattle.world_scope.specs.declared.viewer.Seen.{Seen}
use Rattle.world_scope.specs.Scope.{visible_list}

-- an object in the row of the player
abbrev at : ℕ → ℕ → Bool → State → Object
at team x alive state = record {
  block = 0;
  team = team;
  home = record { x = x; y = 1000 };
  alive = alive;
  place = record { x = x; y = 1000 };
  state = state;
}

abbrev player : State
player = Player (record { client = 0; hp = 100; ammo = 20; score = 0 })

abbrev mine : Bool → State
mine armed = Mine (record { armed = armed; age = 0 })

abbrev drone : ℕ → State
drone number = Drone (record { number = number; hp = 100 })

abbrev world : List Object → Worlds
world os = record { seed = 1; clients = 2; radius = 1000; ticks = 0; objects = os; versions = []; writes = [] }

-- an object and the level at which it is seen
abbrev at_level : ℕ → ℕ → Seen
at_level object level = record { object = object; level = level }

-- the player itself, drones at 250, 251, 1,000 and 1,001, and a dead one
abbrev near_and_far : List Object
near_and_far = at 0 1000 true player ∷ at 1 1250 true (drone 1) ∷ at 1 1251 true (drone 2)
    ∷ at 1 2000 true (drone 3) ∷ at 1 2001 true (drone 4) ∷ at 1 1000 false (drone 5) ∷ []

ways : visible_list (world near_and_far) 0 ≡ at_level 0 0 ∷ at_level 1 0 ∷ at_level 2 1 ∷ at_level 3 3 ∷ []
unfolding visible_list
ways = refl

-- mines that are armed or not, of both teams
abbrev three_mines : List Object
three_mines = at 0 1000 true player ∷ at 1 1000 true (mine false) ∷ at 1 1000 true (mine true) ∷ at 0 1600 true (mine true) ∷ []

mines : visible_list (world three_mines) 0 ≡ at_level 0 0 ∷ at_level 1 0 ∷ at_level 3 2 ∷ []
unfolding visible_list
mines = refl

-- what every client sees, and a drone that a client without a player doesn't see
abbrev flag_and_clock : List Object
flag_and_clock = at 0 1000 true player ∷ at 1 1100 true (drone 1) ∷ at 1 60000 true (Flag (record { holder = None }))
    ∷ at 1 60000 true (Clock (record { tick = 0; red = 0; blue = 0 })) ∷ []

everywhere : visible_list (world flag_and_clock) 1 ≡ at_level 2 0 ∷ at_level 3 0 ∷ []
unfolding visible_list
everywhere = refl
