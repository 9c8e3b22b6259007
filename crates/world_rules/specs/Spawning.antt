-- What a match starts with: each object stands alive at its home, numbered in the order of the setup.
use Rattle.std.specs.Prelude.{ℕ, suc, pos, ◌≡◌, ◌<◌, ◌≤◌, ◌≤ℤ◌, List, [], ◌∷◌, length, map, true, false, ◌==◌, if◌then◌else◌, Option, Some, None}
use Rattle.std.specs.List.{All}
use Rattle.tn_types.specs.declared.limits.TheConstants.{MAX_CLIENTS, MAX_BLOCKS, MAX_OBJECTS}
use Rattle.world_rules.specs.declared.limits.TheConstants.{MAX_COORDINATE}
use Rattle.world_rules.specs.declared.kinds.TheConstants.{PLAYER, MINE, DRONE, FLAG, CLOCK}
use Rattle.world_rules.specs.declared.object.Object.{Object}
use Rattle.world_rules.specs.declared.object.TheConstants.{MAX_HP, MAX_AMMO}
use Rattle.world_rules.specs.declared.object.State.{State}
use Rattle.world_rules.specs.declared.object.State.TheVariants.{Player, Mine, Drone, Flag, Clock}
use Rattle.world_rules.specs.declared.setup.Spawn.{Spawn}
use Rattle.world_rules.specs.declared.setup.Setup.{Setup}
use Rattle.world_rules.specs.Places.{clamp}
use Rattle.world_rules.specs.Identity.{OwnersRise}

abbrev pub state_at_first : ℕ → ℕ → Option ℕ → State
state_at_first number kind (Some client) = Player (record { client = client; hp = MAX_HP; ammo = MAX_AMMO; score = 0 })
state_at_first number kind None =
    if kind == MINE then Mine (record { armed = false; age = 0 })
    else if kind == DRONE then Drone (record { number = number; hp = MAX_HP })
    else if kind == FLAG then Flag (record { holder = None })
    else Clock (record { tick = 0; red = 0; blue = 0 })

abbrev pub spawned : ℕ → Spawn → Object
spawned number s = record {
  block = s.block;
  team = s.team;
  home = record { x = clamp s.x; y = clamp s.y };
  alive = true;
  place = record { x = clamp s.x; y = clamp s.y };
  state = state_at_first number s.kind s.owner;
}

-- the objects of these spawns, of which the first has this number
abbrev pub first_objects : ℕ → List Spawn → List Object
first_objects number [] = []
first_objects number (s ∷ spawns) = spawned number s ∷ first_objects (suc number) spawns

-- a player has an owner among the clients, and only a player has one
abbrev pub OwnerFits : ℕ → ℕ → Option ℕ → Type 0
OwnerFits clients kind (Some client) = (kind ≡ PLAYER) × (client < clients)
OwnerFits clients kind None = (MINE ≤ kind) × (kind ≤ CLOCK)

pub record SpawnFits (clients : ℕ) (s : Spawn) : Type 0 where
  pub owner : OwnerFits clients s.kind s.owner
  pub block : s.block < MAX_BLOCKS
  pub team : s.team < 2
  pub x_least : pos 0 ≤ℤ s.x
  pub x_most : s.x ≤ℤ pos MAX_COORDINATE
  pub y_least : pos 0 ≤ℤ s.y
  pub y_most : s.y ≤ℤ pos MAX_COORDINATE

-- the ranges and the order of a setup
pub record SetupFits (setup : Setup) : Type 0 where
  pub clients_least : 1 ≤ setup.clients
  pub clients : setup.clients ≤ MAX_CLIENTS
  pub few : length setup.spawns ≤ MAX_OBJECTS
  pub spawns : All (SpawnFits setup.clients) setup.spawns
  pub owners : OwnersRise setup.clients 0 (map (λ s. s.owner) setup.spawns)
