-- The header of a made script: four blocks, a player for each client, a clock and two flags, and then drones and mines by
-- turns until there are sixty objects.
use Rattle.std.specs.Prelude.{ℕ, pos, ◌+◌, ◌-◌, ◌/◌, ◌%◌, ◌==◌, if◌then◌else◌, List, [], ◌∷◌, ◌++◌, length, map, replicate, Some, None}
use Rattle.tn_types.specs.declared.limits.TheConstants.{MAX_LIFE}
use Rattle.world_rules.specs.declared.kinds.TheConstants.{PLAYER, MINE, DRONE, FLAG, CLOCK}
use Rattle.world_rules.specs.declared.setup.Spawn.{Spawn}
use Rattle.match_script.specs.declared.types.Head.{Head}
use Rattle.script_maker.specs.declared.numbers.TheConstants.{MADE_VERSION, MADE_SIZE, MADE_RADIUS, MADE_BLOCKS, MADE_BLOCK_BYTES, MADE_OBJECTS, FLAG_NEAR, FLAG_FAR, COORDINATES}
use Rattle.script_maker.specs.Draws.{Drawn, just, ◌>>=◌, draw, each_below}

-- block i is eight bytes of value i
abbrev pub blocks : List (List ℕ)
blocks = map (replicate MADE_BLOCK_BYTES) (0 ∷ 1 ∷ 2 ∷ 3 ∷ [])

-- the player of client c
unfoldable pub player : ℕ → Drawn (List Spawn)
player c = do
  x ← draw COORDINATES
  y ← draw COORDINATES
  just (record { kind = PLAYER; block = c % MADE_BLOCKS; team = c % 2; x = pos x; y = pos y; owner = Some c } ∷ [])

-- the clock and the flags of both teams
abbrev pub fixed : List Spawn
fixed =
    record { kind = CLOCK; block = 0; team = 0; x = pos 0; y = pos 0; owner = None }
    ∷ record { kind = FLAG; block = 1; team = 0; x = FLAG_NEAR; y = FLAG_NEAR; owner = None }
    ∷ record { kind = FLAG; block = 1; team = 1; x = FLAG_FAR; y = FLAG_FAR; owner = None }
    ∷ []

-- a drone where i is even, and else a mine
unfoldable pub other : ℕ → Drawn (List Spawn)
other i = do
  x ← draw COORDINATES
  y ← draw COORDINATES
  just (record {
    kind = if i % 2 == 0 then DRONE else MINE;
    block = if i % 2 == 0 then 2 else 3;
    team = (i / 2) % 2;
    x = pos x;
    y = pos y;
    owner = None;
  } ∷ [])

-- all objects: sixty together
unfoldable pub objects : ℕ → Drawn (List Spawn)
objects clients = do
  players ← each_below clients player
  others ← each_below (MADE_OBJECTS - (clients + length fixed)) other
  just (players ++ (fixed ++ others))

abbrev pub head_with : ℕ → ℕ → List Spawn → Head
head_with seed clients spawns = record {
  version = MADE_VERSION;
  seed = seed;
  clients = clients;
  life = MAX_LIFE;
  size = MADE_SIZE;
  radius = MADE_RADIUS;
  blocks = blocks;
  setup = record { clients = clients; radius = MADE_RADIUS; spawns = spawns };
}
