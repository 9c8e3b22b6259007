-- Each number of the rules is the one that docs/world.md tells: who changes one of them changes what the theorems say, and has
-- to say so here as well.
use Rattle.std.specs.Prelude.{◌≡◌, pos, refl}
use Rattle.world_rules.specs.declared.kinds.TheConstants.{PLAYER, DISC, MINE, DRONE, FLAG, CLOCK}
use Rattle.world_rules.specs.declared.object.TheConstants.{MAX_HP, MAX_AMMO, MAX_SCORE, MAX_TICK, MAX_AGE}
use Rattle.world_rules.specs.declared.measures.TheConstants.{PLAYER_STEP, DISC_REACH, MINE_REACH, FLAG_REACH, DISC_HARM, MINE_HARM, DISC_SPEED, STILL_DISC_SPEED, ARMING_AGE, DRONE_DRIFT, DRONE_WAYS, CHANCE_BY_NUMBER, CHANCE_BY_TICK, CHANCE_SPREAD}

player : PLAYER ≡ 0
player = refl

disc : DISC ≡ 1
disc = refl

mine : MINE ≡ 2
mine = refl

drone : DRONE ≡ 3
drone = refl

flag : FLAG ≡ 4
flag = refl

clock : CLOCK ≡ 5
clock = refl

max_hp : MAX_HP ≡ 100
max_hp = refl

max_ammo : MAX_AMMO ≡ 20
max_ammo = refl

max_score : MAX_SCORE ≡ 255
max_score = refl

max_tick : MAX_TICK ≡ 16777215
max_tick = refl

max_age : MAX_AGE ≡ 20
max_age = refl

player_step : PLAYER_STEP ≡ pos 25
player_step = refl

disc_reach : DISC_REACH ≡ 200
disc_reach = refl

mine_reach : MINE_REACH ≡ 300
mine_reach = refl

flag_reach : FLAG_REACH ≡ 300
flag_reach = refl

disc_harm : DISC_HARM ≡ 25
disc_harm = refl

mine_harm : MINE_HARM ≡ 50
mine_harm = refl

disc_speed : DISC_SPEED ≡ pos 100
disc_speed = refl

still_disc_speed : STILL_DISC_SPEED ≡ pos 800
still_disc_speed = refl

arming_age : ARMING_AGE ≡ 10
arming_age = refl

drone_drift : DRONE_DRIFT ≡ 50
drone_drift = refl

drone_ways : DRONE_WAYS ≡ 101
drone_ways = refl

chance_by_number : CHANCE_BY_NUMBER ≡ 7919
chance_by_number = refl

chance_by_tick : CHANCE_BY_TICK ≡ 104729
chance_by_tick = refl

chance_spread : CHANCE_SPREAD ≡ 2654435761
chance_spread = refl
