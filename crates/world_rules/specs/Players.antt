-- Players: what they lose, a player after one tick, and the disc that one fires.
use Rattle.std.specs.Prelude.{ℕ, ℤ, pos, negsuc, ◌+◌, ◌-◌, ◌*◌, ◌*ℤ◌, min, List, count_by, Bool, true, false, ◌&&◌, nat_lt, ◌==◌, if◌then◌else◌, Option, Some, None}
use Rattle.world_rules.specs.declared.object.TheConstants.{MAX_HP, MAX_AMMO, MAX_SCORE}
use Rattle.tn_types.specs.declared.moves.Move.{Move}
use Rattle.tn_types.specs.declared.moves.MoveBits.{MoveBits}
use Rattle.world_rules.specs.declared.object.Place.{Place}
use Rattle.world_rules.specs.declared.object.Player.{Player as PlayerPart}
use Rattle.world_rules.specs.declared.object.State.{State}
use Rattle.world_rules.specs.declared.measures.TheConstants.{MINE_HARM, DISC_SPEED, STILL_DISC_SPEED}
use Rattle.world_rules.specs.declared.object.Object.{Object}
use Rattle.world_rules.specs.declared.object.State.TheVariants.{Player, Disc}
use Rattle.world_rules.specs.Places.{stepped}
use Rattle.world_rules.specs.Moves.{move_of}
use Rattle.world_rules.specs.Discs.{harm}
use Rattle.world_rules.specs.Mines.{is_blasting}

-- ammo after a move that fires or not
abbrev pub spent : ℕ → Bool → ℕ
spent ammo fire = if fire then ammo - 1 else ammo

-- the step of a standing player: where it is after its move, and its ammo
abbrev pub player_step : Place → ℕ → Move → Place × ℕ
player_step place ammo m = (stepped place m, spent ammo m.fire)

-- a number that isn't below 0
abbrev pub natural : ℤ → ℕ
natural (pos n) = n
natural (negsuc n) = 0

-- the same step in signed numbers
abbrev pub signed_step : ℤ → ℤ → ℤ → Move → ℤ × ℤ × ℤ
signed_step x y ammo m =
    let step = player_step (record { x = natural x; y = natural y }) (natural ammo) m in
    (pos step.0.x, pos step.0.y, pos step.1)

unfoldable pub damage : List Object → Object → ℕ
damage os o = harm os o + MINE_HARM * count_by (is_blasting os o) os

abbrev pub is_firing : PlayerPart → Move → Bool
is_firing p m = nat_lt 0 p.hp && (m.fire && nat_lt 0 p.ammo)

unfoldable pub player_next : ℕ → ℕ → Object → PlayerPart → Move → Object
player_next harm scored o p m =
    if nat_lt 0 p.hp
    then record o {
      place = (player_step o.place p.ammo m).0;
      state = Player (record p {
        hp = p.hp - harm;
        ammo = (player_step o.place p.ammo m).1;
        score = min MAX_SCORE (p.score + scored);
      });
    }
    else record o { place = o.home; state = Player (record p { hp = MAX_HP; ammo = MAX_AMMO; score = min MAX_SCORE (p.score + scored) }) }

-- the velocity of a disc that is fired with this move
abbrev pub is_zero : ℤ → Bool
is_zero (pos n) = n == 0
is_zero (negsuc n) = false

abbrev pub is_still : Move → Bool
is_still m = is_zero m.dx && is_zero m.dy

abbrev pub speed : Move → ℤ × ℤ
speed m = if is_still m then (STILL_DISC_SPEED, pos 0) else (DISC_SPEED *ℤ m.dx, DISC_SPEED *ℤ m.dy)

unfoldable pub fired_by : Object → PlayerPart → Move → Option Object
fired_by o p m =
    if is_firing p m
    then Some (record {
      block = o.block;
      team = o.team;
      home = stepped o.place m;
      alive = true;
      place = stepped o.place m;
      state = Disc (record { owner = p.client; vx = (speed m).0; vy = (speed m).1; age = 0 });
    })
    else None

abbrev pub fired_part : List (Option MoveBits) → Object → State → Option Object
fired_part moves o (Player p) = fired_by o p (move_of moves p.client)
fired_part moves o _ = None

-- the disc that an object makes in the tick
abbrev pub fired : List (Option MoveBits) → Object → Option Object
fired moves o = fired_part moves o o.state
