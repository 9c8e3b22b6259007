-- The six kinds of a match, by number: player, disc, mine, drone, flag and clock.
use Rattle.std.specs.Prelude.{ℕ, pos, List, [], ◌∷◌, true, false, ◌==◌, if◌then◌else◌, codes}
use Rattle.tn_types.specs.declared.limits.TheConstants.{MAX_CLIENTS}
use Rattle.world_rules.specs.declared.limits.TheConstants.{MAX_COORDINATE}
use Rattle.quantised_fields.specs.declared.field.FieldSpec.{FieldSpec}
use Rattle.quantised_fields.specs.declared.kind.Kind.{Kind}
use Rattle.world_rules.specs.declared.kinds.TheConstants.{PLAYER, DISC, MINE, DRONE, FLAG, CLOCK}
use Rattle.world_rules.specs.declared.object.TheConstants.{MAX_HP, MAX_AMMO, MAX_SCORE, MAX_TICK}
use Rattle.world_rules.specs.declared.object.State.{State}
use Rattle.world_rules.specs.declared.object.State.TheVariants.{Player, Disc, Mine, Drone, Flag, Clock}

-- the number of an object's kind
abbrev pub kind_of : State → ℕ
kind_of (Player p) = PLAYER
kind_of (Disc d) = DISC
kind_of (Mine m) = MINE
kind_of (Drone d) = DRONE
kind_of (Flag f) = FLAG
kind_of (Clock c) = CLOCK

-- a field from 0 to this number, in so many bits
abbrev pub up_to : ℕ → ℕ → FieldSpec
up_to hi bits = record { lo = pos 0; hi = pos hi; bits = bits }

abbrev pub coordinate : FieldSpec
coordinate = up_to MAX_COORDINATE 16

abbrev pub player_kind : Kind
player_kind = record {
  fields = coordinate ∷ coordinate ∷ up_to MAX_HP 7 ∷ up_to MAX_AMMO 5 ∷ up_to MAX_SCORE 8 ∷ [];
  weight = 8;
  always = false;
}

abbrev pub disc_kind : Kind
disc_kind = record { fields = coordinate ∷ coordinate ∷ []; weight = 6; always = false }

abbrev pub mine_kind : Kind
mine_kind = record { fields = coordinate ∷ coordinate ∷ up_to 1 1 ∷ []; weight = 3; always = false }

abbrev pub drone_kind : Kind
drone_kind = record { fields = up_to MAX_COORDINATE 12 ∷ up_to MAX_COORDINATE 12 ∷ up_to MAX_HP 5 ∷ []; weight = 4; always = false }

abbrev pub flag_kind : Kind
flag_kind = record { fields = coordinate ∷ coordinate ∷ up_to MAX_CLIENTS 5 ∷ []; weight = 5; always = true }

abbrev pub clock_kind : Kind
clock_kind = record { fields = up_to MAX_TICK 24 ∷ up_to MAX_SCORE 8 ∷ up_to MAX_SCORE 8 ∷ []; weight = 1; always = true }

abbrev pub match_kinds : List Kind
match_kinds = player_kind ∷ disc_kind ∷ mine_kind ∷ drone_kind ∷ flag_kind ∷ clock_kind ∷ []

-- a kind as scripts and reports name it; no script names one that is unknown
abbrev pub kind_word : ℕ → List ℕ
kind_word kind =
    if kind == PLAYER then codes "player"
    else if kind == DISC then codes "disc"
    else if kind == MINE then codes "mine"
    else if kind == DRONE then codes "drone"
    else if kind == FLAG then codes "flag"
    else if kind == CLOCK then codes "clock"
    else codes "unknown"
