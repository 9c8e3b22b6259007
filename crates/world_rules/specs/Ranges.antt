-- The ranges of what a world holds. They hold at the start and every rule keeps them, so each value lies in the range
-- of its kind's field.
use Rattle.std.specs.Prelude.{ℕ, ◌<◌, ◌≤◌, Option, Some, None}
use Rattle.tn_types.specs.declared.limits.TheConstants.{MAX_CLIENTS, MAX_BLOCKS}
use Rattle.world_rules.specs.declared.limits.TheConstants.{MAX_COORDINATE}
use Rattle.world_rules.specs.declared.object.Place.{Place}
use Rattle.world_rules.specs.declared.object.Object.{Object}
use Rattle.world_rules.specs.declared.object.TheConstants.{MAX_HP, MAX_AMMO, MAX_SCORE, MAX_AGE, MAX_TICK}
use Rattle.world_rules.specs.declared.object.State.{State}
use Rattle.world_rules.specs.declared.object.State.TheVariants.{Player, Disc, Mine, Drone, Flag, Clock}

abbrev pub PlaceFits : Place → Type 0
PlaceFits p = (p.x ≤ MAX_COORDINATE) × (p.y ≤ MAX_COORDINATE)

-- a client or none
abbrev pub HolderFits : Option ℕ → Type 0
HolderFits None = Unit {0}
HolderFits (Some client) = client < MAX_CLIENTS

abbrev pub StateFits : State → Type 0
StateFits (Player p) = (p.client < MAX_CLIENTS) × (p.hp ≤ MAX_HP) × (p.ammo ≤ MAX_AMMO) × (p.score ≤ MAX_SCORE)
StateFits (Disc d) = d.age ≤ MAX_AGE
StateFits (Mine m) = m.age ≤ MAX_AGE
StateFits (Drone d) = d.hp ≤ MAX_HP
StateFits (Flag f) = HolderFits f.holder
StateFits (Clock c) = (c.tick ≤ MAX_TICK) × (c.red ≤ MAX_SCORE) × (c.blue ≤ MAX_SCORE)

pub record ObjectFits (o : Object) : Type 0 where
  pub block : o.block < MAX_BLOCKS
  pub team : o.team < 2
  pub home : PlaceFits o.home
  pub place : PlaceFits o.place
  pub state : StateFits o.state
