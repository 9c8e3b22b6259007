-- The objects after a tick: each by the rule of its kind, and behind them the discs that were made, as long as there
-- are places. Every rule reads the objects before the tick.
use Rattle.std.specs.Prelude.{ℕ, ◌-◌, List, Option, length, map, take, ◌++◌}
use Rattle.tn_types.specs.declared.limits.TheConstants.{MAX_OBJECTS}
use Rattle.std.specs.List.{filter_map}
use Rattle.tn_types.specs.declared.moves.MoveBits.{MoveBits}
use Rattle.world_rules.specs.declared.object.State.{State}
use Rattle.world_rules.specs.declared.object.Object.{Object}
use Rattle.world_rules.specs.declared.object.State.TheVariants.{Player, Disc, Mine, Drone, Flag, Clock}
use Rattle.world_rules.specs.Moves.{move_of}
use Rattle.world_rules.specs.Discs.{is_hitting, harm, hits, disc_next}
use Rattle.world_rules.specs.Mines.{is_triggered, mine_next}
use Rattle.world_rules.specs.Players.{damage, player_next, fired}
use Rattle.world_rules.specs.Drones.{drawn, drone_next}
use Rattle.world_rules.specs.Flags.{flag_next, captures}
use Rattle.world_rules.specs.Clocks.{clock_next}

-- what a tick goes by, beside the objects
pub record Moment : Type 0 where
  pub seed : ℕ
  pub tick : ℕ

abbrev pub by_kind : List Object → List (Option MoveBits) → Moment → Object → State → Object
by_kind os moves t o (Player p) = player_next (damage os o) (hits os p.client) o p (move_of moves p.client)
by_kind os moves t o (Disc d) = disc_next (is_hitting os o) o d
by_kind os moves t o (Mine m) = mine_next (is_triggered os o) o m
by_kind os moves t o (Drone d) = drone_next (drawn t.seed d.number t.tick) (harm os o) o d
by_kind os moves t o (Flag f) = flag_next os moves o f.holder
by_kind os moves t o (Clock c) = clock_next (captures os 0) (captures os 1) o c

-- an object after the tick
abbrev pub object_next : List Object → List (Option MoveBits) → Moment → Object → Object
object_next os moves t o = by_kind os moves t o o.state

-- the discs made in a tick, by rising client
unfoldable pub discs_made : List Object → List (Option MoveBits) → List Object
discs_made os moves = take (MAX_OBJECTS - length os) (filter_map (fired moves) os)

abbrev pub objects_next : List Object → List (Option MoveBits) → Moment → List Object
objects_next os moves t = map (object_next os moves t) os ++ discs_made os moves
