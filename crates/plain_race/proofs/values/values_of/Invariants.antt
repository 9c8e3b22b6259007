use Rattle.std.proofs.Common.{◌≡◌, take}
use Rattle.world_sim.specs.Worlds.{first_world}
use Rattle.legal_race.specs.race_history.History.{IsHistoryOf, world_after}
use Rattle.plain_race.proofs.values.values_of.Given as goal

abbrev pub invariant-loop-tick : goal.invariant-loop-tick
invariant-loop-tick l = record {
  ticks : l.world.ticks ≡ l.tick;
  world : l.world ≡ world_after (first_world l.head.seed l.head.setup) (take l.tick l.moves);
  values : IsHistoryOf (first_world l.head.seed l.head.setup) (take l.tick l.moves) l.history;
}
