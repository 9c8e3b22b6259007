use Rattle.std.proofs.Common.{◌≡◌, take, filter}
use Rattle.world_rules.specs.Near.{is_standing}
use Rattle.world_sim.specs.Found.{is_players}
use Rattle.world_sim.proofs.found.gather.Given as goal

abbrev pub invariant-loop-o : goal.invariant-loop-o
invariant-loop-o l = record {
  players : l.players.items ≡ filter is_players (take l.o-index l.objects);
  standing : l.standing.items ≡ filter is_standing (take l.o-index l.objects);
}
