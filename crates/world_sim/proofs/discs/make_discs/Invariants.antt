use Rattle.std.proofs.Common.{◌≡◌, take}
use Rattle.std.specs.List.{filter_map}
use Rattle.world_rules.specs.Players.{fired}
use Rattle.world_sim.proofs.discs.make_discs.Given as goal

abbrev pub invariant-loop-o : goal.invariant-loop-o
invariant-loop-o l = l.discs.items ≡ take l.room (filter_map (fired l.moves) (take l.o-index l.objects))
