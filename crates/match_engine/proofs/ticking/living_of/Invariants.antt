use Rattle.std.proofs.Common.{◌≡◌, ◌++◌, drop}
use Rattle.std.specs.List.{filter_map, enumerate_from}
use Rattle.match_laws.specs.World.{living, living_one}
use Rattle.match_engine.proofs.ticking.living_of.Given as goal

abbrev pub invariant-loop-n : goal.invariant-loop-n
invariant-loop-n l = living l.world ≡ l.living ++ filter_map living_one (enumerate_from l.n (drop l.n l.object-items))
