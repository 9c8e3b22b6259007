use Rattle.std.proofs.Common.{◌≡◌, length, take}
use Rattle.world_sim.specs.Searches.{AreWatched}
use Rattle.world_sim.proofs.watch.watch_all.Given as goal

abbrev pub invariant-loop-p : goal.invariant-loop-p
invariant-loop-p l = record {
  room : length l.watched ≡ 4096;
  near : AreWatched (take l.p-index l.standing) l.watched;
}
