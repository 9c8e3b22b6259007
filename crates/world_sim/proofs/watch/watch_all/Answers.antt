use Rattle.std.proofs.Common.{arith}
use Rattle.world_sim.proofs.Watching.{more_watched}
use Rattle.world_sim.proofs.watch.watch_all.Goals as goal

pub loop-p-preserved : goal.loop-p-preserved
loop-p-preserved c = record {
  room = c.watch_round.ensures.room;
  near = more_watched c.args.standing.now c.loop-p.watched c.watch_round.new.watched c.loop-p.p-index _ (omega arith) c.loop-p.invariant.near c.watch_round.ensures.kept c.watch_round.ensures.near;
}
