use Rattle.std.proofs.Common.{arith}
use Rattle.world_sim.proofs.Placing.{placed_more}
use Rattle.world_sim.proofs.start.first_places.Goals as goal

pub loop-i-preserved : goal.loop-i-preserved
loop-i-preserved c = placed_more c.loop-i.places c.settle.new.self c.args.objects.now c.loop-i.i _ (omega (arith, c.loop-i-test.true)) c.requires.fits c.settle.ensures.added c.loop-i.invariant
