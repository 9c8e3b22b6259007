use Rattle.std.proofs.Common.{arith}
use Rattle.world_sim.proofs.RowFields.{counted_more}
use Rattle.world_sim.proofs.rows.count_changes.Goals as goal

pub loop-f-preserved : goal.loop-f-preserved
loop-f-preserved c =
    counted_more c.loop-f.f c.args.before.now c.args.now.now c.args.versions.now c.loop-f.versions c.next_at.result c.loop-f.invariant
    (omega (arith, c.loop-f-test.true, c.requires.before)) (omega (arith, c.loop-f-test.true, c.requires.now)) (omega (arith, c.loop-f-test.true, c.requires.versions)) c.next_at.ensures
