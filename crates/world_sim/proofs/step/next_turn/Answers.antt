use Rattle.std.proofs.Common.{arith}
use Rattle.world_sim.proofs.Going.{passed_more}
use Rattle.world_sim.proofs.step.next_turn.Goals as goal

pub loop-at-preserved : goal.loop-at-preserved
loop-at-preserved c = record {
  order = omega (arith, c.next-at-in-loop-at.ensures.order, c.loop-at.invariant.order);
  most = c.next-at-in-loop-at.ensures.most;
  passed = passed_more c.args.going.now c.args.glances.now c.args.marks.now c.args.from c.loop-at.at c.next-at-in-loop-at.result _ _ (omega (arith, c.next-at-in-loop-at.ensures.most, c.requires.most)) (omega (arith, c.loop-at-test.true, c.requires.glances)) (omega (arith, c.loop-at-test.true, c.requires.marks)) (λ o e. c.is_passed.ensures o e c.if-is_passed.true) c.next-at-in-loop-at.ensures.none c.loop-at.invariant.passed;
}
