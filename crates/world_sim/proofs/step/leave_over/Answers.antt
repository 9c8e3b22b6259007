use Rattle.world_sim.proofs.Going.{going_left, going_on}
use Rattle.world_sim.proofs.step.leave_over.Goals as goal

pub returns-then-is_over : goal.returns-then-is_over
returns-then-is_over c = λ objects o e l stays going.
    going_left c.args.going.now c.remove.new.self c.args.number objects o (c.is_over.ensures o e c.if-is_over.true) l c.remove.ensures going

pub returns-else-is_over : goal.returns-else-is_over
returns-else-is_over c = λ objects o e l stays going. going_on c.args.going.now c.args.number objects o l stays going
