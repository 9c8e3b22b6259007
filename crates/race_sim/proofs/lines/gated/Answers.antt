use Rattle.race_sim.proofs.Doing.{then_passed_on}
use Rattle.race_sim.proofs.lines.gated.Goals as goal

pub returns-clause-does : goal.returns-clause-does
returns-clause-does g c = λ no_error.
    then_passed_on c.args.line.now c.args.sim.now c.try_line-failed.new.sim c.pass_on.new.self (c.try_line-failed.ensures.does no_error) c.pass_on.ensures.ports c.pass_on.ensures.rest
