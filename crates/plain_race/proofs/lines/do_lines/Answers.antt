use Rattle.std.proofs.Common.{◌∙◌, arith}
use Rattle.kept_pair.specs.Kept.{terms_in}
use Rattle.plain_race.proofs.Calls.{line_next, line_stops}
use Rattle.plain_race.proofs.lines.do_lines.Goals as goal

pub returns-then-not-branch-clause-stopped : goal.returns-then-not-branch-clause-stopped
returns-then-not-branch-clause-stopped c = λ is given.
    line_stops (terms_in c.args.pair.now) c.loop-line.pair c.do_line.new.pair c.args.client c.args.lines.now c.loop-line.line-index c.line-item.result (omega (arith, c.loop-line-test.true)) c.line-item.is c.loop-line.invariant.done
    (c.in_ok-do_line.ensures.stopped (search)) given

pub loop-line-preserved : goal.loop-line-preserved
loop-line-preserved c = record {
  done = line_next c.args.pair.now c.loop-line.pair c.do_line.new.pair c.args.client c.args.lines.now c.loop-line.line-index c.line-item.result (omega (arith, c.loop-line-test.true)) c.line-item.is c.loop-line.invariant.terms c.loop-line.invariant.done
      (c.in_ok-do_line.ensures.done (search));
  terms = c.in_ok-do_line.ensures.terms ∙ c.loop-line.invariant.terms;
}
