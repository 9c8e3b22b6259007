use Rattle.std.proofs.Common.{◌≤◌}
use Rattle.race_steps.specs.Asked.{act_asked}
use Rattle.race_steps.proofs.Counts.{IsCounted}
use Rattle.race_steps.proofs.acts.acts_count.Given as goal

abbrev pub invariant-loop-line : goal.invariant-loop-line
invariant-loop-line l = (l.count ≤ l.line-index) × IsCounted (act_asked l.client) l.lines l.line-index l.count
