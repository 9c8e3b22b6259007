use Rattle.std.proofs.Common.{◌≤◌}
use Rattle.race_steps.specs.Asked.{message_step}
use Rattle.race_steps.proofs.Counts.{IsCounted}
use Rattle.race_steps.proofs.messages.message_count.Given as goal

abbrev pub invariant-loop-i : goal.invariant-loop-i
invariant-loop-i l = (l.count ≤ l.i) × IsCounted message_step l.steps.list l.i l.count
