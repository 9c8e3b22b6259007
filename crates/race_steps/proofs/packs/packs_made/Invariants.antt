use Rattle.std.proofs.Common.{◌≤◌}
use Rattle.race_steps.specs.Asked.{is_pack_step}
use Rattle.race_steps.proofs.Counts.{IsPassed}
use Rattle.race_steps.proofs.packs.packs_made.Given as goal

abbrev pub invariant-loop-i : goal.invariant-loop-i
invariant-loop-i l = (l.count ≤ l.i) × IsPassed is_pack_step l.steps.list l.i l.count
