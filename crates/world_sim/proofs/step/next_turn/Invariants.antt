use Rattle.std.proofs.Common.{◌-◌, ◌≤◌}
use Rattle.world_sim.specs.Turns.{ArePassed}
use Rattle.world_sim.proofs.step.next_turn.Given as goal

abbrev pub invariant-loop-at : goal.invariant-loop-at
invariant-loop-at l = record {
  order : l.from ≤ l.at;
  most : l.at ≤ l.end;
  passed : ArePassed l.going l.glances l.marks l.from l.at;
}

abbrev pub decreases-loop-at : goal.decreases-loop-at
decreases-loop-at l = l.end - l.at
