use Rattle.std.proofs.Common.{◌≤◌, ◌-◌, [], length}
use Rattle.script_maker.specs.Adding.{Adds}
use Rattle.script_maker.specs.Draws.{each_below}
use Rattle.script_maker.specs.Lines.{round}
use Rattle.script_maker.proofs.making.first_lines.Given as goal

abbrev pub invariant-rounds : goal.invariant-rounds
invariant-rounds l = record {
  rounds : Adds (each_below l.k (round l.clients)) [] l.fn.rng l.lines.items l.rng;
  few : l.k ≤ l.steps;
  long : l.k ≤ length l.lines.items;
}

abbrev pub decreases-rounds : goal.decreases-rounds
decreases-rounds l = l.steps - length l.lines.items
