use Rattle.std.proofs.Common.{Bool}
use Rattle.world_rules.specs.declared.object.Object.{Object}
use Rattle.world_cells.specs.Grid.{lies_between}
use Rattle.world_scope.specs.Candidates.{AreThose, either}
use Rattle.world_scope.proofs.candidates.add_cells.Given as goal

abbrev pub invariant-loop-row : goal.invariant-loop-row
invariant-loop-row l =
    (p : Object → Bool) → AreThose l.initial.words p l.world.objects
    → AreThose l.words (either p (lies_between l.fn.columns.0 l.fn.columns.1 l.fn.rows.0 l.row)) l.world.objects
