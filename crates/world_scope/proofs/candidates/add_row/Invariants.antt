use Rattle.std.proofs.Common.{Bool}
use Rattle.world_rules.specs.declared.object.Object.{Object}
use Rattle.world_scope.specs.Candidates.{AreThose, either, is_in_row}
use Rattle.world_scope.proofs.candidates.add_row.Given as goal

abbrev pub invariant-loop-column : goal.invariant-loop-column
invariant-loop-column l =
    (p : Object → Bool) → AreThose l.initial.words p l.world.objects → AreThose l.words (either p (is_in_row l.row l.fn.columns.0 l.column)) l.world.objects
