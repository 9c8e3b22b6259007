use Rattle.ghost_rows.proofs.RowSteps.{AreFound}
use Rattle.ghost_rows.proofs.slot_rows.kept_of.Given as goal

abbrev pub invariant-fields : goal.invariant-fields
invariant-fields l = AreFound l.seq l.field l.fn.carriers l.bits
