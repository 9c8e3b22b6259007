use Rattle.std.proofs.Common.{◌^◌, ◌<◌}
use Rattle.ghost_rows.proofs.RowSteps.{IsMarked}
use Rattle.ghost_rows.proofs.slot_rows.carry_fields.Given as goal

abbrev pub invariant-fields : goal.invariant-fields
invariant-fields l = record {
  marked : IsMarked l.seq l.mask l.rest l.fn.carriers l.carriers;
  small : l.rest < 2 ^ 16;
}

abbrev pub decreases-fields : goal.decreases-fields
decreases-fields l = l.rest
