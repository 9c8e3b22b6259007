use Rattle.std.proofs.Common.{◌≡◌}
use Rattle.std.specs.Prelude.{replicate}
use Rattle.timeline.specs.Standing.{no_frames}
use Rattle.timeline.proofs.slot.fields_of.Given as goal

abbrev pub invariant-fields : goal.invariant-fields
invariant-fields l = l.fields.items ≡ replicate l.counter (no_frames l.room)
