use Rattle.std.proofs.Common.{◌≡◌}
use Rattle.std.specs.Prelude.{replicate}
use Rattle.timeline.specs.Standing.{fresh}
use Rattle.timeline.proofs.told.slots_of.Given as goal

abbrev pub invariant-slots : goal.invariant-slots
invariant-slots l = l.slots.items ≡ replicate l.counter (fresh l.shape.fields l.shape.depth)
