use Rattle.std.proofs.Common.{◌≡◌, ◌++◌, take, drop}
use Rattle.std.specs.Prelude.{map}
use Rattle.timeline.specs.Standing.{emptied}
use Rattle.timeline.proofs.slot.clear_all.Given as goal

abbrev pub invariant-fields : goal.invariant-fields
invariant-fields l = l.fields ≡ map emptied (take l.frames-index l.initial.fields) ++ drop l.frames-index l.initial.fields
