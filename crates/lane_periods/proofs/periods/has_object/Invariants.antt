use Rattle.std.proofs.Common.{◌≡◌, false, take}
use Rattle.lane_periods.specs.Periods.{has_object}
use Rattle.lane_periods.proofs.periods.has_object.Given as goal

abbrev pub invariant-loop-n : goal.invariant-loop-n
invariant-loop-n l = has_object l.objects (take l.n-index l.up) l.object ≡ false
