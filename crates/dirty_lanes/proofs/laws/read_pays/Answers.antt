use Rattle.dirty_lanes.specs.Views.{is_at, owes, a_drain}
use Rattle.std.proofs.Common.{◌∷◌}
use Rattle.dirty_lanes.proofs.LaneWords.{same_here, and_not}
use Rattle.dirty_lanes.proofs.laws.read_pays.Goals as goal

pub returns : goal.returns
returns c pack object field bits version value = and_not (owes (a_drain object bits ∷ pack) object field) (is_at object field object field) (same_here object field)
