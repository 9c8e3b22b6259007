use Rattle.std.proofs.Common.{◌&&◌}
use Rattle.tn_types.specs.BitWords.{has_bit}
use Rattle.dirty_lanes.specs.Views.{is_at, pending}
use Rattle.dirty_lanes.proofs.LaneWords.{same_here, and_not}
use Rattle.dirty_lanes.proofs.laws.raise_tells.Goals as goal

pub returns : goal.returns
returns c sim client object field bits has = and_not (pending sim client object field) (is_at client object client object && has_bit bits field) (rw (same_here client object) has)
