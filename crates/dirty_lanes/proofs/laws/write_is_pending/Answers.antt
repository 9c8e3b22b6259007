use Rattle.dirty_lanes.specs.Views.{is_at, pending}
use Rattle.dirty_lanes.proofs.LaneWords.{same_here, or_left}
use Rattle.dirty_lanes.proofs.laws.write_is_pending.Goals as goal

pub returns : goal.returns
returns c sim client object field value = or_left (is_at object field object field) (pending sim client object field) (same_here object field)
