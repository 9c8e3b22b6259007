use Rattle.dirty_lanes.specs.Log.{raised_since_drain, mask_of}
use Rattle.dirty_lanes.proofs.Bits.{each_bit}
use Rattle.dirty_lanes.proofs.laws.each_bit_was_raised.Goals as goal

pub returns : goal.returns
unfolding mask_of
returns c log client object field = each_bit (raised_since_drain log client object) field
