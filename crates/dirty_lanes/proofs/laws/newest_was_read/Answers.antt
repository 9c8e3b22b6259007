use Rattle.std.proofs.Common.{◌==◌}
use Rattle.tn_types.specs.BitWords.{has_bit}
use Rattle.dirty_lanes.specs.Words.{mask_at}
use Rattle.dirty_lanes.specs.Views.{newest, pending, last_read, owes}
use Rattle.dirty_lanes.proofs.LaneWords.{first_of, test_out}
use Rattle.dirty_lanes.proofs.laws.newest_was_read.Goals as goal

pub returns : goal.returns
returns c sim words pack object field heard inside there owed waits bit =
    test_out (last_read pack.steps object field) (newest sim object field)
    (first_of (last_read pack.steps object field == newest sim object field) (has_bit (mask_at words pack.client object) field) (owes pack.steps object field) (pending sim pack.client object field)
    (heard.covers object field inside there) bit owed waits)
