-- Each limit is the number that docs/wire.md, "Limits", tells.
use Rattle.std.specs.Prelude.{◌≡◌, pos, negsuc, refl}
use Rattle.dirty_lanes.specs.declared.limits.TheConstants.{MAX_LANE_FIELDS}

max_lane_fields : MAX_LANE_FIELDS ≡ 16
max_lane_fields = refl
