-- How large a timeline may be.
use Rattle.std.specs.Prelude.{◌<◌, ◌≤◌}
use Rattle.tn_types.specs.declared.limits.TheConstants.{MAX_SLOTS, MAX_FIELDS}
use Rattle.timeline.specs.declared.told.Shape.{Shape}
use Rattle.timeline.specs.declared.told.TheConstants.{MAX_DEPTH}

pub record IsSound (s : Shape) : Type 0 where
  pub some_slots : 0 < s.slots
  pub few_slots : s.slots ≤ MAX_SLOTS
  pub some_fields : 0 < s.fields
  pub few_fields : s.fields ≤ MAX_FIELDS
  pub some_depth : 0 < s.depth
  pub few_depth : s.depth ≤ MAX_DEPTH
