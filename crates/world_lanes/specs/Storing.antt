-- What storing field after field goes by. Only private clauses cite this.
use Rattle.std.specs.Prelude.{◌≡◌, ℕ, ◌&&◌, Bool, true, nat_le, List, Option, Some, None}
use Rattle.dirty_lanes.specs.declared.view.SimStep.{SimStep}
use Rattle.dirty_lanes.specs.Views.{newest}
use Rattle.world_sim.specs.Worlds.{Worlds, version_at}
use Rattle.world_lanes.specs.Behind.{objects_below}

-- all fields of the objects from this one on, below the other
abbrev pub objects_between : ℕ → ℕ → ℕ → ℕ → Bool
objects_between from most o f = nat_le from o && objects_below most o f

abbrev pub is_near : ℕ → Option ℕ → Bool
is_near written None = true
is_near written (Some version) = nat_le version written

-- no field has more versions than one that the lanes lack
abbrev pub IsNear : Worlds → List SimStep → Type 0
IsNear w steps = (object field : ℕ) → is_near (newest steps object field) (version_at w object field) ≡ true
