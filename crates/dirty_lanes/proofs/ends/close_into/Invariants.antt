use Rattle.std.proofs.Common.{◌≡◌, [], ◌++◌}
use Rattle.dirty_lanes.specs.declared.view.SimView.{SimView}
use Rattle.dirty_lanes.specs.declared.view.View.TheVariants.{Sim}
use Rattle.dirty_lanes.proofs.ends.close_into.Given as goal

abbrev pub invariant-loop-pack : goal.invariant-loop-pack
invariant-loop-pack g l =
    (l.sim.table_id ≡ l.table.shared.table_id)
    × ((v : SimView) × (l.sim.me ≡ (Sim v, [])) × (v.steps ≡ l.fn.sim.steps) × (l.packs.items ++ v.joined ≡ l.fn.packs.items ++ l.fn.sim.joined))

abbrev pub decreases-loop-pack : goal.decreases-loop-pack
decreases-loop-pack g l = goal.left-loop-pack g l
