use Rattle.std.proofs.Common.{◌≡◌, ◌-◌, [], length}
use Rattle.dirty_lanes.specs.declared.view.View.TheVariants.{Sim}
use Rattle.dirty_lanes.specs.Named.{IsRow}
use Rattle.dirty_lanes.proofs.fresh.FreshLanes.make.Given as goal

abbrev pub invariant-loop : goal.invariant-loop
invariant-loop l =
    (l.sim.table_id ≡ l.table.shared.table_id) × (l.sim.me ≡ (Sim (record { left = l.fn.clients - l.counter; joined = []; steps = [] }), [])) × IsRow l.table.shared.table_id l.fn.clients l.packs.items × (length l.packs.items ≡ l.counter)
