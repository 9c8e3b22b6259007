use Rattle.std.proofs.Common.{refl, ◌≡◌, ◌∙◌, ◌++◌, ◌∷◌, [], List, sym, ap}
use Rattle.std.specs.Prelude.{ℤ, pos, slice_index_or}
use Rattle.world_sim.specs.Rows.{values_of, row_writes}
use Rattle.world_sim.proofs.Glancing.{drift_glance}
use Rattle.world_sim.proofs.Turns.{three_of_drone, drift_told, row_told, drift_spot}
use Rattle.world_sim.proofs.Placing.{drone_special}
use Rattle.world_sim.proofs.step.drift.Goals as goal

pub change_two-requires-clause-three : goal.change_two-requires-clause-three
change_two-requires-clause-three c = three_of_drone c.args.object.now c.args.d.now c.args.row.now.values.items c.requires.turn.values_are c.requires.drone

pub returns-clause-keeps_up : goal.returns-clause-keeps_up
returns-clause-keeps_up c =
    let now = c.drift_drone.new.o in
    let told : values_of now ≡ pos now.place.x ∷ pos now.place.y ∷ slice_index_or c.args.row.now.values.items 2 (pos 0) ∷ [] = drift_told c.args.r c.args.object.now now c.args.d.now c.args.row.now.values.items c.requires.alive c.requires.drone c.drift_drone.ensures c.requires.turn.values_are in
    record {
      row_is = row_told c.args.row.now c.change_two.new.row now _ told c.change_two.ensures.values c.change_two.ensures.versions;
      written = c.change_two.ensures.writes ∙ ap (λ (xs : List ℤ). c.args.beside.now.writes.items ++ row_writes c.args.number 0 c.args.row.now.values.items xs c.args.row.now.versions.items) (sym told);
      grid = λ first behind many grid.
          c.come_from.ensures first behind c.args.object.now many (sym c.spot-from.ensures)
          (drift_spot c.args.r c.args.object.now now c.args.d.now c.requires.alive c.requires.drone c.requires.whole c.drift_drone.ensures) grid;
      placed = λ first behind many fits placed.
          c.shift.ensures first behind c.args.object.now now many refl fits
          (drone_special c.args.r 0 c.args.object.now now c.args.d.now c.requires.alive c.drift_drone.ensures) placed;
      few = c.change_two.ensures.few;
      kept = c.change_two.ensures.kept;
    }

pub returns-clause-glance : goal.returns-clause-glance
returns-clause-glance c = drift_glance c.args.r c.args.object.now c.drift_drone.new.o c.args.d.now c.requires.alive c.requires.drone c.requires.whole c.drift_drone.ensures
