use Rattle.std.proofs.Common.{refl, ◌≡◌, ◌∙◌, ◌++◌, ◌∷◌, [], List, sym, ap}
use Rattle.std.specs.Prelude.{ℤ, pos}
use Rattle.world_sim.specs.Rows.{values_of, row_writes}
use Rattle.world_sim.proofs.Turns.{three_of_drone, drone_told, row_told}
use Rattle.world_sim.proofs.Placing.{drone_special}
use Rattle.world_sim.proofs.step.hurt.Goals as goal

pub change_three-requires-clause-three : goal.change_three-requires-clause-three
change_three-requires-clause-three c = three_of_drone c.args.object.now c.args.d.now c.args.row.now.values.items c.requires.turn.values_are c.requires.drone

pub returns-clause-keeps_up : goal.returns-clause-keeps_up
returns-clause-keeps_up c =
    let now = c.turn_drone.new.o in
    let told : values_of now ≡ pos now.place.x ∷ pos now.place.y ∷ pos c.saturating_sub-hp.result ∷ [] = drone_told c.args.r c.args.harm c.saturating_sub-hp.result c.args.object.now now c.args.d.now c.requires.alive c.turn_drone.ensures c.saturating_sub-hp.ensures in
    record {
      row_is = row_told c.args.row.now c.change_three.new.row now _ told c.change_three.ensures.values c.change_three.ensures.versions;
      written = c.change_three.ensures.writes ∙ ap (λ (xs : List ℤ). c.args.beside.now.writes.items ++ row_writes c.args.number 0 c.args.row.now.values.items xs c.args.row.now.versions.items) (sym told);
      grid = λ first behind many grid. c.shift-2.ensures first behind c.args.object.now now many (sym c.spot-from.ensures) (sym c.spot.ensures) grid;
      placed = λ first behind many fits placed.
          c.shift.ensures first behind c.args.object.now now many refl fits
          (drone_special c.args.r c.args.harm c.args.object.now now c.args.d.now c.requires.alive c.turn_drone.ensures) placed;
      few = c.change_three.ensures.few;
      kept = c.change_three.ensures.kept;
    }
