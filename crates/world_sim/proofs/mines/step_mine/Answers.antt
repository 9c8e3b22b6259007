use Rattle.std.proofs.Common.{◌≡◌, ◌∙◌, ◌++◌, ◌∷◌, [], List, sym, ap}
use Rattle.std.specs.Prelude.{ℤ, pos}
use Rattle.world_places.specs.Places.{is_special_part}
use Rattle.world_sim.specs.Rows.{values_of, row_writes}
use Rattle.world_sim.proofs.Turns.{three_of_mine, mine_told, row_told}
use Rattle.world_sim.proofs.Placing.{mine_special, mine_stays}
use Rattle.world_sim.proofs.mines.step_mine.Goals as goal

pub change_three-requires-clause-three : goal.change_three-requires-clause-three
change_three-requires-clause-three c = three_of_mine c.args.object.now c.args.m c.args.row.now.values.items c.requires.turn.values_are c.requires.mine

pub note_armed-requires-clause-mine : goal.note_armed-requires-clause-mine
note_armed-requires-clause-mine c = mine_special c.args.ending c.args.object.now c.turn_mine.new.o c.args.m c.requires.mine c.turn_mine.ensures

pub returns-clause-keeps_up : goal.returns-clause-keeps_up
returns-clause-keeps_up c =
    let now = c.turn_mine.new.o in
    let told : values_of now ≡ pos now.place.x ∷ pos now.place.y ∷ pos c.armed_number-armed.result ∷ [] = mine_told c.args.ending c.args.object.now now c.args.m c.armed_number-armed.result c.requires.mine c.turn_mine.ensures c.armed_number-armed.ensures in
    record {
      row_is = row_told c.args.row.now c.change_three.new.row now _ told c.change_three.ensures.values c.change_three.ensures.versions;
      written = c.change_three.ensures.writes ∙ ap (λ (xs : List ℤ). c.args.beside.now.writes.items ++ row_writes c.args.number 0 c.args.row.now.values.items xs c.args.row.now.versions.items) (sym told);
      grid = λ first behind many grid. c.shift.ensures first behind c.args.object.now now many (sym c.spot-from.ensures) (sym c.spot.ensures) grid;
      placed = λ first behind many fits placed.
          c.note_armed.ensures first behind c.args.object.now many (mine_stays c.args.ending c.args.object.now now c.args.m c.turn_mine.ensures) (ap is_special_part c.requires.mine) fits placed;
      few = c.change_three.ensures.few;
      kept = c.change_three.ensures.kept;
    }
