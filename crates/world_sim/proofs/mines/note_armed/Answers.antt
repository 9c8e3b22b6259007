use Rattle.std.proofs.Common.{◌≡◌, ◌∙◌, true, sym, ap, arith}
use Rattle.world_sim.specs.Rows.{as_number}
use Rattle.world_places.specs.Places.{is_special}
use Rattle.world_places.proofs.Placing.{stayed}
use Rattle.world_sim.proofs.mines.note_armed.Goals.{else-not-was-via-then-not-was+else-armed_number-gt0, else-not-was-via-else-not-was}
use Rattle.world_sim.proofs.mines.note_armed.Goals as goal

pub returns-else-not-was : goal.returns-else-not-was
returns-else-not-was c = λ before behind old many place was fits placed.
    let keeps : is_special c.args.object.now ≡ true → is_special old ≡ true = λ s. elim c.else-not-was.branch [
      | else-not-was-via-then-not-was+else-armed_number-gt0 w ↦
          let armed : w.armed_number.result ≡ 1 = w.armed_number.ensures ∙ ap as_number (sym c.requires.mine ∙ s) in
          absurd (grind (arith, armed, w.if-armed_number-gt0.false))
      | else-not-was-via-else-not-was w ↦ grind (arith, was, w.if-not-was.false)
    ] in
    stayed c.args.places.now before behind old c.args.object.now place keeps placed
