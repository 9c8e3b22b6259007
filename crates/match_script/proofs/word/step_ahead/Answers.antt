use Rattle.std.proofs.Common.{sym, arith, w8}
use mir.Val.{of_z, to_z}
use Rattle.std.proofs.lemmas.Int.{ints}
use Rattle.match_script.proofs.Steps.{is_ahead}
use Rattle.match_script.proofs.word.step_ahead.Goals as goal

pub returns-in-Ok : goal.returns-in-Ok
returns-in-Ok c = is_ahead c.args.word.now c.in-Ok.n (to_z w8 (of_z w8 c.ahead_by.result)) (sym c.in-Ok.ensures) (omega (arith, ints, c.ahead_by.ensures))
