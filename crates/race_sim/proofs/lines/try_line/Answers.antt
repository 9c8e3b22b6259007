use Rattle.std.proofs.Common.{◌≡◌, ◌∙◌, false, sym}
use Rattle.std.specs.Prelude.{is_err, OnOk, Result, Ok, Err}
use Rattle.race_sim.proofs.lines.try_line.Goals as goal

when_ok : {E P : Type 0} (result : Result (Unit {0}) E) → OnOk result P → is_err result ≡ false → P
when_ok (Ok u) p e = p
when_ok (Err x) p e = absurd (cc)

pub returns-clause-does : goal.returns-clause-does
returns-clause-does g c = λ no_error. when_ok c.line.result c.line.ensures.does (sym c.is_err.ensures.value ∙ no_error)
