use Rattle.std.proofs.lemmas.Result.{err_from_is_err_and}
use Rattle.relay_script.specs.Whole.{relay_script_of}
use Rattle.script_input.proofs.NotReading.{not_read}
use Rattle.relay_top.proofs.reading.read_relay_script.Goals as goal

pub returns-in_err-text-clause-err : goal.returns-in_err-text-clause-err
returns-in_err-text-clause-err g c =
    let p = err_from_is_err_and c.from_residual.result c.from_residual.ensures.1 in
    rw (p.1, p.2) (not_read relay_script_of _ _ c.in_err-text.ensures.err)
