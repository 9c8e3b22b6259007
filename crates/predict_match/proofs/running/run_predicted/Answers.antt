use Rattle.std.proofs.Common.{List, ℕ, sym, subst}
use Rattle.tn_outside.specs.Totals.{Adds}
use Rattle.tn_outside.proofs.Totals.{adds_nothing}
use Rattle.predict_match.proofs.Beside.{of_nobody}
use Rattle.predict_match.proofs.running.run_predicted.Goals as goal

pub returns-else-client-script-clause-text : goal.returns-else-client-script-clause-text
returns-else-client-script-clause-text g c =
    let written = g.K.Sink.written c.args.sink.now in
    subst (λ (t : List ℕ). Adds written written t) (sym (of_nobody c.args.script.now c.args.client c.if-client-script.false)) (adds_nothing written)
