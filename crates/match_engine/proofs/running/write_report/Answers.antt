use Rattle.std.proofs.Common.{◌≡◌, ◌∙◌, ◌+◌, Ok, Bool, true, false, List, Option, ℕ, reverse, take, sym, ap, subst, arith}
use Rattle.std.specs.Prelude.{Result}
use Rattle.std.proofs.lemmas.Result.{err_from_is_err_and}
use Rattle.tn_outside.specs.Totals.{Adds, AddsFront}
use Rattle.match_script.specs.declared.types.Script.{Script}
use Rattle.match_laws.specs.Report.{report_so_far, report}
use Rattle.tn_outside.specs.declared.failed.RunFault.{RunFault}
use Rattle.match_engine.proofs.Continued.{told_more, told_front, told_all}
use Rattle.match_engine.proofs.running.write_report.Goals as goal

of_ok : (b d : Bool) → b ≡ d → ◌≡◌ {A = Result Bool RunFault} (Ok b) (Ok d)
of_ok b d e = ap (λ (x : Bool). Ok x) e

-- what was told of another name of the script
moved : (s t : Script) (at : ℕ) (first new : Option (List ℕ)) → s ≡ t → Adds first new (report_so_far s.head (reverse (take at s.body))) → Adds first new (report_so_far t.head (reverse (take at t.body)))
moved s t at first new same h = subst (λ (x : Script). Adds first new (report_so_far x.head (reverse (take at x.body)))) same h

pub lines-preserved : goal.lines-preserved
lines-preserved g c =
    let s : Script = c.lines.game.script in
    let same : s ≡ c.args.script.now = c.lines.invariant.script in
    let first = g.K.Sink.written c.args.sink.now in
    let old = g.K.Sink.written c.lines.sink in
    let new = g.K.Sink.written c.step.new.sink in
    let ok = of_ok _ true c.if-branch.true in
    let place : c.step.new.game.place ≡ c.lines.game.place + 1 = c.in_ok-step.ensures.place ok in
    let so_far = moved c.args.script.now s c.lines.game.place first old (sym same) c.lines.invariant.written in
    record {
      played = c.in_ok-step.ensures.played ok;
      script = c.in_ok-step.ensures.script ∙ same;
      written = rw place (moved s c.args.script.now (c.lines.game.place + 1) first new same (told_more s c.lines.game.place first old new (c.in_ok-step.ensures.more ok) so_far (c.in_ok-step.ensures.written ok)));
      spared = c.in_ok-step.ensures.cause.spared (λ e. absurd cc) ∙ c.lines.invariant.spared;
    }

pub returns-in_err-step-clause-front : goal.returns-in_err-step-clause-front
returns-in_err-step-clause-front g c =
    let p = err_from_is_err_and c.from_residual.result c.from_residual.ensures.1 in
    let s : Script = c.lines.game.script in
    let same : s ≡ c.args.script.now = c.lines.invariant.script in
    let first = g.K.Sink.written c.args.sink.now in
    let old = g.K.Sink.written c.lines.sink in
    let new = g.K.Sink.written c.step.new.sink in
    let so_far = moved c.args.script.now s c.lines.game.place first old (sym same) c.lines.invariant.written in
    rw (p.1) (subst (λ (x : Script). AddsFront first new (report x)) same (told_front s c.lines.game.place first old new c.in_err-step.ensures.there so_far c.in_err-step.ensures.front))

pub returns-clause-report : goal.returns-clause-report
returns-clause-report g c =
    let s : Script = c.lines.game.script in
    let same : s ≡ c.args.script.now = c.lines.invariant.script in
    let first = g.K.Sink.written c.args.sink.now in
    let old = g.K.Sink.written c.lines.sink in
    let end = c.in_ok-step.ensures.end (of_ok _ false c.if-branch.false) in
    let so_far = moved c.args.script.now s c.lines.game.place first old (sym same) c.lines.invariant.written in
    let all : Adds first old (report c.args.script.now) = subst (λ (x : Script). Adds first old (report x)) same (told_all s c.lines.game.place first old end.0 so_far) in
    subst (λ (w : Option (List ℕ)). Adds first w (report c.args.script.now)) (sym end.2) all
