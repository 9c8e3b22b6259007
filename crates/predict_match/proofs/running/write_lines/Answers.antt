use Rattle.std.proofs.Common.{◌≡◌, ◌∙◌, ◌+◌, ◌≤◌, ◌∷◌, List, ℕ, length, reverse, take, sym, ap, subst}
use Rattle.std.proofs.lemmas.Result.{err_from_is_err_and}
use Rattle.tn_outside.specs.Totals.{Adds, AddsFront}
use Rattle.match_script.specs.declared.types.BodyLine.{BodyLine}
use Rattle.match_script.specs.declared.types.Script.{Script}
use Rattle.match_engine.proofs.Written.{reverse_next}
use Rattle.predict_laws.specs.predict_lines.Lines.{predicted_so_far, predicted_at}
use Rattle.predict_match.specs.Beside.{StandBeside}
use Rattle.predict_match.proofs.Beside.{few_done, more_written, front_written, all_written, of_client}
use Rattle.predict_match.proofs.running.write_lines.Goals as goal

pub step-requires-clause-few : goal.step-requires-clause-few
step-requires-clause-few g c =
    few_done c.lines.game c.lines.line-index c.as_slice-lines.result.now
    (subst (λ (l : List BodyLine). length l ≤ 100000) (sym c.as_slice-lines.ensures) c.requires.ranges.few) c.lines.invariant.beside.lines

pub lines-preserved : goal.lines-preserved
lines-preserved g c =
    let lines = c.as_slice-lines.result.now in
    let i = c.lines.line-index in
    let line = c.line-item.result in
    let client = c.args.client in
    let past : List BodyLine = reverse (take i lines) in
    let same : c.lines.game.script ≡ c.args.script.now = c.lines.invariant.script in
    let next : reverse (take (i + 1) lines) ≡ line ∷ past = reverse_next lines i line c.lines-test.true ∙ ap (λ (l : BodyLine). l ∷ past) (sym c.line-item.is) in
    let old = g.K.Sink.written c.lines.sink in
    let new = g.K.Sink.written c.step.new.sink in
    let adds = subst (λ (l : BodyLine). Adds old new (predicted_at c.args.script.now.head client past l)) c.line-item.is
    (subst (λ (s : Script). Adds old new (predicted_at s.head client past line)) same (c.in_ok-step.ensures.written past c.lines.invariant.beside)) in
    record {
      beside = subst (λ (l : List BodyLine). StandBeside c.step.new.game c.step.new.predict client l) (sym next) (c.in_ok-step.ensures.stands past c.lines.invariant.beside);
      script = c.in_ok-step.ensures.script ∙ same;
      written = more_written c.args.script.now.head client lines i line (g.K.Sink.written c.args.sink.now) old new c.lines-test.true c.lines.invariant.written adds;
      spared = c.in_ok-step.ensures.cause.spared (λ e. absurd cc) ∙ c.lines.invariant.spared;
    }

pub returns-in_err-step-clause-front : goal.returns-in_err-step-clause-front
returns-in_err-step-clause-front g c =
    let p = err_from_is_err_and c.from_residual.result c.from_residual.ensures.1 in
    let lines = c.as_slice-lines.result.now in
    let s = c.args.script.now in
    let i = c.lines.line-index in
    let line = c.line-item.result in
    let client = c.args.client in
    let past : List BodyLine = reverse (take i lines) in
    let first = g.K.Sink.written c.args.sink.now in
    let old = g.K.Sink.written c.lines.sink in
    let new = g.K.Sink.written c.step.new.sink in
    let adds = subst (λ (l : BodyLine). AddsFront old new (predicted_at s.head client past l)) c.line-item.is
    (subst (λ (s : Script). AddsFront old new (predicted_at s.head client past line)) c.lines.invariant.script (c.in_err-step.ensures.front past c.lines.invariant.beside)) in
    let front = front_written s.head client lines i line first old new c.lines-test.true c.lines.invariant.written adds in
    rw (p.1) (subst (λ (t : List ℕ). AddsFront first new t)
    (ap (λ (l : List BodyLine). predicted_so_far s.head client (reverse l)) c.as_slice-lines.ensures ∙ of_client s client c.requires.client) front)

pub returns-clause-text : goal.returns-clause-text
returns-clause-text g c =
    let lines = c.as_slice-lines.result.now in
    let s = c.args.script.now in
    let first = g.K.Sink.written c.args.sink.now in
    let new = g.K.Sink.written c.lines.sink in
    let so_far = all_written s.head c.args.client lines c.lines.line-index first new c.lines-test.false c.lines.invariant.written in
    subst (λ (t : List ℕ). Adds first new t)
    (ap (λ (l : List BodyLine). predicted_so_far s.head c.args.client (reverse l)) c.as_slice-lines.ensures ∙ of_client s c.args.client c.requires.client) so_far
