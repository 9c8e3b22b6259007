use Rattle.std.proofs.Common.{◌∙◌, ◌∷◌, ℕ, List, get_or, take, reverse, refl, sym, ap, subst, arith}
use Rattle.std.proofs.lemmas.Result.{err_from_is_err_and}
use Rattle.tn_outside.specs.Totals.{Adds, AddsFront}
use Rattle.relay_script.specs.declared.entries.Entry.{Entry}
use Rattle.relay_script.specs.declared.types.PlacedLine.{PlacedLine}
use Rattle.relay_report.specs.Met.{past_of}
use Rattle.relay_report.specs.Report.{line_text, report_so_far}
use Rattle.relay_node.specs.Node.{Stands}
use Rattle.relay_node.specs.Running.{IsBehind}
use Rattle.relay_node.proofs.Places.{past_relay, behind_later}
use Rattle.relay_node.proofs.Steps.{no_line, is_there, fits, is_named, ordered, few_lines_then, few_then}
use Rattle.relay_node.proofs.Texts.{next_is, more_written, front_written, all_written, so_far_front, whole}
use Rattle.relay_node.proofs.running.write_report.Goals as goal

pub catch_up-requires : goal.catch_up-requires
catch_up-requires g c =
    let r = c.args.script.now in
    let lines = c.as_slice-lines.result.now in
    let i = c.lines.placed-index in
    let placed : PlacedLine = get_or lines i no_line in
    let v = c.lines.invariant in
    let order = ordered r c.requires lines c.as_slice-lines.ensures i c.lines-test.true placed refl c.lines.place v.order in
    record {
      earlier = reverse (take i lines);
      at = v.at;
      behind = v.behind;
      order = order.0;
      within = (fits r c.requires lines c.as_slice-lines.ensures i c.lines-test.true placed refl).1;
      script = v.script;
      fits = c.requires.script.lines;
      few = few_lines_then r c.requires lines c.as_slice-lines.ensures i c.lines-test.true placed refl;
    }

pub returns-in_err-catch_up-clause-front : goal.returns-in_err-catch_up-clause-front
returns-in_err-catch_up-clause-front g c =
    let p = err_from_is_err_and c.from_residual.result c.from_residual.ensures.1 in
    let r = c.args.script.now in
    let first = g.K.Sink.written c.args.sink.now in
    let now = g.K.Sink.written c.lines.sink in
    let front = so_far_front r c.as_slice-lines.result.now c.lines.placed-index first now c.lines.invariant.written in
    rw (p.1) (subst (λ (t : List ℕ). AddsFront first now t) (ap (λ (l : List PlacedLine). report_so_far r (reverse l)) c.as_slice-lines.ensures ∙ whole r) front)

pub step-requires : goal.step-requires
step-requires g c =
    let r = c.args.script.now in
    let lines = c.as_slice-lines.result.now in
    let i = c.lines.placed-index in
    let placed : PlacedLine = get_or lines i no_line in
    let v = c.lines.invariant in
    let order = ordered r c.requires lines c.as_slice-lines.ensures i c.lines-test.true placed refl c.lines.place v.order in
    let earlier : List PlacedLine = reverse (take i lines) in
    let named = is_named r c.requires lines c.as_slice-lines.ensures i c.lines-test.true placed refl in
    record {
      past = past_of r.script.body placed.behind earlier;
      stands = c.in_ok-catch_up.ensures.goes earlier v.at v.behind (few_lines_then r c.requires lines c.as_slice-lines.ensures i c.lines-test.true placed refl);
      named_is = omega (arith, named, c.in_ok-catch_up.ensures.keeps.spectators, v.count);
      few = few_then r c.requires lines c.as_slice-lines.ensures i c.lines-test.true placed refl c.lines.place v.behind order.0;
    }

pub returns-in_err-step-clause-front : goal.returns-in_err-step-clause-front
returns-in_err-step-clause-front g c =
    let p = err_from_is_err_and c.from_residual-in_err-step.result c.from_residual-in_err-step.ensures.1 in
    let r = c.args.script.now in
    let lines = c.as_slice-lines.result.now in
    let i = c.lines.placed-index in
    let placed : PlacedLine = get_or lines i no_line in
    let v = c.lines.invariant in
    let order = ordered r c.requires lines c.as_slice-lines.ensures i c.lines-test.true placed refl c.lines.place v.order in
    let earlier : List PlacedLine = reverse (take i lines) in
    let past = past_of r.script.body placed.behind earlier in
    let stands = c.in_ok-catch_up.ensures.goes earlier v.at v.behind (few_lines_then r c.requires lines c.as_slice-lines.ensures i c.lines-test.true placed refl) in
    let few = few_then r c.requires lines c.as_slice-lines.ensures i c.lines-test.true placed refl c.lines.place v.behind order.0 in
    let first = g.K.Sink.written c.args.sink.now in
    let old = g.K.Sink.written c.lines.sink in
    let new = g.K.Sink.written c.step.new.sink in
    let script = c.in_ok-catch_up.ensures.keeps.script ∙ v.script in
    let relay = c.in_ok-catch_up.ensures.keeps.relay ∙ v.relay in
    let adds : AddsFront old new (line_text r.script.head r.client past placed.line) =
    subst (λ (t : List ℕ). AddsFront old new t) (λ j. line_text (script j).head (relay j) past placed.line) (c.in_err-step.ensures.front past stands few) in
    let front = front_written r lines i placed c.lines-test.true (is_there r c.requires lines c.as_slice-lines.ensures i c.lines-test.true placed refl) first old new v.written adds in
    rw (p.1) (subst (λ (t : List ℕ). AddsFront first new t) (ap (λ (l : List PlacedLine). report_so_far r (reverse l)) c.as_slice-lines.ensures ∙ whole r) front)

pub lines-preserved : goal.lines-preserved
lines-preserved g c =
    let r = c.args.script.now in
    let lines = c.as_slice-lines.result.now in
    let i = c.lines.placed-index in
    let placed : PlacedLine = get_or lines i no_line in
    let v = c.lines.invariant in
    let order = ordered r c.requires lines c.as_slice-lines.ensures i c.lines-test.true placed refl c.lines.place v.order in
    let earlier : List PlacedLine = reverse (take i lines) in
    let past = past_of r.script.body placed.behind earlier in
    let stands = c.in_ok-catch_up.ensures.goes earlier v.at v.behind (few_lines_then r c.requires lines c.as_slice-lines.ensures i c.lines-test.true placed refl) in
    let few = few_then r c.requires lines c.as_slice-lines.ensures i c.lines-test.true placed refl c.lines.place v.behind order.0 in
    let first = g.K.Sink.written c.args.sink.now in
    let old = g.K.Sink.written c.lines.sink in
    let new = g.K.Sink.written c.step.new.sink in
    let script = c.in_ok-catch_up.ensures.keeps.script ∙ v.script in
    let relay = c.in_ok-catch_up.ensures.keeps.relay ∙ v.relay in
    let adds : Adds old new (line_text r.script.head r.client past placed.line) =
    subst (λ (t : List ℕ). Adds old new t) (λ j. line_text (script j).head (relay j) past placed.line) (c.in_ok-step.ensures.written past stands few) in
    let there = is_there r c.requires lines c.as_slice-lines.ensures i c.lines-test.true placed refl in
    let next = next_is r lines i placed c.lines-test.true there in
    let behind : IsBehind (placed ∷ earlier) placed.behind = (omega arith, behind_later earlier c.lines.place placed.behind v.behind order.0) in
    record {
      at = subst (λ (l : List PlacedLine). Stands c.step.new.node (past_of r.script.body placed.behind l)) (sym next)
          (subst (λ (l : List Entry). Stands c.step.new.node l) (sym (past_relay r.script.body earlier placed)) (c.in_ok-step.ensures.steps past stands few));
      behind = subst (λ (l : List PlacedLine). IsBehind l placed.behind) (sym next) behind;
      order = order.1;
      relay = c.in_ok-step.ensures.keeps.relay ∙ relay;
      script = c.in_ok-step.ensures.keeps.script ∙ script;
      count = c.in_ok-step.ensures.keeps.spectators ∙ c.in_ok-catch_up.ensures.keeps.spectators ∙ v.count;
      written = more_written r lines i placed c.lines-test.true there first old new v.written adds;
      spared = c.in_ok-step.ensures.cause.spared (λ e. absurd cc) ∙ v.spared;
    }

pub returns-clause-report : goal.returns-clause-report
returns-clause-report g c =
    let r = c.args.script.now in
    let lines = c.as_slice-lines.result.now in
    let first = g.K.Sink.written c.args.sink.now in
    let new = g.K.Sink.written c.lines.sink in
    let all = all_written r lines c.lines.placed-index first new c.lines-test.false c.lines.invariant.written in
    subst (λ (t : List ℕ). Adds first new t) (ap (λ (l : List PlacedLine). report_so_far r (reverse l)) c.as_slice-lines.ensures ∙ whole r) all
